use Rattle.mg_crew.proofs.Levelled.{stays_at_work, works_on}
use Rattle.mg_crew.proofs.rounds.feed_all.Goals as goal

pub loop-input-init : goal.loop-input-init
loop-input-init g c = stays_at_work _ _ _ _ c.requires.at_work

pub loop-input-preserved : goal.loop-input-preserved
loop-input-preserved g c = works_on _ _ _ _ _ _ _ c.loop-input.invariant c.feed_from-more.ensures
