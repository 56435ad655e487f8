use Rattle.mg_crew.proofs.Levelled.{stays_at_work, works_on}
use Rattle.mg_crew.proofs.rounds.serve_all.Goals as goal

pub loop-node-init : goal.loop-node-init
loop-node-init g c = stays_at_work _ _ _ _ c.requires.at_work

pub loop-node-preserved : goal.loop-node-preserved
loop-node-preserved g c = works_on _ _ _ _ _ _ _ c.loop-node.invariant c.serve-more.ensures
