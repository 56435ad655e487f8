use Rattle.mg_crew.proofs.Sharing.{stays_itself}
use Rattle.mg_crew.proofs.crew.work.Goals as goal

pub loop-init : goal.loop-init
loop-init g c = record { stays = stays_itself _ _ c.requires.at_work.shared; placed = c.begin.ensures.place }
