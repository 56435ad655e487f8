use Rattle.mg_crew.proofs.Sharing.{stays_on}
use Rattle.mg_crew.proofs.working.run_in_steps.Goals as goal

pub steps-preserved : goal.steps-preserved
steps-preserved g c = stays_on _ _ _ _ c.steps.invariant c.run-further.ensures
