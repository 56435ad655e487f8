-- Every step of a net keeps what it stands for.
use Rattle.mg_calc.specs.Rules.{Laws}
use Rattle.mg_calc.specs.declared.event.Event.{Event}
use Rattle.mg_calc.specs.declared.event.Event.TheVariants.{Deliver, Advance, Claim, Perform, Commit, Relax}
use Rattle.mg_calc.specs.declared.event.Effect.{Effect}
use Rattle.mg_node.specs.Job.{LoggedJob}
use Rattle.mg_sched.specs.Views.{NetView}
use Rattle.mg_sched.specs.StandsFor.{StandsFor, IsRunning}
use Rattle.mg_sched.specs.Acts.{IsEventOf, Acts}
use Rattle.mg_sched.proofs.DeliverKeeps.{deliver_stands}
use Rattle.mg_sched.proofs.AdvanceKeeps.{advance_stands}
use Rattle.mg_sched.proofs.ClaimKeeps.{claim_stands}
use Rattle.mg_sched.proofs.PerformKeeps.{perform_stands}
use Rattle.mg_sched.proofs.CommitKeeps.{commit_stands}
use Rattle.mg_sched.proofs.RelaxKeeps.{relax_stands}

pub acts_stand : {laws : Laws} (job : LoggedJob laws) (event : Event) (effect : Effect) (before now : NetView) → IsEventOf before event → IsRunning before → StandsFor job before → Acts laws event effect before now → StandsFor job now
acts_stand {laws} job (Deliver edge) effect before now of running h a = deliver_stands job edge effect before now running h a
acts_stand {laws} job (Advance node) effect before now of running h a = advance_stands job node effect before now of running h a
acts_stand {laws} job (Claim node) effect before now of running h a = claim_stands job node effect before now of running h a
acts_stand {laws} job (Perform node number) effect before now of running h a = perform_stands job node number effect before now of running h a
acts_stand {laws} job (Commit node number) effect before now of running h a = commit_stands job node number effect before now of running h a
acts_stand {laws} job Relax effect before now of running h a = relax_stands job effect before now h a
