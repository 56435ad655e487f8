-- A step that did something leaves less to do, and no step leaves more.
use Rattle.std.proofs.Common.{◌<◌, ◌≤◌, arith}
use Rattle.mg_calc.specs.Rules.{Laws}
use Rattle.mg_calc.specs.declared.event.Event.{Event}
use Rattle.mg_calc.specs.declared.event.Event.TheVariants.{Deliver, Advance, Claim, Perform, Commit, Relax}
use Rattle.mg_calc.specs.declared.event.Effect.{Effect}
use Rattle.mg_calc.specs.declared.event.Effect.TheVariants.{Did}
use Rattle.mg_node.specs.Job.{LoggedJob}
use Rattle.mg_sched.specs.Views.{NetView}
use Rattle.mg_sched.specs.StandsFor.{StandsFor, StandsForSome, IsRunning}
use Rattle.mg_sched.specs.Acts.{IsEventOf, Acts}
use Rattle.mg_sched.specs.Sweeps.{Becomes, itself, step}
use Rattle.mg_sched.specs.Code.Left.{left_in}
use Rattle.mg_sched.proofs.Becoming.{becomes_runs, becomes_stands}
use Rattle.mg_sched.proofs.LeftDeliver.{deliver_less, deliver_no_more}
use Rattle.mg_sched.proofs.LeftAdvance.{advance_less, advance_no_more}
use Rattle.mg_sched.proofs.LeftClaim.{claim_less, claim_no_more}
use Rattle.mg_sched.proofs.LeftPerform.{perform_less, perform_no_more}
use Rattle.mg_sched.proofs.LeftCommit.{commit_less, commit_no_more}
use Rattle.mg_sched.proofs.LeftRelax.{relax_less, relax_no_more}

pub acts_less : {laws : Laws} (job : LoggedJob laws) (event : Event) (before now : NetView) → IsEventOf before event → IsRunning before → StandsFor job before → Acts laws event Did before now → left_in now < left_in before
acts_less {laws} job (Deliver edge) before now of running h a = deliver_less job edge before now running h a
acts_less {laws} job (Advance node) before now of running h a = advance_less job node before now of running h a
acts_less {laws} job (Claim node) before now of running h a = claim_less job node before now of running h a
acts_less {laws} job (Perform node number) before now of running h a = perform_less job node number before now of running h a
acts_less {laws} job (Commit node number) before now of running h a = commit_less job node number before now of running h a
acts_less {laws} job Relax before now of running h a = relax_less job before now h a

pub acts_no_more : {laws : Laws} (job : LoggedJob laws) (event : Event) (effect : Effect) (before now : NetView) → IsEventOf before event → IsRunning before → StandsFor job before → Acts laws event effect before now → left_in now ≤ left_in before
acts_no_more {laws} job (Deliver edge) effect before now of running h a = deliver_no_more job edge effect before now running h a
acts_no_more {laws} job (Advance node) effect before now of running h a = advance_no_more node effect before now a
acts_no_more {laws} job (Claim node) effect before now of running h a = claim_no_more job node effect before now of running h a
acts_no_more {laws} job (Perform node number) effect before now of running h a = perform_no_more job node number effect before now of running h a
acts_no_more {laws} job (Commit node number) effect before now of running h a = commit_no_more job node number effect before now of running h a
acts_no_more {laws} job Relax effect before now of running h a = relax_no_more job effect before now h a

-- Steps one after the other.

pub becomes_no_more : {laws : Laws} (before now : NetView) → IsRunning before → StandsForSome laws before → Becomes laws before now → left_in now ≤ left_in before
becomes_no_more {laws} before now running some itself = omega arith
becomes_no_more {laws} before now running some (step event effect between after h of acts) =
    let first = becomes_no_more before between running some h in
    let last = acts_no_more some.job event effect between after of (becomes_runs before between running h) (becomes_stands some.job before between running some.stands h) acts in
    omega (arith, first, last)
