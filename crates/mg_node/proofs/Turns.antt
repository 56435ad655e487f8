-- What a performed work of a node makes of the node: from one stage to the next, or to its end.
use Rattle.std.proofs.Common.{◌≡◌, ℕ, ◌+◌, ◌<◌, ◌≤◌, true, List, ◌++◌, length, Option, Some, Result, slice_get, ap, subst, ◌∙◌, if◌then◌else◌}
use Rattle.mg_value.specs.Payload.{Plain}
use Rattle.mg_value.specs.Packet.{Stamped}
use Rattle.mg_settled.specs.Prefix.{StreamPrefix}
use Rattle.mg_settled.specs.Extension.{AreExtendedBy}
use Rattle.mg_calc.specs.Rules.{Laws}
use Rattle.mg_calc.specs.declared.cause.Cause.{Cause}
use Rattle.mg_calc.specs.declared.emission.Laid.{Laid}
use Rattle.mg_calc.specs.declared.node_fault.Phase.{Phase}
use Rattle.mg_calc.specs.declared.plan_node.PlanNode.{PlanNode}
use Rattle.mg_calc.specs.Outcome.{Failure, Outcome}
use Rattle.mg_calc.specs.Meaning.{count_of}
use Rattle.mg_route.specs.HolderView.{FitsHolder}
use Rattle.mg_calc.proofs.Solutions.{one_solution}
use Rattle.mg_calc.specs.Equations.{rules_at}
use Rattle.mg_node.specs.Views.{ContextView, PerformedView}
use Rattle.mg_node.specs.Job.{LoggedJob, Solves, streams_at, stage, IsLastWork, IsTask, log_after, calls_before, calls_in}
use Rattle.mg_node.specs.Lawful.{HasAnswered, answer_in, IsWorkOf, LawfulOutcome, StandsAt, is_close, come_to, calls_by}
use Rattle.mg_node.specs.Commits.{raised_before, calls_in_phase}
use Rattle.mg_node.proofs.LayingAll.{outputs_at, failure_at}

-- the outcome of a node after its work of a number
abbrev pub behind_work : {laws : Laws} → LoggedJob laws → List (StreamPrefix Plain) → PlanNode → ℕ → Phase → Outcome
behind_work {laws} job streams node n phase = come_to job streams node (n + calls_in_phase phase) (is_close phase)

-- a node's work of a number was performed, with an answer, in a context
pub record IsDone {laws : Laws} (job : LoggedJob laws) (streams : List (StreamPrefix Plain)) (node : PlanNode) (n : ℕ) (phase : Phase) (context : ContextView) (answer : Result (List Laid) Cause) : Type 0 where
  pub fits : FitsHolder node context.told
  pub places : length context.set ≡ length node.inputs
  pub task : IsTask job.job streams node n phase context.set
  pub answered : HasAnswered answer (stage job.job streams node n).state context.told.state (answer_in (rules_at job.job node) node.law (stage job.job streams node n).state phase context.set)
  pub log : context.told.log ≡ log_after job node (calls_before streams node n ++ calls_in phase context.set)

-- so was one that stands in a window as performed
pub done_by : {laws : Laws} (job : LoggedJob laws) (streams : List (StreamPrefix Plain)) (number : ℕ) (node : PlanNode) (n : ℕ) (phase : Phase) (p : PerformedView) → Solves job streams → slice_get job.job.plan.nodes number ≡ Some node
    → StandsAt job number n phase (record { work = p.work; answer = Some p.answer }) → IsDone job streams node n phase p.work.context p.answer
unfolding LawfulOutcome
done_by {laws} job streams number node n phase p solves there stands =
    let w : IsWorkOf job (record { work = p.work; answer = Some p.answer }) = stands.lawful in
    let same : w.streams ≡ streams = one_solution job.job w.streams streams w.solves.solution solves.solution in
    let node_is : w.node ≡ node =
    (let at : slice_get job.job.plan.nodes p.work.node ≡ Some w.node = w.there in
    let here : slice_get job.job.plan.nodes p.work.node ≡ Some node = ap (λ (k : ℕ). slice_get job.job.plan.nodes k) stands.node_is ∙ there in
    cc) in
    subst (λ (ss : List (StreamPrefix Plain)). IsDone job ss node n phase p.work.context p.answer) same
    (subst (λ (m : PlanNode). IsDone job w.streams m n phase p.work.context p.answer) node_is
    (subst (λ (k : ℕ). IsDone job w.streams w.node k phase p.work.context p.answer) stands.number_is
    (subst (λ (f : Phase). IsDone job w.streams w.node p.work.number f p.work.context p.answer) stands.phase_is
    (record { fits = w.fits; places = w.places; task = w.task; answered = w.at_work.0; log = w.at_work.1 }))))

-- what such a work makes of the node
pub record Turns {laws : Laws} (job : LoggedJob laws) (streams : List (StreamPrefix Plain)) (node : PlanNode) (n : ℕ) (phase : Phase) (context : ContextView) (answer : Result (List Laid) Cause) : Type 0 where
  -- the solution's streams extend the outputs as they are raised before the work, and as they are after it. After a fault the streams are
  -- the outputs after it.
  pub before : AreExtendedBy (raised_before node.shape.offset phase (stage job.job streams node n).outputs) (streams_at streams node.outputs)
  pub extended : AreExtendedBy (behind_work job streams node n phase).outputs (streams_at streams node.outputs)
  pub frozen : (f : Failure) → (behind_work job streams node n phase).fault ≡ Some f → streams_at streams node.outputs ≡ (behind_work job streams node n phase).outputs
  -- it lays the answer
  pub outputs : (behind_work job streams node n phase).outputs ≡ outputs_at node.shape.offset phase (stage job.job streams node n).outputs answer
  pub fault : (behind_work job streams node n phase).fault ≡ failure_at node.shape.offset phase (stage job.job streams node n).outputs answer
  -- the calculator keeps the state that the node has reached, and its log has the node's calls; other calculators keep nothing
  pub state : context.told.state ≡ (behind_work job streams node n phase).state
  pub log : calls_before streams node n ++ calls_in phase context.set ≡ calls_by streams node (n + calls_in_phase phase) (is_close phase)
  pub nothing : node.shape.stateless ≡ true → (behind_work job streams node n phase).state ≡ (stage job.job streams node n).state
  -- the set or call is counted, and Close is the last work
  pub taken : n ≤ count_of job.job streams node → n + calls_in_phase phase ≤ count_of job.job streams node
  pub last : is_close phase ≡ true → IsLastWork job.job streams node (n + calls_in_phase phase)
  pub none : is_close phase ≡ true → (k : ℕ) (f : Phase) (set : List (Option (Stamped Plain))) → n < k → IsTask job.job streams node k f set → ⊥
  pub one : calls_in_phase phase + (if is_close phase then 1 else 0) ≡ 1
