-- What a run leaves of the user-supplied calculators.
use Rattle.std.specs.Prelude.{◌≡◌, ◌≢◌, ◌⊎◌, ℕ, suc, ◌≤◌, List, ◌∷◌, ◌++◌, map, take, length, All, Bool, true, [], Some, option_map, slice_get, if◌then◌else◌}
use Rattle.mg_value.specs.Payload.{Plain}
use Rattle.mg_settled.specs.Prefix.{StreamPrefix}
use Rattle.mg_settled.specs.Settled.{settled_sets}
use Rattle.mg_edge.specs.Edge.{SourceTold}
use Rattle.mg_calc.specs.Rules.{Laws}
use Rattle.mg_calc.specs.declared.call.Call.{Call}
use Rattle.mg_calc.specs.declared.call.Call.TheVariants.{Begun, Shown, Finished}
use Rattle.mg_calc.specs.declared.plan.Plan.{Plan}
use Rattle.mg_calc.specs.declared.plan_node.PlanNode.{PlanNode}
use Rattle.mg_calc.specs.Outcome.{Outcome, shown_all}
use Rattle.mg_calc.specs.Equations.{Job, IsJob, IsSolution, sides_of, inputs_of as ports_of, outcome_of, rules_at}
use Rattle.mg_calc.specs.Meaning.{count_of, shown_sets, log_of}
use Rattle.mg_calc.specs.Told.{BoxTold}
use Rattle.mg_feed.specs.Graph.{inputs_of}
use Rattle.mg_answer.specs.Answer.{job_of}
use Rattle.mg_answer.specs.Devices.{Device, Untouched}
use Rattle.mg_answer.specs.declared.status.Status.{Status}
use Rattle.mg_answer.specs.declared.status.Status.TheVariants.{OutOfMemory}
use Rattle.mg_node.specs.Lawful.{kept_after}
use Rattle.mg_node.specs.Had.{had_close}
use Rattle.mg_drive.specs.Over.{OverInput}

-- the first `count` calls of a node's calculator, with Close after them or not: Open, and a Process for each set that the node is shown
abbrev pub first_calls : Job → List (StreamPrefix Plain) → PlanNode → ℕ → Bool → List Call
first_calls job streams node count close =
    take count (Begun ∷ map (λ e. Shown e.at e.set) (shown_sets job streams node)) ++ (if close then Finished ∷ [] else [])

-- the outcome of a node after it was opened and shown its first `shown` settled sets
abbrev pub come_to : Job → List (StreamPrefix Plain) → PlanNode → ℕ → Outcome
come_to job streams node shown = shown_all (rules_at job node) node.shape.offset (length node.outputs) (sides_of job node) (take shown (settled_sets node.policy (ports_of streams node)))

-- what a node's calculator keeps after it was opened and shown its first `shown` settled sets, and perhaps had Close after them
abbrev pub kept_by : Job → List (StreamPrefix Plain) → PlanNode → ℕ → Bool → List Plain
kept_by job streams node shown close =
    if close then kept_after ((rules_at job node).finish (come_to job streams node shown).state) (come_to job streams node shown).state
    else (come_to job streams node shown).state

-- A calculator had the calls that its node has in a solution. If it tells a log, the log grew by just these calls, in their order. Its
-- state is what these calls leave. That is the node's state after the last set that it was shown, or, unless Open failed, what Close gives
-- for that state.
pub record HadItsCalls (job : Job) (streams : List (StreamPrefix Plain)) (node : PlanNode) (before now : BoxTold) : Type 0 where
  pub log : now.log ≡ option_map (λ calls. calls ++ log_of job streams node) before.log
  pub state : now.state ≡ kept_by job streams node (count_of job streams node) (had_close (outcome_of job streams node).fault)
  pub law : now.law ≡ before.law
  pub shape : now.shape ≡ before.shape

-- A calculator had a prefix of the calls that its node has in a solution: a number of first calls, perhaps with Close after them. Close
-- comes only if Open came. If the calculator tells a log, the log grew by just these calls. Before Open its state is what it was. From Open
-- on it is what these calls leave.
pub record KeepsAFront (job : Job) (streams : List (StreamPrefix Plain)) (node : PlanNode) (before now : BoxTold) : Type 0 where
  pub count : ℕ
  pub close : Bool
  pub opened : close ≡ true → 1 ≤ count
  pub log : now.log ≡ option_map (λ calls. calls ++ first_calls job streams node count close) before.log
  pub unopened : count ≡ 0 → now.state ≡ before.state
  pub state : (shown : ℕ) → count ≡ suc shown → now.state ≡ kept_by job streams node shown close
  pub law : now.law ≡ before.law
  pub shape : now.shape ≡ before.shape

-- The calculator that stood at a place before and the one that stands there now are related by `P`.
pub record IsRelatedAt (place : ℕ) (P : BoxTold → BoxTold → Type 0) (boxes : Device (List BoxTold)) : Type 0 where
  pub before : BoxTold
  pub now : BoxTold
  pub was : slice_get boxes.before place ≡ Some before
  pub is : slice_get boxes.now place ≡ Some now
  pub holds : P before now

-- All calculators come back in their order, and each that no node uses had no call.
pub record CalculatorsCameBack (plan : Plan) (before now : List BoxTold) : Type 0 where
  pub count : length now ≡ length before
  pub unused : (place : ℕ) → All (λ node. ¬ (node.box_number ≡ Some place)) plan.nodes → slice_get now place ≡ slice_get before place

-- Recorded runs --

-- In the solution of a job each calculator that a node uses is related by `had` to what it was before. The job has a valid plan, and inputs
-- that fit it.
pub record HadInJob (had : Job → List (StreamPrefix Plain) → PlanNode → BoxTold → BoxTold → Type 0) (job : Job) (boxes : Device (List BoxTold)) : Type 0 where
  pub is_job : IsJob job
  pub streams : List (StreamPrefix Plain)
  pub solution : IsSolution job streams
  pub each : (number place : ℕ) (node : PlanNode) → slice_get job.plan.nodes number ≡ Some node → node.box_number ≡ Some place
      → IsRelatedAt place (had job streams node) boxes

-- Each calculator that a node uses had all the calls that its node has in the solution.
abbrev pub HadCallsOf : Job → Device (List BoxTold) → Type 0
HadCallsOf job boxes = HadInJob HadItsCalls job boxes

-- Each calculator that a node uses had a prefix of the calls that its node has in the solution. It keeps what these calls leave.
abbrev pub HadFronts : Job → Device (List BoxTold) → Type 0
HadFronts job boxes = HadInJob KeepsAFront job boxes

-- Each calculator that a node uses had all the calls that its node has in the solution over what was read of the input.
abbrev pub AllHadCalls : Laws → Plan → Device SourceTold → Device (List BoxTold) → Type 0
AllHadCalls laws plan input boxes = OverInput (inputs_of plan) input (λ read. HadCallsOf (job_of laws plan read) boxes)

-- Memory ran out. Either no calculator had a call, or the input was read and each calculator that a node uses had a prefix of its node's
-- calls. It keeps what these calls leave.
abbrev pub HadSome : Laws → Plan → Device SourceTold → Device (List BoxTold) → Type 0
HadSome laws plan input boxes = Untouched boxes ⊎ OverInput (inputs_of plan) input (λ read. HadFronts (job_of laws plan read) boxes)

-- What a recorded run leaves of the calculators. All come back in their order. A calculator that no node uses had no call. Each other
-- calculator had all of its calls, or, if memory ran out, a prefix of them, perhaps with Close after it.
pub record RunLeaves (laws : Laws) (plan : Plan) (status : Status) (input : Device SourceTold) (boxes : Device (List BoxTold)) : Type 0 where
  pub back : CalculatorsCameBack plan boxes.before boxes.now
  pub used : status ≢ OutOfMemory → AllHadCalls laws plan input boxes
  pub out : status ≡ OutOfMemory → HadSome laws plan input boxes
