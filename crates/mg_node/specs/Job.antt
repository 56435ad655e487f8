-- What a job makes of each of its nodes, after a number of its sets, calls or answers. The solution's whole streams tell which sets there
-- are, and what becomes of the node at each of them.
use Rattle.std.specs.Prelude.{◌≡◌, ℕ, ◌<◌, List, [], ◌∷◌, ◌++◌, map, take, length, Option, Some, None, option_map, unwrap_or, slice_get, slice_index_or, ⊤}
use Rattle.std.specs.List.{fold, filter_map, range_with_len}
use Rattle.std.specs.Option.{option_and_then}
use Rattle.mg_time.specs.Time.{done}
use Rattle.mg_value.specs.Payload.{Plain}
use Rattle.mg_value.specs.Packet.{Stamped}
use Rattle.mg_value.specs.declared.policy.Policy.{Policy}
use Rattle.mg_value.specs.declared.policy.Policy.TheVariants.{Default}
use Rattle.mg_settled.specs.Prefix.{StreamPrefix, empty_prefix, all_appended}
use Rattle.mg_settled.specs.Settled.{TimedSet, settled_sets, reach}
use Rattle.mg_settled.specs.Loopback.{replies, packet_of}
use Rattle.mg_calc.specs.Rules.{Laws}
use Rattle.mg_calc.specs.declared.call.Call.{Call}
use Rattle.mg_calc.specs.declared.call.Call.TheVariants.{Begun, Shown, Finished}
use Rattle.mg_calc.specs.declared.law.Law.{Law}
use Rattle.mg_calc.specs.declared.law.Law.TheVariants.{Count, SideOnce, Constants, Loopback}
use Rattle.mg_calc.specs.declared.node_fault.Phase.{Phase}
use Rattle.mg_calc.specs.declared.node_fault.Phase.TheVariants.{Open, Call as SourceCall, Process, Close}
use Rattle.mg_calc.specs.declared.plan.Plan.{Plan}
use Rattle.mg_calc.specs.declared.plan_node.PlanNode.{PlanNode}
use Rattle.mg_calc.specs.Shape.{IsOuter, IsSource, calls_of}
use Rattle.mg_calc.specs.Told.{BoxTold}
use Rattle.mg_calc.specs.Outcome.{Outcome, opened, called, shown_all}
use Rattle.mg_calc.specs.Equations.{Job, IsJob, IsSolution, sides_of, inputs_of, rules_at}
use Rattle.mg_node.specs.declared.role.Role.{Role}
use Rattle.mg_node.specs.declared.role.Role.TheVariants.{Source, Loop, Sets}

-- a job whose stated laws have these rules, and the user-supplied calculators, as each was at its start
pub record LoggedJob (laws : Laws) : Type 0 where
  pub job : Job
  pub boxes : List BoxTold
  pub same : job.laws ≡ laws

-- some streams are the solution of a job; the job's plan is valid, and its inputs fit the plan
pub record Solves {laws : Laws} (job : LoggedJob laws) (streams : List (StreamPrefix Plain)) : Type 0 where
  pub is_job : IsJob job.job
  pub solution : IsSolution job.job streams

-- Consumers are the nodes, and after them the collector of the graph's outputs, which has the default policy.

-- the numbers of the streams at the ports of a consumer
abbrev pub ports_of : Plan → ℕ → List ℕ
ports_of plan consumer = unwrap_or (option_map (λ node. node.inputs) (slice_get plan.nodes consumer)) plan.outputs

-- the policy of a consumer; the collector has the default policy
abbrev pub policy_of : Plan → ℕ → Policy
policy_of plan consumer = unwrap_or (option_map (λ node. node.policy) (slice_get plan.nodes consumer)) Default

-- the law of a consumer; the collector has none
abbrev pub law_of : Plan → ℕ → Option Law
law_of plan consumer = option_map (λ node. node.law) (slice_get plan.nodes consumer)

-- the streams at some ports
abbrev pub streams_at : List (StreamPrefix Plain) → List ℕ → List (StreamPrefix Plain)
streams_at streams ports = map (λ number. slice_index_or streams number empty_prefix) ports

-- the role of the engine of a node with this law
abbrev pub role_of : Law → Role
role_of (Count count start step) = Source count
role_of (SideOnce at) = Source 1
role_of Constants = Source 0
role_of Loopback = Loop
role_of law = Sets

-- the stream at LOOP of a loopback
abbrev pub loop_of : List (StreamPrefix Plain) → PlanNode → StreamPrefix Plain
loop_of streams node = slice_index_or (inputs_of streams node) 0 empty_prefix

-- the stream at MAIN of a loopback
abbrev pub main_of : List (StreamPrefix Plain) → PlanNode → StreamPrefix Plain
main_of streams node = slice_index_or (inputs_of streams node) 1 empty_prefix

-- the settled sets of a node
abbrev pub sets_of : List (StreamPrefix Plain) → PlanNode → List (TimedSet Plain)
sets_of streams node = settled_sets node.policy (inputs_of streams node)

-- how many sets a node has in some streams, or how many calls a source, or answers a loopback; by its law
abbrev pub count_by : Law → List (StreamPrefix Plain) → PlanNode → ℕ
count_by (Count count start step) streams node = calls_of node.law
count_by (SideOnce at) streams node = calls_of node.law
count_by Constants streams node = calls_of node.law
count_by Loopback streams node = length (replies (main_of streams node) (loop_of streams node))
count_by law streams node = length (sets_of streams node)

-- how many sets, calls or answers a node has in some streams
abbrev pub count_of_all : List (StreamPrefix Plain) → PlanNode → ℕ
count_of_all streams node = count_by node.law streams node

-- no more sets or answers of a node come, by its law: its sets reach the end of all times. At a loopback each packet of MAIN is answered,
-- and MAIN has ended. Of a source this always holds, as it never has more than its calls.
abbrev pub IsOverBy : Law → List (StreamPrefix Plain) → PlanNode → Type 0
IsOverBy (Count count start step) streams node = ⊤
IsOverBy (SideOnce at) streams node = ⊤
IsOverBy Constants streams node = ⊤
IsOverBy Loopback streams node =
    (length (replies (main_of streams node) (loop_of streams node)) ≡ length (main_of streams node).packets) × ((main_of streams node).bound ≡ done)
IsOverBy law streams node = reach node.policy (inputs_of streams node) ≡ done

-- the packets of a loopback's first answers, a number of them, as a prefix
abbrev pub answered : ℕ → StreamPrefix Plain → StreamPrefix Plain → StreamPrefix Plain
answered n main loop = all_appended empty_prefix (filter_map packet_of (take n (replies main loop)))

-- the outcome of a node after its first n sets, calls or answers, by its law. The node was opened, and then shown these sets or called so
-- often, up to its first fault.
abbrev pub stage_by : Law → Job → List (StreamPrefix Plain) → PlanNode → ℕ → Outcome
stage_by (Count count start step) job streams node n = fold (called node.law) (opened (rules_at job node) None (length node.outputs) (sides_of job node)) (range_with_len 0 n)
stage_by (SideOnce at) job streams node n = fold (called node.law) (opened (rules_at job node) None (length node.outputs) (sides_of job node)) (range_with_len 0 n)
stage_by Constants job streams node n = fold (called node.law) (opened (rules_at job node) None (length node.outputs) (sides_of job node)) (range_with_len 0 n)
stage_by Loopback job streams node n = record { state = []; outputs = answered n (main_of streams node) (loop_of streams node) ∷ []; taken = n; fault = None }
stage_by law job streams node n = shown_all (rules_at job node) node.shape.offset (length node.outputs) (sides_of job node) (take n (sets_of streams node))

-- the outcome of a node after its first n sets, calls or answers
abbrev pub stage : Job → List (StreamPrefix Plain) → PlanNode → ℕ → Outcome
stage job streams node n = stage_by node.law job streams node n

-- a node may be closed as its work of a number: all its sets, calls or answers come before, none failed, and no more come
pub record IsLastWork (job : Job) (streams : List (StreamPrefix Plain)) (node : PlanNode) (number : ℕ) : Type 0 where
  pub all : number ≡ count_of_all streams node
  pub good : (stage job streams node number).fault ≡ None
  pub over : IsOverBy node.law streams node

-- a node's work of a number, in a phase: its set of that number, with that set's time; the call of that number; or Close
abbrev pub IsTask : Job → List (StreamPrefix Plain) → PlanNode → ℕ → Phase → List (Option (Stamped Plain)) → Type 0
IsTask job streams node number Open set = ⊥
IsTask job streams node number (SourceCall call) set = IsSource node.law × (call ≡ number) × (number < calls_of node.law)
IsTask job streams node number (Process at) set = IsOuter node.law × (slice_get (sets_of streams node) number ≡ Some (record { at = at; set = set }))
IsTask job streams node number Close set = IsLastWork job streams node number

-- Logs.

-- the log that a node's calculator had at the start, if it tells one
abbrev pub first_log : {laws : Laws} → LoggedJob laws → PlanNode → Option (List Call)
first_log {laws} job node = option_and_then (λ number. option_and_then (λ box. box.log) (slice_get job.boxes number)) node.box_number

-- a calculator keeps what the box of its node kept at the start, if the node has a box
abbrev pub KeepsFirst : {laws : Laws} → LoggedJob laws → PlanNode → List Plain → Type 0
KeepsFirst {laws} job node state = (number : ℕ) (box : BoxTold) → node.box_number ≡ Some number → slice_get job.boxes number ≡ Some box → state ≡ box.state

-- the log of a node's calculator after some calls, if it tells one
abbrev pub log_after : {laws : Laws} → LoggedJob laws → PlanNode → List Call → Option (List Call)
log_after {laws} job node calls = option_map (λ before. before ++ calls) (first_log job node)

-- the calls that a calculator has had after its node's first n sets, by the node's law; a loopback is shown none
abbrev pub calls_before_by : Law → List (StreamPrefix Plain) → PlanNode → ℕ → List Call
calls_before_by Loopback streams node n = Begun ∷ []
calls_before_by law streams node n = Begun ∷ map (λ e. Shown e.at e.set) (take n (sets_of streams node))

-- the calls that a calculator has had after its node's first n sets
abbrev pub calls_before : List (StreamPrefix Plain) → PlanNode → ℕ → List Call
calls_before streams node n = calls_before_by node.law streams node n

-- the call that a phase makes; a source's isn't told
abbrev pub calls_in : Phase → List (Option (Stamped Plain)) → List Call
calls_in Open set = Begun ∷ []
calls_in (SourceCall call) set = []
calls_in (Process at) set = Shown at set ∷ []
calls_in Close set = Finished ∷ []
