-- What a net is made of: its parts before any node is begun, at their places, and what lies in the places of user-supplied calculators.
use Rattle.std.specs.Prelude.{◌≡◌, ℕ, ◌+◌, ◌<◌, nat_lt, List, [], map, length, replicate, false, All, Option, Some, None, IfSome, IsSome, IsSomeAnd, option_map, unwrap_or, slice_get, slice_index_or, true, if◌then◌else◌}
use Rattle.std.specs.Option.{option_and_then}
use Rattle.mg_value.specs.Payload.{Plain}
use Rattle.mg_settled.specs.Prefix.{StreamPrefix}
use Rattle.mg_calc.specs.declared.inputs.Inputs.{Inputs}
use Rattle.mg_calc.specs.declared.plan.Plan.{Plan}
use Rattle.mg_calc.specs.declared.plan_node.PlanNode.{PlanNode}
use Rattle.mg_calc.specs.Told.{BoxTold}
use Rattle.mg_calc.specs.Rules.{Laws}
use Rattle.mg_route.specs.HolderView.{HolderView, holder_view}
use Rattle.mg_node.specs.Views.{IntakeView, EngineView}
use Rattle.mg_node.specs.Job.{LoggedJob, Solves}
use Rattle.mg_node.specs.Lawful.{LawfulIntake}
use Rattle.mg_node.specs.Intakes.{IsFresh}
use Rattle.mg_node.specs.Fresh.{own_told, fresh_engine}
use Rattle.mg_node.specs.Outputs.{input_engine}
use Rattle.mg_throttle.specs.Throttle.{AreLimitsOf, limit_of, new_queue}
use Rattle.mg_sched.specs.Views.{WorkQueueView, NetView}

-- what holds of each element of a list, by its place
abbrev pub AtPlaces : {X : Type 0} → (ℕ → X → Type 0) → List X → Type 0
AtPlaces {X} P xs = (place : ℕ) (x : X) → slice_get xs place ≡ Some x → P place x

-- Calculators.

-- the calculator with which a node begins: the user-supplied calculator of its number, or a calculator of its own kind
abbrev pub first_holder : List (Option BoxTold) → PlanNode → HolderView
first_holder given node = unwrap_or (option_map (holder_view true) (option_and_then (λ number. unwrap_or (slice_get given number) None) node.box_number)) (own_told node)

-- the calculator of the node at a place, while the first `count` nodes alone have their user-supplied calculators
abbrev pub holder_before : List (Option BoxTold) → ℕ → ℕ → PlanNode → HolderView
holder_before given count place node = if nat_lt place count then first_holder given node else own_told node

-- one of the first `count` nodes has the calculator of this number
pub record HasTaken (nodes : List PlanNode) (count number : ℕ) : Type 0 where
  pub place : ℕ
  pub node : PlanNode
  pub before : place < count
  pub there : slice_get nodes place ≡ Some node
  pub takes : node.box_number ≡ Some number

-- the places of user-supplied calculators, once the first `count` nodes have taken theirs. The places of the taken calculators are empty,
-- and all other places have what they had
pub record IsLeftOver (nodes : List PlanNode) (given : List (Option BoxTold)) (count : ℕ) (now : List (Option BoxTold)) : Type 0 where
  pub places : length now ≡ length given
  pub taken : (number : ℕ) → slice_get now number ≡ Some None → HasTaken nodes count number
  pub others : (number : ℕ) (told : BoxTold) → slice_get now number ≡ Some (Some told) → (slice_get given number ≡ Some (Some told)) × ¬ HasTaken nodes count number

-- each node that has a box number finds a calculator in the place of that number
abbrev pub FindEach : List PlanNode → List (Option BoxTold) → Type 0
FindEach nodes given = All (λ node. IfSome node.box_number (λ number. IsSomeAnd (slice_get given number) (λ told. IsSome told))) nodes

-- Parts.

-- the engine at a place: that of a node that isn't begun, or, after those, that of a graph input
pub record IsEngineAt (plan : Plan) (streams : List (StreamPrefix Plain)) (told : ℕ → PlanNode → HolderView) (place : ℕ) (engine : EngineView) : Type 0 where
  pub node : (node : PlanNode) → slice_get plan.nodes place ≡ Some node → engine ≡ fresh_engine node place (told place node)
  pub input : (input : ℕ) (s : StreamPrefix Plain) → place ≡ length plan.nodes + input → slice_get streams input ≡ Some s
      → engine ≡ input_engine input (slice_index_or plan.inputs input 0) s

-- the intake of a consumer, to which nothing came: it is lawful for every job of the plan
pub record IsIntakeAt (plan : Plan) (consumer : ℕ) (intake : IntakeView) : Type 0 where
  pub fresh : IsFresh plan consumer intake
  pub lawful : {laws : Laws} (job : LoggedJob laws) (streams : List (StreamPrefix Plain)) → job.job.plan ≡ plan → Solves job streams → LawfulIntake job consumer intake

-- the work queue of a node, in which nothing lies
abbrev pub IsWorkQueueAt : Plan → ℕ → WorkQueueView → Type 0
IsWorkQueueAt plan place work_queue = (node : PlanNode) → slice_get plan.nodes place ≡ Some node → work_queue ≡ record { room = node.in_flight; works = [] }

-- the parts of a net that was made, by the calculators of its nodes
pub record HasParts (plan : Plan) (inputs : Inputs) (told : ℕ → PlanNode → HolderView) (net : NetView) : Type 0 where
  pub plan_is : net.plan ≡ plan
  pub given_is : net.given ≡ inputs.sides
  pub engine_count : length net.engines ≡ length plan.nodes + length plan.inputs
  pub engines : AtPlaces (IsEngineAt plan inputs.streams told) net.engines
  pub intake_count : length net.intakes ≡ length plan.nodes + 1
  pub intakes : AtPlaces (IsIntakeAt plan) net.intakes
  pub work_queue_count : length net.work_queues ≡ length plan.nodes
  pub work_queues : AtPlaces (IsWorkQueueAt plan) net.work_queues
  pub of : AreLimitsOf plan net.limits
  pub queues : net.limits.queues ≡ map (new_queue (length plan.nodes) (limit_of plan.limit)) plan.edges
  pub kept : net.kept ≡ replicate (length plan.streams) false
