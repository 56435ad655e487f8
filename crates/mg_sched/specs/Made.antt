-- How a net is made: no node is begun, and nothing is claimed. Each user-supplied calculator is with its node, or lies in its place if no
-- node uses it.
use Rattle.std.specs.Prelude.{◌≡◌, ℕ, zero, ◌+◌, true, false, List, [], length, map, replicate, All, Some, IfSome, IsSomeAnd, option_map, unwrap_or, slice_get, slice_index_or, refl}
use Rattle.std.specs.Option.{option_and_then}
use Rattle.mg_value.specs.Payload.{Plain}
use Rattle.mg_settled.specs.Prefix.{StreamPrefix}
use Rattle.mg_calc.specs.Rules.{Laws}
use Rattle.mg_calc.specs.declared.inputs.Inputs.{Inputs}
use Rattle.mg_calc.specs.declared.plan.Plan.{Plan}
use Rattle.mg_calc.specs.declared.plan_node.PlanNode.{PlanNode}
use Rattle.mg_calc.specs.Plan.{FitsNode}
use Rattle.mg_calc.specs.Shape.{IsOuter}
use Rattle.mg_calc.specs.Told.{BoxTold}
use Rattle.mg_route.specs.HolderView.{HolderView, holder_view}
use Rattle.mg_node.specs.Views.{IntakeView, EngineView}
use Rattle.mg_node.specs.Job.{LoggedJob}
use Rattle.mg_node.specs.Intakes.{IsFresh}
use Rattle.mg_node.specs.Fresh.{own_told, fresh_engine}
use Rattle.mg_node.specs.Outputs.{input_engine}
use Rattle.mg_throttle.specs.Throttle.{limit_of, new_queue}
use Rattle.mg_sched.specs.Views.{WorkQueueView, NetView}
use Rattle.mg_sched.specs.StandsFor.{StandsFor}
use Rattle.mg_sched.specs.Looks.{HasFrom}

-- the job of a plan and its inputs, with these calculators
abbrev pub job_of : (laws : Laws) → Plan → Inputs → List BoxTold → LoggedJob laws
job_of laws plan inputs boxes = record { job = record { plan = plan; inputs = inputs; laws = laws }; boxes = boxes; same = refl }

-- a user-supplied calculator fits a node: it has the node's law and shape, and its law is one that a user may supply. What it keeps from
-- before doesn't matter: its Open doesn't fail, and forgets it
pub record FitsNew (node : PlanNode) (box : BoxTold) : Type 0 where
  pub fits : FitsNode node box.law box.shape
  pub outer : IsOuter box.law

-- the user-supplied calculators fit a plan: if a node has a box number, the calculator of that number is there and fits the node
abbrev pub BoxesFit : Plan → List BoxTold → Type 0
BoxesFit plan boxes = All (λ node. IfSome node.box_number (λ number. IsSomeAnd (slice_get boxes number) (FitsNew node))) plan.nodes

-- the calculator with which a node begins: the user-supplied calculator of its number, or a calculator of the node's own kind
abbrev pub first_calculator : List BoxTold → PlanNode → HolderView
first_calculator boxes node = unwrap_or (option_map (holder_view true) (option_and_then (λ number. slice_get boxes number) node.box_number)) (own_told node)

-- a net that was made. It stands for the job, no node is begun, nothing came, nothing was given up and no stream is kept. The limits are
-- the plan's
pub record IsMade (laws : Laws) (plan : Plan) (inputs : Inputs) (boxes : List BoxTold) (net : NetView) : Type 0 where
  pub stands : StandsFor (job_of laws plan inputs boxes) net
  pub fits : BoxesFit plan boxes
  pub begun : net.begun ≡ zero
  -- the engine of each node is as it was made, with the calculator with which the node begins. That of a graph input has the input's whole
  -- stream
  pub engines : (number : ℕ) (node : PlanNode) (engine : EngineView) → slice_get plan.nodes number ≡ Some node → slice_get net.engines number ≡ Some engine
      → engine ≡ fresh_engine node number (first_calculator boxes node)
  pub input_engines : (input : ℕ) (s : StreamPrefix Plain) (engine : EngineView) → slice_get inputs.streams input ≡ Some s → slice_get net.engines (length plan.nodes + input) ≡ Some engine
      → engine ≡ input_engine input (slice_index_or plan.inputs input 0) s
  pub fresh : (consumer : ℕ) (intake : IntakeView) → slice_get net.intakes consumer ≡ Some intake → IsFresh plan consumer intake
  pub work_queues : (number : ℕ) (node : PlanNode) (work_queue : WorkQueueView) → slice_get plan.nodes number ≡ Some node → slice_get net.work_queues number ≡ Some work_queue
      → work_queue ≡ record { room = node.in_flight; works = [] }
  pub whole : (stream : ℕ) → HasFrom net stream 0
  pub kept : net.kept ≡ replicate (length plan.streams) false
  pub limits : net.limits.queues ≡ map (new_queue (length plan.nodes) (limit_of plan.limit)) plan.edges
  -- the calculators that no node uses lie in their places as they were
  pub unused : (place : ℕ) (told : BoxTold) → slice_get net.spare place ≡ Some (Some told) → slice_get boxes place ≡ Some told
