-- The user-supplied calculators of a net, as they come back: in the places in which they came.
use Rattle.std.specs.Prelude.{◌≡◌, ◌⊎◌, ℕ, List, [], ◌∷◌, map, Option, Some, None, slice_get, slice_set}
use Rattle.std.specs.List.{filter_map}
use Rattle.mg_calc.specs.Rules.{Laws}
use Rattle.mg_calc.specs.declared.plan_node.PlanNode.{PlanNode}
use Rattle.mg_calc.specs.Told.{BoxTold}
use Rattle.mg_node.specs.Views.{WorkView, EngineView}
use Rattle.mg_node.specs.Job.{LoggedJob}
use Rattle.mg_node.specs.Leaving.{handed_told, first_handed}
use Rattle.mg_sched.specs.Views.{WorkQueueView, NetView}
use Rattle.mg_sched.specs.StandsFor.{StandsFor}
use Rattle.mg_sched.specs.WindsUp.{WindsUpNet}

-- what is told by the first user-supplied calculator among those of the works in a work queue
abbrev pub on_work_queue : WorkQueueView → Option BoxTold
on_work_queue work_queue = slice_get (filter_map handed_told (map (λ (w : WorkView). w.context.told) work_queue.works)) 0

-- the first of two, or the other if there is no first
abbrev pub or_else : Option BoxTold → Option BoxTold → Option BoxTold
or_else None other = other
or_else (Some told) other = Some told

-- what is told by the calculator of a node, if it is user-supplied. It stands in the node's engine, or else it is that of a work in the
-- node's work queue
abbrev pub cell_told : EngineView → WorkQueueView → Option BoxTold
cell_told engine work_queue = or_else (first_handed engine) (on_work_queue work_queue)

-- the places, with a calculator back in the place of its number, if there are both
abbrev pub with_told : List (Option BoxTold) → Option ℕ → Option BoxTold → List (Option BoxTold)
with_told places None told = places
with_told places (Some number) None = places
with_told places (Some number) (Some told) = slice_set places number (Some told)

-- the places, with the calculators of nodes back in the places of the nodes' box numbers. Each calculator is in its node's engine, or with
-- a work in the node's work queue
abbrev pub with_cells : List (Option BoxTold) → List PlanNode → List EngineView → List WorkQueueView → List (Option BoxTold)
with_cells places [] engines work_queues = places
with_cells places (node ∷ nodes) [] work_queues = places
with_cells places (node ∷ nodes) (engine ∷ engines) [] = places
with_cells places (node ∷ nodes) (engine ∷ engines) (work_queue ∷ work_queues) = with_cells (with_told places node.box_number (cell_told engine work_queue)) nodes engines work_queues

-- all calculators that come back, in the order of their places: those that no node uses, and those of the nodes
abbrev pub given_back : NetView → List BoxTold
given_back net = filter_map (λ (place : Option BoxTold). place) (with_cells net.spare net.plan.nodes net.engines net.work_queues)

-- a net stood for a job, and may have been wound up since
pub record StoodFor {laws : Laws} (job : LoggedJob laws) (net : NetView) : Type 0 where
  pub before : NetView
  pub stands : StandsFor job before
  pub since : (net ≡ before) ⊎ WindsUpNet laws before net
