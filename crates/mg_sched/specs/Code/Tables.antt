-- Tables that a net keeps of its plan, so that no step looks over it.
use Rattle.std.specs.Prelude.{◌≡◌, ℕ, ◌+◌, List, [], map, length, Option, Some, None, slice_get}
use Rattle.mg_calc.specs.declared.plan.Plan.{Plan}
use Rattle.mg_calc.specs.declared.plan_node.PlanNode.{PlanNode}
use Rattle.mg_calc.specs.Plan.{numbers, feeders, source_node}
use Rattle.mg_sched.specs.Places.{first_edge}

-- a node without inputs has the number of the feeder that it is, and every other one has none
abbrev pub IsFeederOf : Plan → ℕ → PlanNode → Option ℕ → Type 0
IsFeederOf plan number node None = ¬ (node.inputs ≡ [])
IsFeederOf plan number node (Some feeder) = (node.inputs ≡ []) × (slice_get (feeders plan) feeder ≡ Some (source_node number))

-- for each node that is a source its number as a feeder
abbrev pub AreOwnFeeders : Plan → List (Option ℕ) → Type 0
AreOwnFeeders plan own_feeders = (number : ℕ) (node : PlanNode) (feeder : Option ℕ) → slice_get plan.nodes number ≡ Some node → slice_get own_feeders number ≡ Some feeder
    → IsFeederOf plan number node feeder

-- the tables of a plan. They have for each consumer the number of the first edge into it, and for each source its number as a feeder
pub record AreTables (plan : Plan) (first_edges : List ℕ) (own_feeders : List (Option ℕ)) : Type 0 where
  pub edges : first_edges ≡ map (first_edge plan) (numbers (length plan.nodes + 1))
  pub count : length own_feeders ≡ length plan.nodes
  pub feeders : AreOwnFeeders plan own_feeders
