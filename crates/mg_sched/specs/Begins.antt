-- How nodes are begun: nothing but their engines changes, and the limits of those that fail in Open.
use Rattle.std.specs.Prelude.{◌≡◌, ◌⊎◌, ℕ, zero, suc, ◌+◌, ◌-◌, ◌<◌, ◌≤◌, List, length, Some, option_map, unwrap_or, slice_get}
use Rattle.mg_calc.specs.Rules.{Laws}
use Rattle.mg_calc.specs.declared.plan_node.PlanNode.{PlanNode}
use Rattle.mg_calc.specs.Plan.{node_sides}
use Rattle.mg_route.specs.HolderView.{HolderView}
use Rattle.mg_node.specs.Views.{EngineView}
use Rattle.mg_node.specs.Begun.{IsNew, IsUnbegun, HasBegun}
use Rattle.mg_node.specs.Outputs.{laid_at}
use Rattle.mg_node.specs.Standing.{EngineGrows}
use Rattle.mg_throttle.specs.Throttle.{QueueLimits}
use Rattle.mg_sched.specs.Views.{NetView}
use Rattle.mg_sched.specs.Acts.{stopped_by}

-- The engine of a node is begun. Its calculator was opened with the node's side packets, and what it emitted is laid.
abbrev pub BeginsEngine : Laws → NetView → ℕ → PlanNode → EngineView → EngineView → Type 0
BeginsEngine laws net number node before now = (told : HolderView) → IsNew node told → IsUnbegun laws node number told (node_sides net.plan net.given node) before
    → HasBegun laws node number told (node_sides net.plan net.given node) now

-- The engine of a node still isn't begun. Its calculator may have been opened meanwhile.
abbrev pub StillUnbegun : Laws → NetView → ℕ → PlanNode → EngineView → EngineView → Type 0
StillUnbegun laws net number node before now = (told : HolderView) → IsUnbegun laws node number told (node_sides net.plan net.given node) before
    → IsUnbegun laws node number told (node_sides net.plan net.given node) now

-- the limits once the node of this number is begun: if the node has failed, its queues don't count
abbrev pub stopped_at : List EngineView → ℕ → QueueLimits → QueueLimits
stopped_at engines number limits = unwrap_or (option_map (λ engine. stopped_by number engine limits) (slice_get engines number)) limits

-- the limits once so many nodes are begun, from the node of this number on
abbrev pub stopped_from : List EngineView → ℕ → ℕ → QueueLimits → QueueLimits
stopped_from engines number zero limits = limits
stopped_from engines number (suc count) limits = stopped_from engines (number + 1) count (stopped_at engines number limits)

-- Some further nodes were begun, in order.
pub record BeginsNet (laws : Laws) (before now : NetView) : Type 0 where
  pub more : before.begun ≤ now.begun
  pub parts : now ≡ record before { engines = now.engines; limits = now.limits; begun = now.begun }
  pub places : length now.engines ≡ length before.engines
  -- the further nodes are begun, and the next one isn't
  pub opens : (number : ℕ) (node : PlanNode) (engine engine_now : EngineView) → before.begun ≤ number → number < now.begun → slice_get before.plan.nodes number ≡ Some node
      → slice_get before.engines number ≡ Some engine → slice_get now.engines number ≡ Some engine_now → BeginsEngine laws before number node engine engine_now
  pub next : (node : PlanNode) (engine engine_now : EngineView) → slice_get before.plan.nodes now.begun ≡ Some node
      → slice_get before.engines now.begun ≡ Some engine → slice_get now.engines now.begun ≡ Some engine_now → StillUnbegun laws before now.begun node engine engine_now
  -- all other engines are as they were, those of the graph inputs among them
  pub others : (place : ℕ) → (place < before.begun) ⊎ ((now.begun < place) ⊎ (length before.plan.nodes ≤ place)) → slice_get now.engines place ≡ slice_get before.engines place
  -- the queues of the further nodes that failed don't count any more, and nothing else changes in the limits
  pub stops : now.limits ≡ stopped_from now.engines before.begun (now.begun - before.begun) before.limits
  -- what others were told of an engine grows, and no packet that is laid is given up
  pub grow : (place : ℕ) (engine engine_now : EngineView) → slice_get before.engines place ≡ Some engine → slice_get now.engines place ≡ Some engine_now → EngineGrows engine engine_now
  pub gone : (place : ℕ) (engine engine_now : EngineView) → slice_get before.engines place ≡ Some engine → slice_get now.engines place ≡ Some engine_now → (output : ℕ) → (laid_at engine_now output).gone ≤ (laid_at engine output).gone
