-- Which nodes read which streams.
use Rattle.std.specs.Prelude.{◌≡◌, ℕ, ◌<◌, List, [], All, Contains, Some, length, slice_get, slice_index_or}
use Rattle.mg_calc.specs.declared.plan.Plan.{Plan}
use Rattle.mg_calc.specs.declared.plan_node.PlanNode.{PlanNode}

-- there is a list for each stream of a plan, which has those of the first nodes that read the stream, and nodes alone
pub record HasReaders (plan : Plan) (count : ℕ) (readers : List (List ℕ)) : Type 0 where
  pub many : length readers ≡ length plan.streams
  pub there : (k : ℕ) (node : PlanNode) (s : ℕ) → k < count → slice_get plan.nodes k ≡ Some node → Contains node.inputs s → Contains (slice_index_or readers s []) k
  pub within : (s : ℕ) → All (λ k. k < length plan.nodes) (slice_index_or readers s [])

-- a node is added to the lists of the streams that it reads
pub record IsAdded (inputs : List ℕ) (node : ℕ) (before now : List (List ℕ)) : Type 0 where
  pub many : length now ≡ length before
  pub stays : (s k : ℕ) → Contains (slice_index_or before s []) k → Contains (slice_index_or now s []) k
  pub there : (s : ℕ) → Contains inputs s → Contains (slice_index_or now s []) node
  pub within : (count s : ℕ) → node < count → All (λ k. k < count) (slice_index_or before s []) → All (λ k. k < count) (slice_index_or now s [])
