-- How the marks of nodes are found: those of a node are its own, and the marks that enter by its edges.
use Rattle.std.specs.Prelude.{◌≡◌, ℕ, ◌<◌, ◌≤◌, ◌==◌, ◌&&◌, ◌||◌, ◌+◌, not, Bool, true, false, List, length, replicate, map, filter, take, All, Option, Some, None, slice_get, slice_index, ◌↔◌}
use Rattle.std.specs.List.{list_any, enumerate_from}
use Rattle.mg_calc.specs.declared.plan_node.PlanNode.{PlanNode}
use Rattle.mg_calc.specs.declared.plan.Plan.{Plan}
use Rattle.mg_calc.specs.declared.edge.Edge.{Edge}
use Rattle.mg_calc.specs.declared.plan_stream.PlanStream.{PlanStream}
use Rattle.mg_calc.specs.declared.plan_stream.Producer.{Producer}
use Rattle.mg_calc.specs.declared.plan_stream.Producer.TheVariants.{Input, Node}
use Rattle.mg_calc.specs.Plan.{Feeder, source_node, feeders}
use Rattle.mg_throttle.specs.Code.Rows.{is_marked}
use Rattle.mg_throttle.specs.Throttle.{is_reached, FeederReaches}

-- the numbers of the nodes without inputs
abbrev pub sources_among : List PlanNode → List ℕ
sources_among nodes = map (λ e. e.0) (filter (λ e. length e.1.inputs == 0) (enumerate_from 0 nodes))

-- rows without a mark
pub record AreBlank (nodes feeders : ℕ) (rows : List (List Bool)) : Type 0 where
  pub len : length rows ≡ nodes
  pub blank : All (λ row. row ≡ replicate feeders false) rows

-- the mark of a row is that of one of the first `count` sources, at its place after the graph inputs
pub record IsMarkOf (numbers : List ℕ) (inputs count f node : ℕ) : Type 0 where
  pub place : ℕ
  pub among : place < count
  pub at : f ≡ inputs + place
  pub source : slice_get numbers place ≡ Some node

-- the first `count` of some sources have their marks, and there are no other marks
pub record MarksSources (numbers : List ℕ) (inputs feeders nodes count : ℕ) (rows : List (List Bool)) : Type 0 where
  pub len : length rows ≡ nodes
  pub rows_len : All (λ row. length row ≡ feeders) rows
  pub own : (f node : ℕ) → IsMarkOf numbers inputs count f node → is_reached rows f node ≡ true
  pub only : (f node : ℕ) → is_reached rows f node ≡ true → IsMarkOf numbers inputs count f node

-- a feeder's mark comes with the streams of a producer: the feeder is this graph input, or reaches this node
abbrev pub brings : List (List Bool) → ℕ → Producer → Bool
brings rows feeder (Input input) = feeder == input
brings rows feeder (Node node port) = is_reached rows feeder node

-- a feeder's mark comes with a stream, if there is one
abbrev pub stream_brings : List (List Bool) → ℕ → Option PlanStream → Bool
stream_brings rows feeder None = false
stream_brings rows feeder (Some stream) = brings rows feeder stream.producer

-- a feeder's mark enters a node by an edge, which isn't a back edge
abbrev pub enters : Plan → List (List Bool) → ℕ → ℕ → Edge → Bool
enters plan rows node feeder e = (e.node == node) && (not e.back && stream_brings rows feeder (slice_get plan.streams e.stream))

-- a row for each node, and in each a mark for each feeder
pub record HasRows (plan : Plan) (rows : List (List Bool)) : Type 0 where
  pub nodes : length rows ≡ length plan.nodes
  pub marks : All (λ row. length row ≡ length (feeders plan)) rows

-- a row has got the marks that enter a node by the first `count` edges
pub record GathersTo (plan : Plan) (rows : List (List Bool)) (node count : ℕ) (old new : List Bool) : Type 0 where
  pub len : length new ≡ length old
  pub marks : (f : ℕ) → f < length old → is_marked new f ≡ (is_marked old f || list_any (enters plan rows node f) (take count plan.edges))

-- a row has the marks of a node with those that enter the node
pub record Gathers (plan : Plan) (rows : List (List Bool)) (node : ℕ) (row : List Bool) : Type 0 where
  pub len : length row ≡ length (feeders plan)
  pub marks : (f : ℕ) → f < length (feeders plan)
      → is_marked row f ≡ (is_reached rows f node || list_any (enters plan rows node f) plan.edges)

-- the marks of a node are the feeders that reach it
abbrev pub IsReachedBy : Plan → List (List Bool) → ℕ → Type 0
IsReachedBy plan rows node =
    (f : ℕ) (feeder : Feeder) → slice_get (feeders plan) f ≡ Some feeder → (is_reached rows f node ≡ true) ↔ FeederReaches plan feeder node

-- a node has no mark yet but that of itself, if it is a source
abbrev pub IsOwn : Plan → List (List Bool) → ℕ → Type 0
IsOwn plan rows node =
    (f : ℕ) (feeder : Feeder) → slice_get (feeders plan) f ≡ Some feeder → (is_reached rows f node ≡ true) ↔ (feeder ≡ source_node node)

-- the first `count` nodes of the order have the marks of all feeders that reach them, and the others only their own
pub record IsDone (plan : Plan) (rows : List (List Bool)) (count : ℕ) : Type 0 where
  pub has_rows : HasRows plan rows
  pub done : (p : ℕ) → p < count → p < length plan.order → IsReachedBy plan rows (slice_index plan.order p)
  pub rest : (p : ℕ) → count ≤ p → p < length plan.order → IsOwn plan rows (slice_index plan.order p)
