-- The core of a plan: the plan without its free nodes, whose outputs are further graph inputs there. Nodes keep their order. The graph
-- inputs are the first streams, then come the outputs of the free nodes, and then the outputs of the other nodes. The number of a
-- stream or a node in the core is its place in that order.
use Rattle.std.specs.Prelude.{ℕ, ◌++◌, Bool, false, not, ◌==◌, List, [], map, filter, length, position, Option, Some, None, is_some, option_map, unwrap_or, slice_get, slice_index_or}
use Rattle.std.specs.List.{enumerate_from, filter_map, flat_map, prefix_len}
use Rattle.mg_value.specs.declared.kind.Kind.TheVariants.{Any}
use Rattle.mg_calc.specs.declared.law.Law.{Law}
use Rattle.mg_calc.specs.declared.law.Law.TheVariants as law
use Rattle.mg_calc.specs.declared.plan.Plan.{Plan}
use Rattle.mg_calc.specs.declared.plan_node.PlanNode.{PlanNode}
use Rattle.mg_calc.specs.declared.plan_stream.PlanStream.{PlanStream}
use Rattle.mg_calc.specs.declared.plan_stream.Producer.{Producer}
use Rattle.mg_calc.specs.declared.plan_stream.Producer.TheVariants.{Input, Node}
use Rattle.mg_calc.specs.declared.edge.Edge.{Edge}
use Rattle.mg_calc.specs.Plan.{numbers}
use Rattle.mg_free.specs.declared.law.FreeLaw.{FreeLaw}
use Rattle.mg_free.specs.declared.law.FreeLaw.TheVariants.{FirstCome, Limiter}
use Rattle.mg_free.specs.declared.node.FreeNode.{FreeNode}
use Rattle.mg_free.specs.declared.plan.FreePlan.{FreePlan}

-- the free law of a law, if its nodes are free
abbrev pub free_law_of : Law → Option FreeLaw
free_law_of (law.FirstCome lanes) = Some (FirstCome lanes)
free_law_of (law.Limiter most) = Some (Limiter most)
free_law_of _ = None

-- whether a node is free
abbrev pub is_free : PlanNode → Bool
is_free node = is_some (free_law_of node.law)

-- whether a node is a node of the core
abbrev pub is_core : PlanNode → Bool
is_core node = not (is_free node)

-- the plan's numbers of the nodes of the core, in order
abbrev pub core_numbers : Plan → List ℕ
core_numbers plan = map (λ e. e.0) (filter (λ e. is_core e.1) (enumerate_from 0 plan.nodes))

-- the streams that enter the core from outside, by the plan's numbers: the graph inputs and the outputs of the free nodes
abbrev pub entering : Plan → List ℕ
entering plan = plan.inputs ++ flat_map (λ node. node.outputs) (filter is_free plan.nodes)

-- all streams in the order of the core, by the plan's numbers
abbrev pub core_streams : Plan → List ℕ
core_streams plan = entering plan ++ flat_map (λ node. node.outputs) (filter is_core plan.nodes)

-- the place of a number in a list, or the list's length if it isn't there
abbrev pub place_in : List ℕ → ℕ → ℕ
place_in ns n = prefix_len (λ k. not (k == n)) ns

-- the number in the core of a stream of the plan
abbrev pub stream_number : Plan → ℕ → ℕ
stream_number plan s = place_in (core_streams plan) s

-- the number in the core of a node of the plan; the collector's number follows those of the core's nodes
abbrev pub node_number : Plan → ℕ → ℕ
node_number plan n = place_in (core_numbers plan) n

-- the core's number of each stream of the plan
abbrev pub stream_numbers : Plan → List ℕ
stream_numbers plan = map (stream_number plan) (numbers (length plan.streams))

-- a node of the plan as it is in the core
abbrev pub core_node : Plan → PlanNode → PlanNode
core_node plan node = record node { inputs = map (stream_number plan) node.inputs; outputs = map (stream_number plan) node.outputs }

-- the stream that is taken for a number that the plan doesn't have
abbrev pub no_stream : PlanStream
no_stream = record { name = []; kind = Any; producer = Input 0 }

-- a stream of the plan, with its producer in the core
abbrev pub written_by : Plan → ℕ → Producer → PlanStream
written_by plan s producer = record (slice_index_or plan.streams s no_stream) { producer = producer }

-- the outputs of a node of the core, as streams of the core
abbrev pub output_streams : Plan → ℕ → List ℕ → List PlanStream
output_streams plan node outputs = map (λ e. written_by plan e.1 (Node node e.0)) (enumerate_from 0 outputs)

-- the streams of the core: first the streams that enter from outside, and then the outputs of the core's nodes
abbrev pub streams_of : Plan → List PlanStream
streams_of plan =
    map (λ e. written_by plan e.1 (Input e.0)) (enumerate_from 0 (entering plan))
    ++ flat_map (λ e. output_streams plan e.0 e.1.outputs) (enumerate_from 0 (filter is_core plan.nodes))

-- whether the node of a number is free; the collector isn't
abbrev pub is_free_at : Plan → ℕ → Bool
is_free_at plan n = unwrap_or (option_map is_free (slice_get plan.nodes n)) false

-- an edge of the plan as it is in the core
abbrev pub core_edge : Plan → Edge → Edge
core_edge plan e = record e { stream = stream_number plan e.stream; node = node_number plan e.node }

-- the edges of the core: those whose consumer isn't a free node
abbrev pub edges_of : Plan → List Edge
edges_of plan = map (core_edge plan) (filter (λ e. not (is_free_at plan e.node)) plan.edges)

-- the core's numbers of its nodes, as they stand in the plan's order
abbrev pub order_of : Plan → List ℕ
order_of plan = map (node_number plan) (filter (λ n. not (is_free_at plan n)) plan.order)

-- The core of a plan: the nodes that aren't free, all streams, and the edges and the order of these nodes.
abbrev pub core_of : Plan → Plan
core_of plan = record {
  nodes = map (core_node plan) (filter is_core plan.nodes);
  streams = streams_of plan;
  edges = edges_of plan;
  order = order_of plan;
  inputs = numbers (length (entering plan));
  outputs = map (stream_number plan) plan.outputs;
  sides = plan.sides;
  limit = plan.limit;
  workers = plan.workers;
}

-- a numbered node of the plan as a free node with the core's numbers of its streams, if it is free
abbrev pub free_node : Plan → ℕ × PlanNode → Option FreeNode
free_node plan e =
    option_map (λ rule. record { node = e.0; law = rule; inputs = map (stream_number plan) e.1.inputs; output = slice_index_or (map (stream_number plan) e.1.outputs) 0 0 })
    (free_law_of e.1.law)

-- the free nodes of a plan, in order
abbrev pub free_nodes : Plan → List FreeNode
free_nodes plan = filter_map (free_node plan) (enumerate_from 0 plan.nodes)

-- a plan split into its core, the plan's numbers of the core's nodes, the core's numbers of the plan's streams, and its free nodes
abbrev pub split_of : Plan → FreePlan
split_of plan = record { core = core_of plan; numbers = core_numbers plan; streams = stream_numbers plan; free = free_nodes plan }

-- the number of the first free node, if there is one
abbrev pub first_free : Plan → Option ℕ
first_free plan = position is_free plan.nodes
