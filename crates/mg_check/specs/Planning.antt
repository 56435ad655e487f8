-- The plan of nodes that are joined.
use Rattle.std.specs.Prelude.{ℕ, ◌+◌, ℤ, pos, negsuc, List, [], ◌∷◌, ◌++◌, ◌==◌, nat_lt, if◌then◌else◌, length, map, zip, flat_map}
use Rattle.std.specs.List.{range_with_len, enumerate_from}
use Rattle.mg_config.specs.Config.{GraphView}
use Rattle.mg_subgraph.specs.Refusals.{port_names}
use Rattle.mg_calc.specs.Side.{PlainSide, given_at, fixed}
use Rattle.mg_calc.specs.declared.plan.Plan.{Plan}
use Rattle.mg_calc.specs.declared.plan_node.PlanNode.{PlanNode}
use Rattle.mg_calc.specs.declared.plan_stream.PlanStream.{PlanStream}
use Rattle.mg_calc.specs.Plan.{numbers}
use Rattle.mg_check.specs.Drafts.{DraftView}
use Rattle.mg_check.specs.Names.{number_among}
use Rattle.mg_check.specs.Meeting.{inferred_kind}
use Rattle.mg_check.specs.Joining.{stream_names, side_names, edges, stream_meetings, writers, order}

-- the plan's node of a draft, if its first output is the stream of this number
abbrev pub plan_node : List (List ℕ) → List (List ℕ) → ℕ → DraftView → PlanNode
plan_node streams sides first d = record {
  label = d.label;
  law = d.law;
  shape = d.shape;
  inputs = map (number_among streams) d.inputs;
  outputs = range_with_len first (length d.outputs);
  sides = map (number_among sides) d.sides;
  in_flight = d.in_flight;
  box_number = d.box_number;
  policy = d.policy;
}

-- the plan's nodes of drafts, if their outputs are the streams from this number on
abbrev pub plan_nodes : List (List ℕ) → List (List ℕ) → ℕ → List DraftView → List PlanNode
plan_nodes streams sides first [] = []
plan_nodes streams sides first (d ∷ ds) = plan_node streams sides first d ∷ plan_nodes streams sides (first + length d.outputs) ds

-- the streams: their names, the kinds that meet there, and who writes them
abbrev pub plan_streams : GraphView → List DraftView → List PlanStream
plan_streams graph ds =
    map (λ e. record { name = e.0; kind = inferred_kind e.1.0; producer = e.1.1 }) (zip (stream_names graph ds) (zip (stream_meetings graph ds) (writers graph ds)))

-- the graph's input side packets, with their places in order
abbrev pub given_sides : GraphView → List PlainSide
given_sides graph = map (λ e. record { name = e.1; value = given_at e.0 }) (enumerate_from 0 (port_names graph.input_sides))

-- the side packets that a node writes, with their payloads
abbrev pub fixed_sides : DraftView → List PlainSide
fixed_sides d = map (λ e. record { name = e.0; value = fixed e.1 }) (zip d.side_outputs d.constants)

-- all side packets: the graph's input side packets, and then those that nodes write
abbrev pub plan_sides : GraphView → List DraftView → List PlainSide
plan_sides graph ds = given_sides graph ++ flat_map fixed_sides ds

-- a queue's limit is 100 if none is given (MediaPipe, calculator.proto: max_queue_size)
abbrev pub limit_of : ℤ → ℤ
limit_of (pos n) = if n == 0 then pos 100 else pos n
limit_of (negsuc n) = negsuc n

-- the number of workers that a graph asks for, brought into 0 to 64
abbrev pub workers_of : ℤ → ℕ
workers_of (pos n) = if nat_lt 64 n then 64 else n
workers_of (negsuc n) = 0

-- the plan of a graph whose nodes have these drafts
abbrev pub plan_of : GraphView → List DraftView → Plan
plan_of graph ds = record {
  nodes = plan_nodes (stream_names graph ds) (side_names graph ds) (length graph.inputs) ds;
  streams = plan_streams graph ds;
  edges = edges graph ds;
  order = order graph ds;
  inputs = numbers (length graph.inputs);
  outputs = map (number_among (stream_names graph ds)) (port_names graph.outputs);
  sides = plan_sides graph ds;
  limit = limit_of graph.max_queue_size;
  workers = workers_of graph.num_threads;
}
