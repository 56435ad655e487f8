-- How nodes are joined by the names of their streams and side packets, and what is refused there.
use Rattle.std.specs.Prelude.{ℕ, List, [], ◌∷◌, ◌++◌, Bool, false, ◌==◌, nat_lt, Option, None, Some, option_map, if◌then◌else◌, length, map, zip, filter, filter_map, flat_map, position, slice_get}
use Rattle.std.specs.List.{enumerate_from}
use Rattle.std.specs.Option.{option_and_then, option_or}
use Rattle.mg_value.specs.declared.kind.Kind.{Kind}
use Rattle.mg_value.specs.declared.kind.Kind.TheVariants.{Any}
use Rattle.mg_config.specs.Config.{GraphView}
use Rattle.mg_subgraph.specs.Refusals.{port_names}
use Rattle.mg_calc.specs.declared.edge.Edge.{Edge}
use Rattle.mg_calc.specs.declared.port_kind.PortKind.{PortKind}
use Rattle.mg_calc.specs.declared.plan_stream.Producer.{Producer}
use Rattle.mg_calc.specs.declared.plan_stream.Producer.TheVariants.{Input, Node}
use Rattle.mg_calc.specs.Plan.{numbers, writing_node}
use Rattle.mg_check.specs.Drafts.{DraftView}
use Rattle.mg_check.specs.Names.{first_again, first_missing, number_among}
use Rattle.mg_check.specs.Meeting.{PortReading, meetings, clashes}
use Rattle.mg_check.specs.Order.{order_of}
use Rattle.mg_check.specs.Cycle.{largest_cycle}
use Rattle.mg_check.specs.declared.ordering.Link.{Link}
use Rattle.mg_check.specs.declared.fault.Many.TheVariants.{Edges, Outputs}
use Rattle.mg_check.specs.declared.fault.CheckFault.{CheckFault}
use Rattle.mg_check.specs.declared.fault.CheckFault.TheVariants.{TwoProducers, NoProducer, SideMissing, KindClash, BackEdgeMisplaced, Cycle, TooMany}

-- Names.

-- the streams: the graph inputs, and then the outputs of each node
abbrev pub stream_names : GraphView → List DraftView → List (List ℕ)
stream_names graph ds = port_names graph.inputs ++ flat_map (λ d. d.outputs) ds

-- the streams that are read: the inputs of each node, and then the graph outputs
abbrev pub read_names : GraphView → List DraftView → List (List ℕ)
read_names graph ds = flat_map (λ d. d.inputs) ds ++ port_names graph.outputs

-- the side packets: the graph's input side packets, and then those that nodes write
abbrev pub side_names : GraphView → List DraftView → List (List ℕ)
side_names graph ds = port_names graph.input_sides ++ flat_map (λ d. d.side_outputs) ds

-- the side packets that are taken: by each node, and then as outputs of the graph
abbrev pub taken_names : GraphView → List DraftView → List (List ℕ)
taken_names graph ds = flat_map (λ d. d.sides) ds ++ port_names graph.output_sides

-- the refusal of a stream, or else a side packet, that has two producers
abbrev pub two_producers : GraphView → List DraftView → Option CheckFault
two_producers graph ds = option_map TwoProducers (option_or (first_again (stream_names graph ds)) (first_again (side_names graph ds)))

-- the refusal of a stream that is read and has no producer
abbrev pub no_producer : GraphView → List DraftView → Option CheckFault
no_producer graph ds = option_map NoProducer (first_missing (stream_names graph ds) (read_names graph ds))

-- the refusal of a side packet that is taken and has no producer
abbrev pub side_missing : GraphView → List DraftView → Option CheckFault
side_missing graph ds = option_map SideMissing (first_missing (side_names graph ds) (taken_names graph ds))

-- Edges.

-- whether the edge into a port is a back edge, given the port that is marked as a back edge, if there is one
abbrev pub is_back_at : Option ℕ → ℕ → Bool
is_back_at None port = false
is_back_at (Some back) port = back == port

-- the edges into a consumer with these names at its ports; the edge into one port may be a back edge
abbrev pub edges_into : List (List ℕ) → ℕ → Option ℕ → List (List ℕ) → List Edge
edges_into names node back inputs =
    map (λ e. record { stream = number_among names e.1; node = node; port = e.0; back = is_back_at back e.0 }) (enumerate_from 0 inputs)

-- the edges into all nodes
abbrev pub node_edges : GraphView → List DraftView → List Edge
node_edges graph ds = flat_map (λ e. edges_into (stream_names graph ds) e.0 e.1.back e.1.inputs) (enumerate_from 0 ds)

-- all edges: those into nodes, and then those into the collector
abbrev pub edges : GraphView → List DraftView → List Edge
edges graph ds = node_edges graph ds ++ edges_into (stream_names graph ds) (length ds) None (port_names graph.outputs)

-- Kinds.

abbrev pub kinds : List PortKind → List Kind
kinds ps = map (λ p. p.kind) ps

-- the kinds of the ports that write streams; those of graph inputs are Any
abbrev pub written_kinds : GraphView → List DraftView → List Kind
written_kinds graph ds = map (λ p. Any) graph.inputs ++ flat_map (λ d. kinds d.shape.outputs) ds

-- the kinds of the ports that read streams, in the order of the edges; those of graph outputs are Any
abbrev pub read_kinds : GraphView → List DraftView → List Kind
read_kinds graph ds = flat_map (λ d. kinds d.shape.inputs) ds ++ map (λ p. Any) graph.outputs

-- for each edge its stream, and the kind of the port that reads it
abbrev pub readings : GraphView → List DraftView → List PortReading
readings graph ds = map (λ e. record { stream = e.0.stream; kind = e.1 }) (zip (edges graph ds) (read_kinds graph ds))

-- the kinds that meet at each stream
abbrev pub stream_meetings : GraphView → List DraftView → List (List Kind)
stream_meetings graph ds = meetings (written_kinds graph ds) (readings graph ds)

-- the refusal of a stream at which two different kinds other than Any meet
abbrev pub kind_clash : GraphView → List DraftView → Option CheckFault
kind_clash graph ds =
    option_map KindClash (option_and_then (λ n. slice_get (stream_names graph ds) n) (position clashes (stream_meetings graph ds)))

-- Back edges.

-- the refusal of the first node with a misplaced back edge
abbrev pub back_edge_misplaced : List DraftView → Option CheckFault
back_edge_misplaced ds = option_map BackEdgeMisplaced (position (λ d. d.misplaced) ds)

-- Order.

-- who writes each stream
abbrev pub writers : GraphView → List DraftView → List Producer
writers graph ds =
    map Input (numbers (length graph.inputs))
    ++ flat_map (λ e. map (λ port. Node e.0 port) (numbers (length e.1.outputs))) (enumerate_from 0 ds)

-- The link that an edge makes: from the node that writes its stream to the node that reads. There is a link exactly if
-- the edge isn't back and a node writes.
abbrev pub link_of : List Producer → Edge → Option Link
link_of producers e =
    if e.back then None
    else option_map (λ from. record { from = from; to = e.node }) (option_and_then writing_node (slice_get producers e.stream))

abbrev pub links : GraphView → List DraftView → List Link
links graph ds = filter_map (link_of (writers graph ds)) (node_edges graph ds)

-- the nodes without inputs
abbrev pub sources : List DraftView → List ℕ
sources ds = map (λ e. e.0) (filter (λ e. length e.1.inputs == 0) (enumerate_from 0 ds))

abbrev pub order : GraphView → List DraftView → List ℕ
order graph ds = order_of (length ds) (sources ds) (links graph ds)

-- the refusal of nodes that make a cycle, if there are any
abbrev pub cycle_of : List ℕ → Option CheckFault
cycle_of [] = None
cycle_of (n ∷ ns) = Some (Cycle (n ∷ ns))

-- the refusal of the largest set of nodes that feeds itself: each reads, by an edge that isn't back, what one of them writes
abbrev pub cycle : GraphView → List DraftView → Option CheckFault
cycle graph ds = cycle_of (largest_cycle (length ds) (links graph ds))

-- the refusal of too many edges, or else of too many graph outputs
abbrev pub too_many : GraphView → List DraftView → Option CheckFault
too_many graph ds =
    if nat_lt 16384 (length (edges graph ds)) then Some (TooMany Edges)
    else (if nat_lt 256 (length graph.outputs) then Some (TooMany Outputs) else None)

-- the first refusal of how nodes are joined
abbrev pub join_refusal : GraphView → List DraftView → Option CheckFault
join_refusal graph ds =
    option_or (two_producers graph ds) (option_or (no_producer graph ds) (option_or (side_missing graph ds)
    (option_or (kind_clash graph ds) (option_or (back_edge_misplaced ds) (option_or (cycle graph ds) (too_many graph ds))))))
