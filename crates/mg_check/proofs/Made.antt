-- A plan by its parts.
use Rattle.std.proofs.Common.{None, ℕ, ℤ, ◌≡◌, List, [], ◌∷◌, ◌++◌, length, map, refl, ap, ◌∙◌, zip}
use Rattle.mg_config.specs.Config.{GraphView}
use Rattle.mg_subgraph.specs.Refusals.{port_names}
use Rattle.mg_value.specs.declared.kind.Kind.{Kind}
use Rattle.mg_calc.specs.declared.edge.Edge.{Edge}
use Rattle.mg_calc.specs.declared.plan_stream.Producer.{Producer}
use Rattle.mg_calc.specs.declared.plan_stream.PlanStream.{PlanStream}
use Rattle.mg_check.specs.Drafts.{DraftView}
use Rattle.mg_check.specs.Meeting.{inferred_kind}
use Rattle.mg_check.specs.Names.{number_among}
use Rattle.mg_calc.specs.Plan.{numbers}
use Rattle.mg_calc.specs.Side.{PlainSide}
use Rattle.mg_calc.specs.declared.plan_node.PlanNode.{PlanNode}
use Rattle.mg_check.specs.Joining.{stream_names, stream_meetings, writers, edges, edges_into, side_names}
use Rattle.mg_check.specs.Joining as joining
use Rattle.mg_check.specs.Planning.{plan_streams, plan_nodes, plan_sides, plan_of, limit_of, workers_of}
use Rattle.mg_check.specs.Code.Meets.{inferred_of}
use Rattle.mg_check.specs.Code.Streams.{streams_of}
use Rattle.mg_check.specs.Code.Edges.{node_edges_from}
use Rattle.mg_check.specs.declared.inferred.Inferred.{Inferred}

inferred_streams : (names : List (List ℕ)) (kinds : List (List Kind)) (ws : List Producer) → streams_of names (map inferred_of kinds) ws ≡ map (λ e. record { name = e.0; kind = inferred_kind e.1.0; producer = e.1.1 }) (zip names (zip kinds ws))
inferred_streams [] kinds ws = refl
inferred_streams (n ∷ names) [] ws = refl
inferred_streams (n ∷ names) (k ∷ kinds) [] = refl
inferred_streams (n ∷ names) (k ∷ kinds) (w ∷ ws) = ap (λ l. record { name = n; kind = inferred_kind k; producer = w } ∷ l) (inferred_streams names kinds ws)

pub shown_streams : (graph : GraphView) (ds : List DraftView) (made : List PlanStream) (names : List (List ℕ)) (mets items : List Inferred) (ws written : List Producer) → made ≡ streams_of names mets ws → names ≡ stream_names graph ds
    → mets ≡ items → items ≡ map inferred_of (stream_meetings graph ds) → ws ≡ written → written ≡ writers graph ds → made ≡ plan_streams graph ds
shown_streams graph ds made names mets items ws written is named is_items inferred is_written writes =
    is ∙ (ap (λ l. streams_of l mets ws) named
    ∙ (ap (λ l. streams_of (stream_names graph ds) l ws) (is_items ∙ inferred)
    ∙ (ap (streams_of (stream_names graph ds) (map inferred_of (stream_meetings graph ds))) (is_written ∙ writes)
    ∙ inferred_streams (stream_names graph ds) (stream_meetings graph ds) (writers graph ds))))

pub all_edges_made : (graph : GraphView) (ds : List DraftView) (new old : List Edge) (names : List (List ℕ)) (count : ℕ) → new ≡ old ++ edges_into names count None (port_names graph.outputs) → old ≡ node_edges_from names 0 ds → names ≡ stream_names graph ds
    → count ≡ length ds → new ≡ edges graph ds
all_edges_made graph ds new old names count put made named counted =
    put ∙ (ap (λ l. l ++ edges_into names count None (port_names graph.outputs)) made
    ∙ (ap (λ l. node_edges_from l 0 ds ++ edges_into l count None (port_names graph.outputs)) named
    ∙ ap (λ n. node_edges_from (stream_names graph ds) 0 ds ++ edges_into (stream_names graph ds) n None (port_names graph.outputs)) counted))

pub plan_made : (graph : GraphView) (ds : List DraftView) (nodes : List PlanNode) (streams : List PlanStream) (edges : List Edge) (order inputs outputs : List ℕ) (sides : List PlainSide) (limit : ℤ) (workers : ℕ)
    → nodes ≡ plan_nodes (stream_names graph ds) (side_names graph ds) (length graph.inputs) ds → streams ≡ plan_streams graph ds → edges ≡ joining.edges graph ds → order ≡ joining.order graph ds → inputs ≡ numbers (length graph.inputs)
    → outputs ≡ map (number_among (stream_names graph ds)) (port_names graph.outputs) → sides ≡ plan_sides graph ds → limit ≡ limit_of graph.max_queue_size → workers ≡ workers_of graph.num_threads
    → record { nodes = nodes; streams = streams; edges = edges; order = order; inputs = inputs; outputs = outputs; sides = sides; limit = limit; workers = workers } ≡ plan_of graph ds
plan_made graph ds nodes streams edges order inputs outputs sides limit workers n s e o i p d l w =
    λ t. record { nodes = n t; streams = s t; edges = e t; order = o t; inputs = i t; outputs = p t; sides = d t; limit = l t; workers = w t }
