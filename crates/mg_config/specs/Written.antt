-- The fields that a configuration is written as, in the order of writing. Empty texts and options, and numbers that are 0, aren't written.
use Rattle.std.specs.Prelude.{ℕ, ℤ, pos, negsuc, List, [], ◌∷◌, ◌++◌, ◌==◌, if◌then◌else◌, map, codes}
use Rattle.std.specs.Str.{bytes_eq}
use Rattle.std.specs.Fmt.{signed_decimal}
use Rattle.mg_text.specs.Tree.{word, number, quoted, Fields, none, scalar, message}
use Rattle.mg_text.specs.View.{simple, inner, Entry, fields_of}
use Rattle.mg_names.specs.Ports.{text_of}
use Rattle.mg_names.specs.TagIndex.{text_of_tag_index}
use Rattle.mg_names.specs.declared.port.Port.{Port}
use Rattle.mg_config.specs.Values.{entry}
use Rattle.mg_config.specs.Config.{NodeView, GraphView}
use Rattle.mg_config.specs.declared.mark.Mark.{Mark}

abbrev pub text_entry : List ℕ → List ℕ → Entry
text_entry name text = entry name (simple quoted text)

abbrev pub text_field : List ℕ → List ℕ → List Entry
text_field name text = if bytes_eq text [] then [] else text_entry name text ∷ []

abbrev pub number_field : List ℕ → ℤ → List Entry
number_field name (pos n) = if n == 0 then [] else entry name (simple number (signed_decimal (pos n))) ∷ []
number_field name (negsuc n) = entry name (simple number (signed_decimal (negsuc n))) ∷ []

abbrev pub port_fields : List ℕ → List Port → List Entry
port_fields name ports = map (λ port. text_entry name (text_of port)) ports

-- the `input_stream_info` of a back edge: its tag and index, and that it is a back edge
abbrev pub mark_entry : Mark → Entry
mark_entry mark = entry (codes "input_stream_info")
    (inner (fields_of (text_entry (codes "tag_index") (text_of_tag_index mark.tag mark.index) ∷ entry (codes "back_edge") (simple word (codes "true")) ∷ [])))

abbrev pub mark_fields : List Mark → List Entry
mark_fields marks = map mark_entry marks

abbrev pub handler_field : List ℕ → List Entry
handler_field name =
    if bytes_eq name [] then [] else entry (codes "input_stream_handler") (inner (fields_of (text_entry (codes "input_stream_handler") name ∷ []))) ∷ []

abbrev pub options_field : Fields → List Entry
options_field none = []
options_field (scalar name kind bytes rest) = entry (codes "options") (inner (scalar name kind bytes rest)) ∷ []
options_field (message name fields rest) = entry (codes "options") (inner (message name fields rest)) ∷ []

-- the fields of the four lists of ports that graphs and nodes have
abbrev pub list_fields : List Port → List Port → List Port → List Port → List Entry
list_fields inputs outputs input_sides output_sides =
    port_fields (codes "input_stream") inputs ++ (port_fields (codes "output_stream") outputs
    ++ (port_fields (codes "input_side_packet") input_sides ++ port_fields (codes "output_side_packet") output_sides))

abbrev pub node_ends : NodeView → List Entry
node_ends node =
    mark_fields node.back_marks ++ (handler_field node.handler ++ (number_field (codes "max_in_flight") node.max_in_flight
    ++ (number_field (codes "buffer_size_hint") node.buffer_size_hint ++ options_field node.options)))

abbrev pub node_fields : NodeView → List Entry
node_fields node =
    text_field (codes "name") node.name ++ (text_field (codes "calculator") node.calculator
    ++ (list_fields node.inputs node.outputs node.input_sides node.output_sides ++ node_ends node))

abbrev pub node_entry : NodeView → Entry
node_entry node = entry (codes "node") (inner (fields_of (node_fields node)))

abbrev pub graph_fields : GraphView → List Entry
graph_fields graph =
    text_field (codes "type") graph.type_name ++ (list_fields graph.inputs graph.outputs graph.input_sides graph.output_sides
    ++ (number_field (codes "max_queue_size") graph.max_queue_size ++ (number_field (codes "num_threads") graph.num_threads
    ++ map node_entry graph.nodes)))

-- the fields of a configuration
abbrev pub tree_of : GraphView → Fields
tree_of graph = fields_of (graph_fields graph)
