-- The fields that a configuration is written as are spelled by the grammar.
use Rattle.std.proofs.Common.{ℕ, ℤ, pos, negsuc, ◌≡◌, ◌==◌, List, [], ◌∷◌, ◌++◌, Bool, true, false, if◌then◌else◌, map, codes, refl}
use Rattle.std.specs.List.{All}
use Rattle.std.specs.Str.{bytes_eq}
use Rattle.std.specs.Fmt.{signed_decimal}
use Rattle.std.proofs.lemmas.List.Elements.{All-head, All-tail}
use Rattle.mg_text.specs.Byte.{class_of, below_digits, digit_class, upper_class, lower_class}
use Rattle.mg_text.specs.Tree.{number, Fields, none, scalar, message}
use Rattle.mg_text.specs.View.{Value, simple, inner, Entry, put, fields_of}
use Rattle.mg_text.specs.Grammar.{IsName}
use Rattle.mg_text.specs.Canonical.{AreCharacters, IsSpelled, AreSpelled}
use Rattle.mg_names.specs.Ports.{text_of, IsSpelled as IsSpelledPort}
use Rattle.mg_names.specs.declared.port.Port.{Port}
use Rattle.mg_names.proofs.Again.{all_spelled}
use Rattle.mg_config.specs.Values.{entry}
use Rattle.mg_config.specs.Config.{NodeView, GraphView}
use Rattle.mg_config.specs.Written.{text_entry, text_field, number_field, port_fields, mark_fields, handler_field, options_field, list_fields, node_ends, node_fields, node_entry, graph_fields, tree_of}
use Rattle.mg_config.specs.Sound.{FitsI32, AreReadBack, IsMark, IsSoundNode, IsSound, IsPrintableNode, IsPrintable}
use Rattle.mg_config.specs.declared.mark.Mark.{Mark}
use Rattle.mg_config.proofs.Letters.{is_word, word_of, name_of, number_spelled, port_characters, mark_characters}

-- a value that is spelled, and fields that are
abbrev pub IsSpelledValue : Value → Type 0
IsSpelledValue (simple kind bytes) = IsSpelled kind bytes
IsSpelledValue (inner fields) = AreSpelled fields

abbrev pub AllSpelled : List Entry → Type 0
AllSpelled [] = Unit {0}
AllSpelled (e ∷ es) = IsName e.name × IsSpelledValue e.value × AllSpelled es

put_spelled : (name : List ℕ) (value : Value) (rest : Fields) → IsName name → IsSpelledValue value → AreSpelled rest → AreSpelled (put name value rest)
put_spelled name (simple kind bytes) rest named here later = (named, here, later)
put_spelled name (inner fields) rest named here later = (named, here, later)

pub fields_spelled : (es : List Entry) → AllSpelled es → AreSpelled (fields_of es)
fields_spelled [] all = tt
fields_spelled (e ∷ es) all = put_spelled e.name e.value (fields_of es) all.0 all.1 (fields_spelled es all.2)

append_spelled : (a b : List Entry) → AllSpelled a → AllSpelled b → AllSpelled (a ++ b)
append_spelled [] b first later = later
append_spelled (e ∷ a) b first later = (first.0, first.1, append_spelled a b first.2 later)

-- the names
record AreWords : Type 0 where
  type_name : IsName (codes "type")
  max_queue_size : IsName (codes "max_queue_size")
  num_threads : IsName (codes "num_threads")
  node : IsName (codes "node")
  input_stream : IsName (codes "input_stream")
  output_stream : IsName (codes "output_stream")
  input_side_packet : IsName (codes "input_side_packet")
  output_side_packet : IsName (codes "output_side_packet")
  name : IsName (codes "name")
  calculator : IsName (codes "calculator")
  max_in_flight : IsName (codes "max_in_flight")
  buffer_size_hint : IsName (codes "buffer_size_hint")
  input_stream_info : IsName (codes "input_stream_info")
  input_stream_handler : IsName (codes "input_stream_handler")
  options : IsName (codes "options")
  tag_index : IsName (codes "tag_index")
  back_edge : IsName (codes "back_edge")

words : AreWords
unfolding class_of below_digits digit_class upper_class lower_class
words = record {
  type_name = name_of (codes "type") refl;
  max_queue_size = name_of (codes "max_queue_size") refl;
  num_threads = name_of (codes "num_threads") refl;
  node = name_of (codes "node") refl;
  input_stream = name_of (codes "input_stream") refl;
  output_stream = name_of (codes "output_stream") refl;
  input_side_packet = name_of (codes "input_side_packet") refl;
  output_side_packet = name_of (codes "output_side_packet") refl;
  name = name_of (codes "name") refl;
  calculator = name_of (codes "calculator") refl;
  max_in_flight = name_of (codes "max_in_flight") refl;
  buffer_size_hint = name_of (codes "buffer_size_hint") refl;
  input_stream_info = name_of (codes "input_stream_info") refl;
  input_stream_handler = name_of (codes "input_stream_handler") refl;
  options = name_of (codes "options") refl;
  tag_index = name_of (codes "tag_index") refl;
  back_edge = name_of (codes "back_edge") refl;
}

true_is : is_word (codes "true") ≡ true
unfolding class_of below_digits digit_class upper_class lower_class
true_is = refl

-- the pieces
text_spelled : (name text : List ℕ) → IsName name → AreCharacters text → AllSpelled (text_field name text)
text_spelled name text named characters = by (bytes_eq text [])
  where
    by : (t : Bool) → AllSpelled (if t then [] else text_entry name text ∷ [])
    by true = tt
    by false = (named, characters, tt)

number_field_spelled : (name : List ℕ) (z : ℤ) → IsName name → FitsI32 z → AllSpelled (number_field name z)
number_field_spelled name (pos n) named fits = by (n == 0)
  where
    by : (t : Bool) → AllSpelled (if t then [] else entry name (simple number (signed_decimal (pos n))) ∷ [])
    by true = tt
    by false = (named, number_spelled (pos n) fits, tt)
number_field_spelled name (negsuc n) named fits = (named, number_spelled (negsuc n) fits, tt)

ports_spelled : (name : List ℕ) (ports : List Port) → IsName name → All IsSpelledPort ports → AllSpelled (port_fields name ports)
ports_spelled name [] named all = tt
ports_spelled name (port ∷ ports) named all =
    (named, port_characters port (All-head IsSpelledPort port ports all), ports_spelled name ports named (All-tail IsSpelledPort port ports all))

read_back_spelled : (name : List ℕ) (ports : List Port) → IsName name → AreReadBack ports → AllSpelled (port_fields name ports)
read_back_spelled name ports named read = ports_spelled name ports named (all_spelled (map text_of ports) ports read)

lists_spelled : (inputs outputs input_sides output_sides : List Port) → AreReadBack inputs → AreReadBack outputs → AreReadBack input_sides → AreReadBack output_sides
    → AllSpelled (list_fields inputs outputs input_sides output_sides)
lists_spelled inputs outputs input_sides output_sides ins outs in_sides out_sides =
    append_spelled (port_fields (codes "input_stream") inputs) _ (read_back_spelled (codes "input_stream") inputs words.input_stream ins)
    (append_spelled (port_fields (codes "output_stream") outputs) _ (read_back_spelled (codes "output_stream") outputs words.output_stream outs)
    (append_spelled (port_fields (codes "input_side_packet") input_sides) _ (read_back_spelled (codes "input_side_packet") input_sides words.input_side_packet in_sides)
    (read_back_spelled (codes "output_side_packet") output_sides words.output_side_packet out_sides)))

marks_spelled : (marks : List Mark) → All IsMark marks → AllSpelled (mark_fields marks)
marks_spelled [] all = tt
marks_spelled (mark ∷ marks) all = (
  words.input_stream_info,
  (words.tag_index, mark_characters mark (All-head IsMark mark marks all), (words.back_edge, word_of (codes "true") true_is, tt)),
  marks_spelled marks (All-tail IsMark mark marks all),
)

handler_spelled : (name : List ℕ) → AreCharacters name → AllSpelled (handler_field name)
handler_spelled name characters = by (bytes_eq name [])
  where
    by : (t : Bool) → AllSpelled (if t then [] else entry (codes "input_stream_handler") (inner (fields_of (text_entry (codes "input_stream_handler") name ∷ []))) ∷ [])
    by true = tt
    by false = (words.input_stream_handler, (words.input_stream_handler, characters, tt), tt)

options_spelled : (options : Fields) → AreSpelled options → AllSpelled (options_field options)
options_spelled none spelled = tt
options_spelled (scalar name kind bytes rest) spelled = (words.options, spelled, tt)
options_spelled (message name fields rest) spelled = (words.options, spelled, tt)

-- a node
ends_spelled : (node : NodeView) → IsSoundNode node → IsPrintableNode node → AllSpelled (node_ends node)
ends_spelled node sound printable =
    append_spelled (mark_fields node.back_marks) _ (marks_spelled node.back_marks sound.back_marks)
    (append_spelled (handler_field node.handler) _ (handler_spelled node.handler printable.handler)
    (append_spelled (number_field (codes "max_in_flight") node.max_in_flight) _ (number_field_spelled (codes "max_in_flight") node.max_in_flight words.max_in_flight sound.max_in_flight)
    (append_spelled (number_field (codes "buffer_size_hint") node.buffer_size_hint) _ (number_field_spelled (codes "buffer_size_hint") node.buffer_size_hint words.buffer_size_hint sound.buffer_size_hint)
    (options_spelled node.options printable.options))))

node_spelled : (node : NodeView) → IsSoundNode node → IsPrintableNode node → AllSpelled (node_fields node)
node_spelled node sound printable =
    append_spelled (text_field (codes "name") node.name) _ (text_spelled (codes "name") node.name words.name printable.name)
    (append_spelled (text_field (codes "calculator") node.calculator) _ (text_spelled (codes "calculator") node.calculator words.calculator printable.calculator)
    (append_spelled (list_fields node.inputs node.outputs node.input_sides node.output_sides) _
    (lists_spelled node.inputs node.outputs node.input_sides node.output_sides sound.inputs sound.outputs sound.input_sides sound.output_sides)
    (ends_spelled node sound printable)))

nodes_spelled : (nodes : List NodeView) → All IsSoundNode nodes → All IsPrintableNode nodes → AllSpelled (map node_entry nodes)
nodes_spelled [] sound printable = tt
nodes_spelled (node ∷ nodes) sound printable = (
  words.node,
  fields_spelled (node_fields node) (node_spelled node (All-head IsSoundNode node nodes sound) (All-head IsPrintableNode node nodes printable)),
  nodes_spelled nodes (All-tail IsSoundNode node nodes sound) (All-tail IsPrintableNode node nodes printable),
)

-- the graph
graph_spelled : (graph : GraphView) → IsSound graph → IsPrintable graph → AllSpelled (graph_fields graph)
graph_spelled graph sound printable =
    append_spelled (text_field (codes "type") graph.type_name) _ (text_spelled (codes "type") graph.type_name words.type_name printable.type_name)
    (append_spelled (list_fields graph.inputs graph.outputs graph.input_sides graph.output_sides) _
    (lists_spelled graph.inputs graph.outputs graph.input_sides graph.output_sides sound.inputs sound.outputs sound.input_sides sound.output_sides)
    (append_spelled (number_field (codes "max_queue_size") graph.max_queue_size) _ (number_field_spelled (codes "max_queue_size") graph.max_queue_size words.max_queue_size sound.max_queue_size)
    (append_spelled (number_field (codes "num_threads") graph.num_threads) _ (number_field_spelled (codes "num_threads") graph.num_threads words.num_threads sound.num_threads)
    (nodes_spelled graph.nodes sound.nodes printable.nodes))))

pub spelled_tree : (graph : GraphView) → IsSound graph → IsPrintable graph → AreSpelled (tree_of graph)
spelled_tree graph sound printable = fields_spelled (graph_fields graph) (graph_spelled graph sound printable)
