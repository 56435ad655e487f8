-- The fields that a configuration is written as nest no deeper than a text may.
use Rattle.std.proofs.Common.{ℕ, suc, ℤ, pos, negsuc, ◌+◌, ◌≤◌, ◌==◌, List, [], ◌∷◌, ◌++◌, Bool, true, false, if◌then◌else◌, map, codes, arith}
use Rattle.std.specs.List.{All}
use Rattle.std.specs.Str.{bytes_eq}
use Rattle.std.specs.Fmt.{signed_decimal}
use Rattle.std.proofs.lemmas.List.Elements.{All-head, All-tail}
use Rattle.mg_text.specs.Tree.{number, Fields, none, scalar, message, depth}
use Rattle.mg_text.specs.View.{Value, simple, inner, Entry, put, fields_of}
use Rattle.mg_text.specs.Answer.{max_depth}
use Rattle.mg_text.specs.Code.Printing.{entry_depth}
use Rattle.mg_names.specs.declared.port.Port.{Port}
use Rattle.mg_config.specs.Values.{entry}
use Rattle.mg_config.specs.Config.{NodeView, GraphView}
use Rattle.mg_config.specs.Written.{text_entry, text_field, number_field, port_fields, mark_fields, handler_field, options_field, list_fields, node_ends, node_fields, node_entry, graph_fields, tree_of}
use Rattle.mg_config.specs.Sound.{IsPrintableNode, IsPrintable}
use Rattle.mg_config.specs.declared.mark.Mark.{Mark}

-- each of the fields nests at most so many messages
abbrev pub AllShallow : ℕ → List Entry → Type 0
AllShallow n [] = Unit {0}
AllShallow n (e ∷ es) = (entry_depth e.value ≤ n) × AllShallow n es

put_shallow : (n : ℕ) (name : List ℕ) (value : Value) (rest : Fields) → entry_depth value ≤ n → depth rest ≤ n → depth (put name value rest) ≤ n
put_shallow n name (simple kind bytes) rest here later = later
put_shallow n name (inner fields) rest here later = omega arith

pub fields_shallow : (n : ℕ) (es : List Entry) → AllShallow n es → depth (fields_of es) ≤ n
fields_shallow n [] all = omega arith
fields_shallow n (e ∷ es) all = put_shallow n e.name e.value (fields_of es) all.0 (fields_shallow n es all.1)

append_shallow : (n : ℕ) (a b : List Entry) → AllShallow n a → AllShallow n b → AllShallow n (a ++ b)
append_shallow n [] b first later = later
append_shallow n (e ∷ a) b first later = (first.0, append_shallow n a b first.1 later)

-- the pieces
text_shallow : (n : ℕ) (name text : List ℕ) → AllShallow n (text_field name text)
text_shallow n name text = by (bytes_eq text [])
  where
    by : (t : Bool) → AllShallow n (if t then [] else text_entry name text ∷ [])
    by true = tt
    by false = (omega arith, tt)

number_shallow : (n : ℕ) (name : List ℕ) (z : ℤ) → AllShallow n (number_field name z)
number_shallow n name (pos m) = by (m == 0)
  where
    by : (t : Bool) → AllShallow n (if t then [] else entry name (simple number (signed_decimal (pos m))) ∷ [])
    by true = tt
    by false = (omega arith, tt)
number_shallow n name (negsuc m) = (omega arith, tt)

ports_shallow : (n : ℕ) (name : List ℕ) (ports : List Port) → AllShallow n (port_fields name ports)
ports_shallow n name [] = tt
ports_shallow n name (port ∷ ports) = (omega arith, ports_shallow n name ports)

lists_shallow : (n : ℕ) (inputs outputs input_sides output_sides : List Port) → AllShallow n (list_fields inputs outputs input_sides output_sides)
lists_shallow n inputs outputs input_sides output_sides =
    append_shallow n (port_fields (codes "input_stream") inputs) _ (ports_shallow n (codes "input_stream") inputs)
    (append_shallow n (port_fields (codes "output_stream") outputs) _ (ports_shallow n (codes "output_stream") outputs)
    (append_shallow n (port_fields (codes "input_side_packet") input_sides) _ (ports_shallow n (codes "input_side_packet") input_sides)
    (ports_shallow n (codes "output_side_packet") output_sides)))

marks_shallow : (n : ℕ) (marks : List Mark) → AllShallow (suc n) (mark_fields marks)
marks_shallow n [] = tt
marks_shallow n (mark ∷ marks) = (omega arith, marks_shallow n marks)

handler_shallow : (n : ℕ) (name : List ℕ) → AllShallow (suc n) (handler_field name)
handler_shallow n name = by (bytes_eq name [])
  where
    by : (t : Bool) → AllShallow (suc n) (if t then [] else entry (codes "input_stream_handler") (inner (fields_of (text_entry (codes "input_stream_handler") name ∷ []))) ∷ [])
    by true = tt
    by false = (omega arith, tt)

options_shallow : (n : ℕ) (options : Fields) → depth options ≤ n → AllShallow (suc n) (options_field options)
options_shallow n none small = tt
options_shallow n (scalar name kind bytes rest) small = (omega arith, tt)
options_shallow n (message name fields rest) small = (omega arith, tt)

-- a node
ends_shallow : (n : ℕ) (node : NodeView) → depth node.options ≤ n → AllShallow (suc n) (node_ends node)
ends_shallow n node small =
    append_shallow (suc n) (mark_fields node.back_marks) _ (marks_shallow n node.back_marks)
    (append_shallow (suc n) (handler_field node.handler) _ (handler_shallow n node.handler)
    (append_shallow (suc n) (number_field (codes "max_in_flight") node.max_in_flight) _ (number_shallow (suc n) (codes "max_in_flight") node.max_in_flight)
    (append_shallow (suc n) (number_field (codes "buffer_size_hint") node.buffer_size_hint) _ (number_shallow (suc n) (codes "buffer_size_hint") node.buffer_size_hint)
    (options_shallow n node.options small))))

node_shallow : (n : ℕ) (node : NodeView) → depth node.options ≤ n → AllShallow (suc n) (node_fields node)
node_shallow n node small =
    append_shallow (suc n) (text_field (codes "name") node.name) _ (text_shallow (suc n) (codes "name") node.name)
    (append_shallow (suc n) (text_field (codes "calculator") node.calculator) _ (text_shallow (suc n) (codes "calculator") node.calculator)
    (append_shallow (suc n) (list_fields node.inputs node.outputs node.input_sides node.output_sides) _
    (lists_shallow (suc n) node.inputs node.outputs node.input_sides node.output_sides)
    (ends_shallow n node small)))

nodes_shallow : (n : ℕ) (nodes : List NodeView) → max_depth ≤ n + 2 → All IsPrintableNode nodes → AllShallow (suc (suc n)) (map node_entry nodes)
nodes_shallow n [] large printable = tt
nodes_shallow n (node ∷ nodes) large printable =
    let small = (All-head IsPrintableNode node nodes printable).shallow in
    let inside = fields_shallow (suc n) (node_fields node) (node_shallow n node (omega (arith, small))) in
    (omega (arith, inside), nodes_shallow n nodes large (All-tail IsPrintableNode node nodes printable))

-- the graph
graph_shallow : (n : ℕ) (graph : GraphView) → max_depth ≤ n + 2 → IsPrintable graph → AllShallow (suc (suc n)) (graph_fields graph)
graph_shallow n graph large printable =
    append_shallow (suc (suc n)) (text_field (codes "type") graph.type_name) _ (text_shallow (suc (suc n)) (codes "type") graph.type_name)
    (append_shallow (suc (suc n)) (list_fields graph.inputs graph.outputs graph.input_sides graph.output_sides) _
    (lists_shallow (suc (suc n)) graph.inputs graph.outputs graph.input_sides graph.output_sides)
    (append_shallow (suc (suc n)) (number_field (codes "max_queue_size") graph.max_queue_size) _ (number_shallow (suc (suc n)) (codes "max_queue_size") graph.max_queue_size)
    (append_shallow (suc (suc n)) (number_field (codes "num_threads") graph.num_threads) _ (number_shallow (suc (suc n)) (codes "num_threads") graph.num_threads)
    (nodes_shallow n graph.nodes large printable.nodes))))

pub shallow_tree : (graph : GraphView) → IsPrintable graph → depth (tree_of graph) ≤ max_depth
shallow_tree graph printable = fields_shallow 64 (graph_fields graph) (graph_shallow 62 graph (omega arith) printable)
