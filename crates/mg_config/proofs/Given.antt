-- A configuration is read out of the fields that it is written as.
use Rattle.std.proofs.Common.{ℕ, suc, ◌≡◌, List, [], ◌∷◌, ◌++◌, Bool, Some, Result, Ok, map, refl, ap, ◌∙◌, codes, append_assoc, append-nil, ◌||◌}
use Rattle.std.specs.Prelude.{ℤ, All}
use Rattle.std.specs.Str.{bytes_eq}
use Rattle.std.specs.Fmt.{signed_decimal}
use Rattle.std.proofs.lemmas.List.Elements.{All-head, All-tail}
use Rattle.mg_text.specs.Tree.{Fields}
use Rattle.mg_text.specs.View.{Entry}
use Rattle.mg_names.specs.Ports.{placed_ports_of, text_of}
use Rattle.mg_names.proofs.Again.{placed_ports}
use Rattle.mg_names.specs.declared.port.Port.{Port}
use Rattle.mg_config.specs.Values.{entries, first, values_of, text_of_value, text_of_first, number_of_first, texts_in, text_in, number_in, fields_of_value, message_of_first, messages_in, joined}
use Rattle.mg_config.specs.Number.{number_of}
use Rattle.mg_config.specs.Path.{numbered, result_within, then_do}
use Rattle.mg_config.specs.Config.{NodeView, GraphView, ports_by, ports_in, pair_in, streams_in, sides_in, marks_from, options_in, handler_in, node_with, node_of, nodes_from, graph_with, graph_of}
use Rattle.mg_config.specs.Sound.{AreReadBack, IsSoundNode, IsSound}
use Rattle.mg_config.specs.Written.{text_field, number_field, port_fields, mark_fields, handler_field, options_field, node_fields, node_entry, graph_fields, tree_of}
use Rattle.mg_config.specs.declared.ports.PortPair.{PortPair}
use Rattle.mg_config.specs.declared.fault.ConfigFault.{ConfigFault}
use Rattle.mg_config.proofs.Numbers.{number_of-decimal}
use Rattle.mg_config.proofs.Loops.{entries-of}
use Rattle.mg_config.proofs.Appended.{map_map}
use Rattle.mg_config.proofs.Pieces.{values, all_named, Piece, piece, spread, passing, look, spread_passing}
use Rattle.mg_config.proofs.Restored.{text_named, number_named, ports_named, marks_named, handler_named, options_named, text_back, number_back, texts_back, handler_back, options_back, marks_back}

-- the values of a name, in fields that stand in pieces
values_in : (name : List ℕ) (ps : List Piece) (fields : List Entry) → fields ≡ spread ps → values_of name fields ≡ look (λ other. bytes_eq other name) ps
values_in name ps fields are = ap (values_of name) are ∙ spread_passing (λ other. bytes_eq other name) ps

-- the ports that fields have under a name
ports_back : (name : List ℕ) (fields : List Entry) (ports : List Port) → values_of name fields ≡ values (port_fields name ports) → AreReadBack ports → ports_in name fields ≡ Ok ports
ports_back name fields ports have read =
    let texts : texts_in name fields ≡ map text_of ports = ap (map text_of_value) have ∙ texts_back name ports in
    ap (λ ts. ports_by name (placed_ports_of ts)) texts ∙ ap (ports_by name) (placed_ports (map text_of ports) ports read)

pair_back : (input output : List ℕ) (fields : List Entry) (inputs outputs : List Port) → ports_in input fields ≡ Ok inputs → ports_in output fields ≡ Ok outputs
    → pair_in input output fields ≡ Ok (record { inputs = inputs; outputs = outputs })
pair_back input output fields inputs outputs ins outs =
    ap (λ r. then_do r (λ inputs. then_do (ports_in output fields) (λ outputs. Ok (record { inputs = inputs; outputs = outputs })))) ins
    ∙ ap (λ r. then_do r (λ outputs. Ok (record { inputs = inputs; outputs = outputs }))) outs

-- what fields say under a name if they have what is written
text_found : (name text : List ℕ) (fields : List Entry) → values_of name fields ≡ values (text_field name text) → text_in name fields ≡ text
text_found name text fields have = ap (λ vs. text_of_first (first vs)) have ∙ text_back name text

number_found : (name : List ℕ) (n : ℤ) (fields : List Entry) → values_of name fields ≡ values (number_field name n) → number_of (signed_decimal n) ≡ Some n → number_in name fields ≡ n
number_found name n fields have spelled = ap (λ vs. number_of_first (first vs)) have ∙ number_back name n spelled

-- a node of what its fields say
abbrev node_made : NodeView → List ℕ → List ℕ → Fields → List ℕ → ℤ → ℤ → NodeView
node_made node name calculator options handler in_flight hint = record {
  name = name;
  calculator = calculator;
  inputs = node.inputs;
  outputs = node.outputs;
  input_sides = node.input_sides;
  output_sides = node.output_sides;
  options = options;
  back_marks = node.back_marks;
  handler = handler;
  max_in_flight = in_flight;
  buffer_size_hint = hint;
}

node_same : (node : NodeView) (name calculator : List ℕ) (options : Fields) (handler : List ℕ) (in_flight hint : ℤ) → name ≡ node.name → calculator ≡ node.calculator → options ≡ node.options
    → handler ≡ node.handler → in_flight ≡ node.max_in_flight → hint ≡ node.buffer_size_hint → node_made node name calculator options handler in_flight hint ≡ node
node_same node name calculator options handler in_flight hint named calculated optional handled flying hinted =
    ap (λ n. node_made node n calculator options handler in_flight hint) named
    ∙ ap (λ c. node_made node node.name c options handler in_flight hint) calculated
    ∙ ap (λ o. node_made node node.name node.calculator o handler in_flight hint) optional
    ∙ ap (λ h. node_made node node.name node.calculator node.options h in_flight hint) handled
    ∙ ap (λ m. node_made node node.name node.calculator node.options node.handler m hint) flying
    ∙ ap (λ b. node_made node node.name node.calculator node.options node.handler node.max_in_flight b) hinted

node_found : (node : NodeView) (fields : List Entry) → streams_in fields ≡ Ok (record { inputs = node.inputs; outputs = node.outputs })
    → sides_in fields ≡ Ok (record { inputs = node.input_sides; outputs = node.output_sides }) → marks_from 0 (messages_in (codes "input_stream_info") fields) ≡ Ok node.back_marks
    → text_in (codes "name") fields ≡ node.name → text_in (codes "calculator") fields ≡ node.calculator → options_in fields ≡ node.options → handler_in fields ≡ node.handler
    → number_in (codes "max_in_flight") fields ≡ node.max_in_flight → number_in (codes "buffer_size_hint") fields ≡ node.buffer_size_hint → node_of fields ≡ Ok node
node_found node fields streams sides marks name calculator options handler in_flight hint =
    let own : PortPair = record { inputs = node.inputs; outputs = node.outputs } in
    let own_sides : PortPair = record { inputs = node.input_sides; outputs = node.output_sides } in
    ap (λ r. then_do r (λ streams. then_do (sides_in fields) (λ sides. then_do (marks_from 0 (messages_in (codes "input_stream_info") fields)) (λ marks. Ok (node_with fields streams sides marks))))) streams
    ∙ ap (λ r. then_do r (λ sides. then_do (marks_from 0 (messages_in (codes "input_stream_info") fields)) (λ marks. Ok (node_with fields own sides marks)))) sides
    ∙ ap (λ r. then_do r (λ marks. Ok (node_with fields own own_sides marks))) marks
    ∙ ap Ok (node_same node _ _ _ _ _ _ name calculator options handler in_flight hint)

-- the pieces of a node
abbrev pub node_pieces : NodeView → List Piece
node_pieces node =
    piece (codes "name") (text_field (codes "name") node.name) (text_named (codes "name") node.name)
    ∷ piece (codes "calculator") (text_field (codes "calculator") node.calculator) (text_named (codes "calculator") node.calculator)
    ∷ piece (codes "input_stream") (port_fields (codes "input_stream") node.inputs) (ports_named (codes "input_stream") node.inputs)
    ∷ piece (codes "output_stream") (port_fields (codes "output_stream") node.outputs) (ports_named (codes "output_stream") node.outputs)
    ∷ piece (codes "input_side_packet") (port_fields (codes "input_side_packet") node.input_sides) (ports_named (codes "input_side_packet") node.input_sides)
    ∷ piece (codes "output_side_packet") (port_fields (codes "output_side_packet") node.output_sides) (ports_named (codes "output_side_packet") node.output_sides)
    ∷ piece (codes "input_stream_info") (mark_fields node.back_marks) (marks_named node.back_marks)
    ∷ piece (codes "input_stream_handler") (handler_field node.handler) (handler_named node.handler)
    ∷ piece (codes "max_in_flight") (number_field (codes "max_in_flight") node.max_in_flight) (number_named (codes "max_in_flight") node.max_in_flight)
    ∷ piece (codes "buffer_size_hint") (number_field (codes "buffer_size_hint") node.buffer_size_hint) (number_named (codes "buffer_size_hint") node.buffer_size_hint)
    ∷ piece (codes "options") (options_field node.options) (options_named node.options) ∷ []

node_chain : {E : Type 0} (a b c d e f g h i j k : List E)
    → a ++ (b ++ ((c ++ (d ++ (e ++ f))) ++ (g ++ (h ++ (i ++ (j ++ k)))))) ≡ a ++ (b ++ (c ++ (d ++ (e ++ (f ++ (g ++ (h ++ (i ++ (j ++ (k ++ []))))))))))
node_chain a b c d e f g h i j k = simp (append_assoc, append-nil)

node_spread : (node : NodeView) → node_fields node ≡ spread (node_pieces node)
node_spread node =
    node_chain (text_field (codes "name") node.name) (text_field (codes "calculator") node.calculator)
    (port_fields (codes "input_stream") node.inputs) (port_fields (codes "output_stream") node.outputs)
    (port_fields (codes "input_side_packet") node.input_sides) (port_fields (codes "output_side_packet") node.output_sides)
    (mark_fields node.back_marks) (handler_field node.handler)
    (number_field (codes "max_in_flight") node.max_in_flight) (number_field (codes "buffer_size_hint") node.buffer_size_hint) (options_field node.options)

-- the values of a name that one piece has
node_values : (node : NodeView) (name : List ℕ) (fields : List Entry) → look (λ other. bytes_eq other name) (node_pieces node) ≡ values fields ++ [] → values_of name (node_fields node) ≡ values fields
node_values node name fields is = values_in name (node_pieces node) (node_fields node) (node_spread node) ∙ is ∙ append-nil (values fields)

node_ports : (node : NodeView) (name : List ℕ) (ports : List Port) → look (λ other. bytes_eq other name) (node_pieces node) ≡ values (port_fields name ports) ++ [] → AreReadBack ports
    → ports_in name (node_fields node) ≡ Ok ports
node_ports node name ports is read = ports_back name (node_fields node) ports (node_values node name (port_fields name ports) is) read

pub node_text : (node : NodeView) (name text : List ℕ) → look (λ other. bytes_eq other name) (node_pieces node) ≡ values (text_field name text) ++ [] → text_in name (node_fields node) ≡ text
node_text node name text is = text_found name text (node_fields node) (node_values node name (text_field name text) is)

node_number : (node : NodeView) (name : List ℕ) (n : ℤ) → look (λ other. bytes_eq other name) (node_pieces node) ≡ values (number_field name n) ++ [] → number_of (signed_decimal n) ≡ Some n
    → number_in name (node_fields node) ≡ n
node_number node name n is spelled = number_found name n (node_fields node) (node_values node name (number_field name n) is) spelled

abbrev names_options : List ℕ → Bool
names_options name = bytes_eq name (codes "options") || bytes_eq name (codes "node_options")

node_options : (node : NodeView) → options_in (node_fields node) ≡ node.options
node_options node =
    let own : values (passing names_options (node_fields node)) ≡ values (options_field node.options) =
    ap (λ fields. values (passing names_options fields)) (node_spread node) ∙ spread_passing names_options (node_pieces node) ∙ append-nil (values (options_field node.options)) in
    ap joined (map_map fields_of_value (λ field. field.value) (passing names_options (node_fields node))) ∙ ap (λ vs. joined (map fields_of_value vs)) own ∙ options_back node.options

pub node_given : (node : NodeView) → IsSoundNode node → node_of (node_fields node) ≡ Ok node
node_given node sound =
    node_found node (node_fields node)
    (pair_back (codes "input_stream") (codes "output_stream") (node_fields node) node.inputs node.outputs
    (node_ports node (codes "input_stream") node.inputs refl sound.inputs) (node_ports node (codes "output_stream") node.outputs refl sound.outputs))
    (pair_back (codes "input_side_packet") (codes "output_side_packet") (node_fields node) node.input_sides node.output_sides
    (node_ports node (codes "input_side_packet") node.input_sides refl sound.input_sides) (node_ports node (codes "output_side_packet") node.output_sides refl sound.output_sides))
    (ap (λ vs. marks_from 0 (map fields_of_value vs)) (node_values node (codes "input_stream_info") (mark_fields node.back_marks) refl) ∙ marks_back node.back_marks 0 sound.back_marks)
    (node_text node (codes "name") node.name refl)
    (node_text node (codes "calculator") node.calculator refl)
    (node_options node)
    (ap (λ vs. text_in (codes "input_stream_handler") (entries (message_of_first (first vs)))) (node_values node (codes "input_stream_handler") (handler_field node.handler) refl) ∙ handler_back node.handler)
    (node_number node (codes "max_in_flight") node.max_in_flight refl (number_of-decimal node.max_in_flight sound.max_in_flight))
    (node_number node (codes "buffer_size_hint") node.buffer_size_hint refl (number_of-decimal node.buffer_size_hint sound.buffer_size_hint))

-- nodes, one after another
pub nodes_named : (nodes : List NodeView) → map node_entry nodes ≡ all_named (codes "node") (values (map node_entry nodes))
nodes_named [] = refl
nodes_named (node ∷ nodes) = ap (λ fields. node_entry node ∷ fields) (nodes_named nodes)

nodes_back : ((node : NodeView) → IsSoundNode node → node_of (node_fields node) ≡ Ok node) → (nodes : List NodeView) (k : ℕ) → All IsSoundNode nodes
    → nodes_from k (map fields_of_value (values (map node_entry nodes))) ≡ Ok nodes
nodes_back read [] k good = refl
nodes_back read (node ∷ nodes) k good =
    let later : Result (List NodeView) ConfigFault = nodes_from (suc k) (map fields_of_value (values (map node_entry nodes))) in
    ap (λ es. then_do (result_within (numbered (codes "node") k) (node_of es)) (λ n. then_do later (λ more. Ok (n ∷ more)))) (entries-of (node_fields node))
    ∙ ap (λ r. then_do (result_within (numbered (codes "node") k) r) (λ n. then_do later (λ more. Ok (n ∷ more)))) (read node (All-head IsSoundNode node nodes good))
    ∙ ap (λ r. then_do r (λ more. Ok (node ∷ more))) (nodes_back read nodes (suc k) (All-tail IsSoundNode node nodes good))

-- a graph of what its fields say
abbrev graph_made : GraphView → List ℕ → ℤ → ℤ → GraphView
graph_made graph type_name size threads = record {
  type_name = type_name;
  nodes = graph.nodes;
  inputs = graph.inputs;
  outputs = graph.outputs;
  input_sides = graph.input_sides;
  output_sides = graph.output_sides;
  max_queue_size = size;
  num_threads = threads;
}

graph_same : (graph : GraphView) (type_name : List ℕ) (size threads : ℤ) → type_name ≡ graph.type_name → size ≡ graph.max_queue_size → threads ≡ graph.num_threads
    → graph_made graph type_name size threads ≡ graph
graph_same graph type_name size threads typed sized threaded =
    ap (λ t. graph_made graph t size threads) typed ∙ ap (λ s. graph_made graph graph.type_name s threads) sized ∙ ap (graph_made graph graph.type_name graph.max_queue_size) threaded

graph_found : (graph : GraphView) (fields : List Entry) → streams_in fields ≡ Ok (record { inputs = graph.inputs; outputs = graph.outputs })
    → sides_in fields ≡ Ok (record { inputs = graph.input_sides; outputs = graph.output_sides }) → nodes_from 0 (messages_in (codes "node") fields) ≡ Ok graph.nodes
    → text_in (codes "type") fields ≡ graph.type_name → number_in (codes "max_queue_size") fields ≡ graph.max_queue_size → number_in (codes "num_threads") fields ≡ graph.num_threads
    → graph_of fields ≡ Ok graph
graph_found graph fields streams sides nodes type_name size threads =
    let own : PortPair = record { inputs = graph.inputs; outputs = graph.outputs } in
    let own_sides : PortPair = record { inputs = graph.input_sides; outputs = graph.output_sides } in
    ap (λ r. then_do r (λ streams. then_do (sides_in fields) (λ sides. then_do (nodes_from 0 (messages_in (codes "node") fields)) (λ nodes. Ok (graph_with fields streams sides nodes))))) streams
    ∙ ap (λ r. then_do r (λ sides. then_do (nodes_from 0 (messages_in (codes "node") fields)) (λ nodes. Ok (graph_with fields own sides nodes)))) sides
    ∙ ap (λ r. then_do r (λ nodes. Ok (graph_with fields own own_sides nodes))) nodes
    ∙ ap Ok (graph_same graph _ _ _ type_name size threads)

-- the pieces of a graph
abbrev pub graph_pieces : GraphView → List Piece
graph_pieces graph =
    piece (codes "type") (text_field (codes "type") graph.type_name) (text_named (codes "type") graph.type_name)
    ∷ piece (codes "input_stream") (port_fields (codes "input_stream") graph.inputs) (ports_named (codes "input_stream") graph.inputs)
    ∷ piece (codes "output_stream") (port_fields (codes "output_stream") graph.outputs) (ports_named (codes "output_stream") graph.outputs)
    ∷ piece (codes "input_side_packet") (port_fields (codes "input_side_packet") graph.input_sides) (ports_named (codes "input_side_packet") graph.input_sides)
    ∷ piece (codes "output_side_packet") (port_fields (codes "output_side_packet") graph.output_sides) (ports_named (codes "output_side_packet") graph.output_sides)
    ∷ piece (codes "max_queue_size") (number_field (codes "max_queue_size") graph.max_queue_size) (number_named (codes "max_queue_size") graph.max_queue_size)
    ∷ piece (codes "num_threads") (number_field (codes "num_threads") graph.num_threads) (number_named (codes "num_threads") graph.num_threads)
    ∷ piece (codes "node") (map node_entry graph.nodes) (nodes_named graph.nodes) ∷ []

graph_chain : {E : Type 0} (a b c d e f g h : List E) → a ++ ((b ++ (c ++ (d ++ e))) ++ (f ++ (g ++ h))) ≡ a ++ (b ++ (c ++ (d ++ (e ++ (f ++ (g ++ (h ++ [])))))))
graph_chain a b c d e f g h = simp (append_assoc, append-nil)

graph_spread : (graph : GraphView) → graph_fields graph ≡ spread (graph_pieces graph)
graph_spread graph =
    graph_chain (text_field (codes "type") graph.type_name) (port_fields (codes "input_stream") graph.inputs) (port_fields (codes "output_stream") graph.outputs)
    (port_fields (codes "input_side_packet") graph.input_sides) (port_fields (codes "output_side_packet") graph.output_sides)
    (number_field (codes "max_queue_size") graph.max_queue_size) (number_field (codes "num_threads") graph.num_threads) (map node_entry graph.nodes)

pub graph_values : (graph : GraphView) (name : List ℕ) (fields : List Entry) → look (λ other. bytes_eq other name) (graph_pieces graph) ≡ values fields ++ [] → values_of name (graph_fields graph) ≡ values fields
graph_values graph name fields is = values_in name (graph_pieces graph) (graph_fields graph) (graph_spread graph) ∙ is ∙ append-nil (values fields)

graph_ports : (graph : GraphView) (name : List ℕ) (ports : List Port) → look (λ other. bytes_eq other name) (graph_pieces graph) ≡ values (port_fields name ports) ++ [] → AreReadBack ports
    → ports_in name (graph_fields graph) ≡ Ok ports
graph_ports graph name ports is read = ports_back name (graph_fields graph) ports (graph_values graph name (port_fields name ports) is) read

graph_number : (graph : GraphView) (name : List ℕ) (n : ℤ) → look (λ other. bytes_eq other name) (graph_pieces graph) ≡ values (number_field name n) ++ [] → number_of (signed_decimal n) ≡ Some n
    → number_in name (graph_fields graph) ≡ n
graph_number graph name n is spelled = number_found name n (graph_fields graph) (graph_values graph name (number_field name n) is) spelled

pub graph_given : (graph : GraphView) → IsSound graph → graph_of (entries (tree_of graph)) ≡ Ok graph
graph_given graph sound =
    ap graph_of (entries-of (graph_fields graph))
    ∙ graph_found graph (graph_fields graph)
    (pair_back (codes "input_stream") (codes "output_stream") (graph_fields graph) graph.inputs graph.outputs
    (graph_ports graph (codes "input_stream") graph.inputs refl sound.inputs) (graph_ports graph (codes "output_stream") graph.outputs refl sound.outputs))
    (pair_back (codes "input_side_packet") (codes "output_side_packet") (graph_fields graph) graph.input_sides graph.output_sides
    (graph_ports graph (codes "input_side_packet") graph.input_sides refl sound.input_sides) (graph_ports graph (codes "output_side_packet") graph.output_sides refl sound.output_sides))
    (ap (λ vs. nodes_from 0 (map fields_of_value vs)) (graph_values graph (codes "node") (map node_entry graph.nodes) refl) ∙ nodes_back node_given graph.nodes 0 sound.nodes)
    (text_found (codes "type") graph.type_name (graph_fields graph) (graph_values graph (codes "type") (text_field (codes "type") graph.type_name) refl))
    (graph_number graph (codes "max_queue_size") graph.max_queue_size refl (number_of-decimal graph.max_queue_size sound.max_queue_size))
    (graph_number graph (codes "num_threads") graph.num_threads refl (number_of-decimal graph.num_threads sound.num_threads))
