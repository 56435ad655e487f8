-- The configuration of a list of fields, or its first fault.
use Rattle.std.specs.Prelude.{ℕ, suc, ℤ, List, [], ◌∷◌, Bool, true, false, Option, None, Some, Result, Ok, Err, map, codes, ◌||◌, filter}
use Rattle.std.specs.Str.{bytes_eq}
use Rattle.mg_text.specs.Tree.{Fields}
use Rattle.mg_text.specs.View.{Entry, view}
use Rattle.mg_names.specs.Ports.{placed_ports_of}
use Rattle.mg_names.specs.TagIndex.{tag_index_of}
use Rattle.mg_names.specs.declared.port.Port.{Port}
use Rattle.mg_names.specs.declared.fault.NameFault.{NameFault}
use Rattle.mg_names.specs.declared.placed_fault.PlacedFault.{PlacedFault}
use Rattle.mg_names.specs.declared.placed_fault.PlacedFault.TheVariants.{At, Whole}
use Rattle.mg_names.specs.declared.placed_fault.PlacedFault.TheVariants as placed
use Rattle.mg_config.specs.Values.{entries, texts_in, text_in, number_in, truth_in, message_in, messages_in, joined, fields_of_value}
use Rattle.mg_config.specs.Path.{numbered, result_within, then_do}
use Rattle.mg_config.specs.Faults.{field_fault, calculator_fault}
use Rattle.mg_config.specs.declared.schema.Message.TheVariants.{Graph}
use Rattle.mg_config.specs.declared.mark.Mark.{Mark}
use Rattle.mg_config.specs.declared.ports.PortPair.{PortPair}
use Rattle.mg_config.specs.declared.node.NodeConfig.{NodeConfig}
use Rattle.mg_config.specs.declared.graph.GraphConfig.{GraphConfig}
use Rattle.mg_config.specs.declared.fault.ConfigFault.{ConfigFault}
use Rattle.mg_config.specs.declared.fault.ConfigFault.TheVariants.{BadPort, OutOfMemory}

-- a node of a configuration, with its options as fields
pub record NodeView : Type 0 where
  pub name : List ℕ
  pub calculator : List ℕ
  pub inputs : List Port
  pub outputs : List Port
  pub input_sides : List Port
  pub output_sides : List Port
  pub options : Fields
  pub back_marks : List Mark
  pub handler : List ℕ
  pub max_in_flight : ℤ
  pub buffer_size_hint : ℤ

-- a configuration, with its nodes as `NodeView`s
pub record GraphView : Type 0 where
  pub type_name : List ℕ
  pub nodes : List NodeView
  pub inputs : List Port
  pub outputs : List Port
  pub input_sides : List Port
  pub output_sides : List Port
  pub max_queue_size : ℤ
  pub num_threads : ℤ

-- what a node of a configuration stands for
abbrev pub node_view : NodeConfig → NodeView
node_view node = record {
  name = node.name;
  calculator = node.calculator;
  inputs = node.inputs;
  outputs = node.outputs;
  input_sides = node.input_sides;
  output_sides = node.output_sides;
  options = view node.options;
  back_marks = node.back_marks;
  handler = node.handler;
  max_in_flight = node.max_in_flight;
  buffer_size_hint = node.buffer_size_hint;
}

-- what a configuration stands for
abbrev pub graph_view : GraphConfig → GraphView
graph_view graph = record {
  type_name = graph.type_name;
  nodes = map node_view graph.nodes;
  inputs = graph.inputs;
  outputs = graph.outputs;
  input_sides = graph.input_sides;
  output_sides = graph.output_sides;
  max_queue_size = graph.max_queue_size;
  num_threads = graph.num_threads;
}

-- The fault of ports that the fields of a name spell. The refusal of one text has the path of that field. A tag and
-- index that stand twice, and a gap, have the path of the list.
abbrev pub port_fault : List ℕ → PlacedFault → ConfigFault
port_fault name (At place cause) = BadPort (numbered name place) cause
port_fault name (Whole cause) = BadPort name cause
port_fault name placed.OutOfMemory = OutOfMemory

abbrev pub ports_by : List ℕ → Result (List Port) PlacedFault → Result (List Port) ConfigFault
ports_by name (Ok ports) = Ok ports
ports_by name (Err fault) = Err (port_fault name fault)

-- the ports that the fields of a name spell
abbrev pub ports_in : List ℕ → List Entry → Result (List Port) ConfigFault
ports_in name fields = ports_by name (placed_ports_of (texts_in name fields))

-- the ports that the fields of two names spell: those that come in, and then those that go out
abbrev pub pair_in : List ℕ → List ℕ → List Entry → Result PortPair ConfigFault
pair_in input output fields =
    then_do (ports_in input fields) (λ inputs. then_do (ports_in output fields) (λ outputs. Ok (record { inputs = inputs; outputs = outputs })))

abbrev pub streams_in : List Entry → Result PortPair ConfigFault
streams_in fields = pair_in (codes "input_stream") (codes "output_stream") fields

abbrev pub sides_in : List Entry → Result PortPair ConfigFault
sides_in fields = pair_in (codes "input_side_packet") (codes "output_side_packet") fields

abbrev pub mark_by : Result (List ℕ × ℕ) NameFault → Result Mark ConfigFault
mark_by (Ok read) = Ok (record { tag = read.0; index = read.1 })
mark_by (Err cause) = Err (BadPort (codes "tag_index") cause)

-- the input that an `input_stream_info` names
abbrev pub mark_in : List Entry → Result Mark ConfigFault
mark_in fields = mark_by (tag_index_of (text_in (codes "tag_index") fields))

-- back edges, with the input before them if that input is a back edge too
abbrev pub kept : Bool → Mark → List Mark → List Mark
kept true mark marks = mark ∷ marks
kept false mark marks = marks

-- the back edges that `input_stream_info` messages tell of, or the first fault; they are counted from k on, and each is judged
abbrev pub marks_from : ℕ → List Fields → Result (List Mark) ConfigFault
marks_from k [] = Ok []
marks_from k (fields ∷ more) =
    then_do (result_within (numbered (codes "input_stream_info") k) (mark_in (entries fields)))
    (λ mark. then_do (marks_from (suc k) more) (λ marks. Ok (kept (truth_in (codes "back_edge") (entries fields)) mark marks)))

-- whether a field has options: it is `options` or `node_options`
abbrev pub is_option : Entry → Bool
is_option field = bytes_eq field.name (codes "options") || bytes_eq field.name (codes "node_options")

-- the fields of all options of a node, in the order of the text
abbrev pub options_in : List Entry → Fields
options_in fields = joined (map (λ field. fields_of_value field.value) (filter is_option fields))

-- the name of the input stream handler, or the empty text if none is given
abbrev pub handler_in : List Entry → List ℕ
handler_in fields = text_in (codes "input_stream_handler") (entries (message_in (codes "input_stream_handler") fields))

-- the node of fields that tell of these ports and back edges
abbrev pub node_with : List Entry → PortPair → PortPair → List Mark → NodeView
node_with fields streams sides back_marks = record {
  name = text_in (codes "name") fields;
  calculator = text_in (codes "calculator") fields;
  inputs = streams.inputs;
  outputs = streams.outputs;
  input_sides = sides.inputs;
  output_sides = sides.outputs;
  options = options_in fields;
  back_marks = back_marks;
  handler = handler_in fields;
  max_in_flight = number_in (codes "max_in_flight") fields;
  buffer_size_hint = number_in (codes "buffer_size_hint") fields;
}

-- The node of fields in which no fault was found, or the first fault of its ports and back edges. They are judged in
-- the order in which they are written.
abbrev pub node_of : List Entry → Result NodeView ConfigFault
node_of fields =
    then_do (streams_in fields) (λ streams. then_do (sides_in fields) (λ sides.
    then_do (marks_from 0 (messages_in (codes "input_stream_info") fields)) (λ back_marks. Ok (node_with fields streams sides back_marks))))

-- the nodes of messages, or the first fault; they are counted from k on
abbrev pub nodes_from : ℕ → List Fields → Result (List NodeView) ConfigFault
nodes_from k [] = Ok []
nodes_from k (fields ∷ more) =
    then_do (result_within (numbered (codes "node") k) (node_of (entries fields)))
    (λ node. then_do (nodes_from (suc k) more) (λ nodes. Ok (node ∷ nodes)))

-- the graph of fields that tell of these ports and nodes
abbrev pub graph_with : List Entry → PortPair → PortPair → List NodeView → GraphView
graph_with fields streams sides nodes = record {
  type_name = text_in (codes "type") fields;
  nodes = nodes;
  inputs = streams.inputs;
  outputs = streams.outputs;
  input_sides = sides.inputs;
  output_sides = sides.outputs;
  max_queue_size = number_in (codes "max_queue_size") fields;
  num_threads = number_in (codes "num_threads") fields;
}

-- the graph of fields in which no fault was found, or the first fault: of its own ports, and then of its nodes
abbrev pub graph_of : List Entry → Result GraphView ConfigFault
graph_of fields =
    then_do (streams_in fields) (λ streams. then_do (sides_in fields) (λ sides.
    then_do (nodes_from 0 (messages_in (codes "node") fields)) (λ nodes. Ok (graph_with fields streams sides nodes))))

-- the fault, if there is one, or else the result
abbrev pub unless : {A : Type 0} → Option ConfigFault → Result A ConfigFault → Result A ConfigFault
unless (Some fault) result = Err fault
unless None result = result

-- The configuration of a file's fields, or the first fault. Faults of fields come first, then absent or empty
-- calculators, then texts and lists that spell no port or back edge.
abbrev pub config_of : Fields → Result GraphView ConfigFault
config_of fields =
    unless (field_fault Graph fields)
    (unless (calculator_fault 0 (messages_in (codes "node") (entries fields)))
    (graph_of (entries fields)))
