-- The fields of graphs, of nodes and of the messages in them, after calculator.proto of the MediaPipe framework.
use Rattle.std.specs.Prelude.{ℕ, List, [], ◌∷◌, Bool, true, false, Option, None, Some, if◌then◌else◌, codes}
use Rattle.std.specs.Str.{bytes_eq}
use Rattle.mg_config.specs.declared.schema.Message.{Message}
use Rattle.mg_config.specs.declared.schema.Message.TheVariants.{Graph, Node, Info, Handler}
use Rattle.mg_config.specs.declared.schema.Shape.{Shape}
use Rattle.mg_config.specs.declared.schema.Shape.TheVariants.{Text, Number, Truth, Options, Inside}
use Rattle.mg_config.specs.declared.schema.FieldRule.{FieldRule}

-- the rule of a field that may stand once
abbrev pub once : Shape → FieldRule
once shape = record { many = false; shape = shape }

-- the rule of a field that may stand any number of times
abbrev pub many : Shape → FieldRule
many shape = record { many = true; shape = shape }

pub record Row : Type 0 where
  pub name : List ℕ
  pub rule : FieldRule

abbrev pub row : List ℕ → FieldRule → Row
row name rule = record { name = name; rule = rule }

-- the lists of ports that graphs and nodes have
abbrev pub port_rows : List Row
port_rows = row (codes "input_stream") (many Text) ∷ row (codes "output_stream") (many Text)
    ∷ row (codes "input_side_packet") (many Text) ∷ row (codes "output_side_packet") (many Text) ∷ []

abbrev pub graph_rows : List Row
graph_rows = row (codes "type") (once Text) ∷ row (codes "max_queue_size") (once Number) ∷ row (codes "num_threads") (once Number)
    ∷ row (codes "node") (many (Inside Node)) ∷ port_rows

abbrev pub node_message_rows : List Row
node_message_rows = row (codes "input_stream_info") (many (Inside Info)) ∷ row (codes "input_stream_handler") (once (Inside Handler))
    ∷ row (codes "options") (once Options) ∷ row (codes "node_options") (many Options) ∷ port_rows

abbrev pub node_rows : List Row
node_rows = row (codes "name") (once Text) ∷ row (codes "calculator") (once Text) ∷ row (codes "max_in_flight") (once Number)
    ∷ row (codes "buffer_size_hint") (once Number) ∷ node_message_rows

-- the fields of `input_stream_info`: an input stream's tag and index, and whether it is a back edge
abbrev pub info_rows : List Row
info_rows = row (codes "tag_index") (once Text) ∷ row (codes "back_edge") (once Truth) ∷ []

-- the field of `input_stream_handler`: the name of an input policy
abbrev pub handler_rows : List Row
handler_rows = row (codes "input_stream_handler") (once Text) ∷ []

abbrev pub rows_of : Message → List Row
rows_of Graph = graph_rows
rows_of Node = node_rows
rows_of Info = info_rows
rows_of Handler = handler_rows

-- the rule that the first row of a name has, if a row has the name
abbrev pub rule_in : List Row → List ℕ → Option FieldRule
rule_in [] name = None
rule_in (r ∷ rows) name = if bytes_eq name r.name then Some r.rule else rule_in rows name

abbrev pub rule_of : Message → List ℕ → Option FieldRule
rule_of message name = rule_in (rows_of message) name

-- whether a field may stand more than once, and what message it is, if the fields inside it are judged
abbrev pub judged_as : Bool → Shape → Option (Bool × Message)
judged_as starred (Inside message) = Some (starred, message)
judged_as starred shape = None

abbrev pub judged_by : Option FieldRule → Option (Bool × Message)
judged_by None = None
judged_by (Some rule) = judged_as rule.many rule.shape
