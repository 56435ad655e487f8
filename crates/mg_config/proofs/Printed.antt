-- What is read of fields that can be printed can be printed: its texts are characters, and its options are spelled and not too deep.
use Rattle.std.proofs.Common.{ℕ, suc, ◌+◌, ◌≤◌, ◌≡◌, List, [], ◌∷◌, Bool, true, false, Result, Ok, map, filter, codes, if◌then◌else◌, arith, subst}
use Rattle.std.specs.List.{All}
use Rattle.std.proofs.lemmas.List.Elements.{All-nil, All-cons}
use Rattle.mg_text.specs.Tree.{word, number, quoted, Fields, none, scalar, message, append, depth}
use Rattle.mg_text.specs.View.{Value, simple, inner, Entry}
use Rattle.mg_text.specs.Answer.{max_depth}
use Rattle.mg_text.specs.Canonical as canonical
use Rattle.mg_text.specs.Canonical.{AreCharacters, IsSpelled, AreSpelled}
use Rattle.mg_config.specs.Values.{entries, has_name, values_of, first, text_of_value, text_of_first, text_in, fields_of_value, message_of_first, message_in, messages_in, joined}
use Rattle.mg_config.specs.Path.{numbered, result_within, then_do}
use Rattle.mg_config.specs.Faults.{field_fault, calculator_fault}
use Rattle.mg_config.specs.Config.{NodeView, GraphView, is_option, options_in, handler_in, streams_in, sides_in, marks_from, node_with, node_of, nodes_from, graph_with, graph_of, config_of, unless}
use Rattle.mg_config.specs.Sound.{IsPrintableNode, IsPrintable}
use Rattle.mg_config.specs.declared.schema.Message.TheVariants.{Graph}
use Rattle.mg_config.specs.declared.mark.Mark.{Mark}
use Rattle.mg_config.specs.declared.ports.PortPair.{PortPair}
use Rattle.mg_config.specs.declared.fault.ConfigFault.{ConfigFault}
use Rattle.mg_config.proofs.Made.{then_ok, within_ok, unless_ok}

-- fields that are spelled, and nest at most so many messages
pub record AreWithin (n : ℕ) (fields : Fields) : Type 0 where
  pub spelled : AreSpelled fields
  pub shallow : depth fields ≤ n

-- a value whose fields are so, if it is a message
abbrev pub IsWithin : ℕ → Value → Type 0
IsWithin n (simple kind bytes) = IsSpelled kind bytes
IsWithin n (inner fields) = AreWithin n fields

abbrev pub AllWithin : ℕ → List Value → Type 0
AllWithin n [] = Unit {0}
AllWithin n (value ∷ values) = IsWithin n value × AllWithin n values

abbrev pub AllFields : ℕ → List Fields → Type 0
AllFields n [] = Unit {0}
AllFields n (fields ∷ more) = AreWithin n fields × AllFields n more

-- the values of fields
abbrev pub values : List Entry → List Value
values es = map (λ field. field.value) es

pub values_within : (n : ℕ) (fields : Fields) → AreSpelled fields → depth fields ≤ suc n → AllWithin n (values (entries fields))
values_within n none spelled shallow = tt
values_within n (scalar name kind bytes rest) spelled shallow = (spelled.1, values_within n rest spelled.2 shallow)
values_within n (message name inside rest) spelled shallow =
    (record { spelled = spelled.1; shallow = omega arith }, values_within n rest spelled.2 (omega arith))

-- those of the fields that pass a test
pub filtered : (n : ℕ) (test : Entry → Bool) (es : List Entry) → AllWithin n (values es) → AllWithin n (values (filter test es))
filtered n test [] within = tt
filtered n test (e ∷ es) within = by (test e) (filtered n test es within.1)
  where
    by : (t : Bool) → AllWithin n (values (filter test es)) → AllWithin n (values (if t then e ∷ filter test es else filter test es))
    by true later = (within.0, later)
    by false later = later

named_within : (n : ℕ) (name : List ℕ) (es : List Entry) → AllWithin n (values es) → AllWithin n (values_of name es)
named_within n name es within = filtered n (has_name name) es within

-- a text
text_of_within : (n : ℕ) (value : Value) → IsWithin n value → AreCharacters (text_of_value value)
text_of_within n (simple quoted bytes) within = within
text_of_within n (simple word bytes) within = canonical.no_more
text_of_within n (simple number bytes) within = canonical.no_more
text_of_within n (inner fields) within = canonical.no_more

first_text : (n : ℕ) (vs : List Value) → AllWithin n vs → AreCharacters (text_of_first (first vs))
first_text n [] within = canonical.no_more
first_text n (value ∷ vs) within = text_of_within n value within.0

pub text_characters : (n : ℕ) (name : List ℕ) (es : List Entry) → AllWithin n (values es) → AreCharacters (text_in name es)
text_characters n name es within = first_text n (values_of name es) (named_within n name es within)

-- a message
fields_within : (n : ℕ) (value : Value) → IsWithin n value → AreWithin n (fields_of_value value)
fields_within n (simple kind bytes) within = record { spelled = tt; shallow = omega arith }
fields_within n (inner fields) within = within

all_fields : (n : ℕ) (vs : List Value) → AllWithin n vs → AllFields n (map fields_of_value vs)
all_fields n [] within = tt
all_fields n (value ∷ vs) within = (fields_within n value within.0, all_fields n vs within.1)

first_message : (n : ℕ) (vs : List Value) → AllWithin n vs → AreWithin n (message_of_first (first vs))
first_message n [] within = record { spelled = tt; shallow = omega arith }
first_message n (value ∷ vs) within = fields_within n value within.0

pub messages_within : (n : ℕ) (name : List ℕ) (es : List Entry) → AllWithin n (values es) → AllFields n (messages_in name es)
messages_within n name es within = all_fields n (values_of name es) (named_within n name es within)

handler_characters : (n : ℕ) (es : List Entry) → AllWithin (suc n) (values es) → AreCharacters (handler_in es)
handler_characters n es within =
    let own = first_message (suc n) (values_of (codes "input_stream_handler") es) (named_within (suc n) (codes "input_stream_handler") es within) in
    text_characters n (codes "input_stream_handler") (entries (message_in (codes "input_stream_handler") es))
    (values_within n (message_in (codes "input_stream_handler") es) own.spelled own.shallow)

-- messages one after another
append_within : (n : ℕ) (a b : Fields) → AreWithin n a → AreWithin n b → AreWithin n (append a b)
append_within n none b first later = later
append_within n (scalar name kind bytes rest) b first later =
    let all = append_within n rest b (record { spelled = first.spelled.2; shallow = first.shallow }) later in
    record { spelled = (first.spelled.0, first.spelled.1, all.spelled); shallow = all.shallow }
append_within n (message name inside rest) b first later =
    let here = first.shallow in
    let all = append_within n rest b (record { spelled = first.spelled.2; shallow = omega (arith, here) }) later in
    let there = all.shallow in
    record { spelled = (first.spelled.0, first.spelled.1, all.spelled); shallow = omega (arith, here, there) }

joined_within : (n : ℕ) (all : List Fields) → AllFields n all → AreWithin n (joined all)
joined_within n [] within = record { spelled = tt; shallow = omega arith }
joined_within n (fields ∷ more) within = append_within n fields (joined more) within.0 (joined_within n more within.1)

options_fields : (n : ℕ) (es : List Entry) → AllWithin n (values es) → AllFields n (map (λ field. fields_of_value field.value) es)
options_fields n [] within = tt
options_fields n (e ∷ es) within = (fields_within n e.value within.0, options_fields n es within.1)

pub options_within : (n : ℕ) (es : List Entry) → AllWithin n (values es) → AreWithin n (options_in es)
options_within n es within = joined_within n (map (λ field. fields_of_value field.value) (filter is_option es)) (options_fields n (filter is_option es) (filtered n is_option es within))

abbrev read_node : NodeView → Result NodeView ConfigFault
read_node node = Ok node

same_node : (a b : NodeView) → read_node a ≡ read_node b → a ≡ b
same_node a b same = cc

abbrev read_nodes : List NodeView → Result (List NodeView) ConfigFault
read_nodes nodes = Ok nodes

same_nodes : (a b : List NodeView) → read_nodes a ≡ read_nodes b → a ≡ b
same_nodes a b same = cc

abbrev read_graph : GraphView → Result GraphView ConfigFault
read_graph graph = Ok graph

same_graph : (a b : GraphView) → read_graph a ≡ read_graph b → a ≡ b
same_graph a b same = cc

-- a node
node_made : (n : ℕ) (es : List Entry) (streams sides : PortPair) (marks : List Mark) → suc n + 2 ≤ max_depth → AllWithin (suc n) (values es) → IsPrintableNode (node_with es streams sides marks)
node_made n es streams sides marks small within =
    let options = options_within (suc n) es within in
    let shallow = options.shallow in
    record {
      name = text_characters (suc n) (codes "name") es within;
      calculator = text_characters (suc n) (codes "calculator") es within;
      handler = handler_characters n es within;
      options = options.spelled;
      shallow = omega (arith, shallow);
    }

pub node_printable : (n : ℕ) (es : List Entry) (node : NodeView) → suc n + 2 ≤ max_depth → node_of es ≡ Ok node → AllWithin (suc n) (values es) → IsPrintableNode node
node_printable n es node small made within =
    let streams = then_ok (streams_in es) (λ streams. then_do (sides_in es) (λ sides. then_do (marks_from 0 (messages_in (codes "input_stream_info") es)) (λ marks. Ok (node_with es streams sides marks)))) node made in
    let sides = then_ok (sides_in es) (λ sides. then_do (marks_from 0 (messages_in (codes "input_stream_info") es)) (λ marks. Ok (node_with es streams.0 sides marks))) node streams.2 in
    let marks = then_ok (marks_from 0 (messages_in (codes "input_stream_info") es)) (λ marks. Ok (node_with es streams.0 sides.0 marks)) node sides.2 in
    subst IsPrintableNode (same_node (node_with es streams.0 sides.0 marks.0) node marks.2) (node_made n es streams.0 sides.0 marks.0 small within)

-- the nodes
pub nodes_printable : (n k : ℕ) (messages : List Fields) (nodes : List NodeView) → suc n + 2 ≤ max_depth → nodes_from k messages ≡ Ok nodes → AllFields (suc (suc n)) messages → All IsPrintableNode nodes
nodes_printable n k [] nodes small made within = subst (All IsPrintableNode) (same_nodes [] nodes made) (All-nil IsPrintableNode)
nodes_printable n k (fields ∷ more) nodes small made within =
    let one = then_ok (result_within (numbered (codes "node") k) (node_of (entries fields))) (λ node. then_do (nodes_from (suc k) more) (λ nodes. Ok (node ∷ nodes))) nodes made in
    let others = then_ok (nodes_from (suc k) more) (λ nodes. Ok (one.0 ∷ nodes)) nodes one.2 in
    let node : IsPrintableNode one.0 =
    node_printable n (entries fields) one.0 small (within_ok (numbered (codes "node") k) (node_of (entries fields)) one.0 one.1)
    (values_within (suc n) fields within.0.spelled within.0.shallow) in
    subst (All IsPrintableNode) (same_nodes (one.0 ∷ others.0) nodes others.2)
    (All-cons IsPrintableNode one.0 others.0 node (nodes_printable n (suc k) more others.0 small others.1 within.1))

-- the graph
graph_printable : (n : ℕ) (es : List Entry) (graph : GraphView) → suc n + 2 ≤ max_depth → graph_of es ≡ Ok graph → AllWithin (suc (suc n)) (values es) → IsPrintable graph
graph_printable n es graph small made within =
    let streams = then_ok (streams_in es) (λ streams. then_do (sides_in es) (λ sides. then_do (nodes_from 0 (messages_in (codes "node") es)) (λ nodes. Ok (graph_with es streams sides nodes)))) graph made in
    let sides = then_ok (sides_in es) (λ sides. then_do (nodes_from 0 (messages_in (codes "node") es)) (λ nodes. Ok (graph_with es streams.0 sides nodes))) graph streams.2 in
    let nodes = then_ok (nodes_from 0 (messages_in (codes "node") es)) (λ nodes. Ok (graph_with es streams.0 sides.0 nodes)) graph sides.2 in
    subst IsPrintable (same_graph (graph_with es streams.0 sides.0 nodes.0) graph nodes.2)
    (record {
      type_name = text_characters (suc (suc n)) (codes "type") es within;
      nodes = nodes_printable n 0 (messages_in (codes "node") es) nodes.0 small nodes.1 (messages_within (suc (suc n)) (codes "node") es within);
    })

pub printable_of : (fields : Fields) (graph : GraphView) → config_of fields ≡ Ok graph → AreSpelled fields → depth fields ≤ max_depth → IsPrintable graph
printable_of fields graph made spelled shallow =
    let named = unless_ok (field_fault Graph fields) (unless (calculator_fault 0 (messages_in (codes "node") (entries fields))) (graph_of (entries fields))) graph made in
    let read = unless_ok (calculator_fault 0 (messages_in (codes "node") (entries fields))) (graph_of (entries fields)) graph named.1 in
    graph_printable 61 (entries fields) graph (omega arith) read.1 (values_within 63 fields spelled shallow)
