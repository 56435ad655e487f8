-- What was read is sound: it can be written, and read back.
use Rattle.std.proofs.Common.{ℕ, suc, zero, ◌-◌, ◌^◌, ◌≤◌, ◌≡◌, ◌≢◌, List, [], ◌∷◌, Bool, true, false, ◌&&◌, ◌||◌, eqb, Option, None, Some, Result, Ok, Err, nat_le, arith, refl, ap, subst, if◌then◌else◌, codes, ℤ, pos, neg_ℤ}
use Rattle.std.specs.Prelude.{option_map, unwrap_or}
use Rattle.std.specs.List.{All}
use Rattle.std.specs.Str.{bytes_eq}
use Rattle.std.specs.Str.Parse.{digits_value}
use Rattle.std.proofs.lemmas.Bool.Decides.{nat_tests}
use Rattle.std.proofs.lemmas.List.Elements.{All-nil, All-cons}
use Rattle.mg_text.specs.Tree.{word, number, quoted, Fields}
use Rattle.mg_text.specs.View.{Value, simple, inner, Entry}
use Rattle.mg_names.specs.Ports.{placed_ports_of, without_place}
use Rattle.mg_names.specs.TagIndex.{tag_index_of, IsTagIndex}
use Rattle.mg_names.specs.declared.port.Port.{Port}
use Rattle.mg_names.specs.declared.fault.NameFault.{NameFault}
use Rattle.mg_names.specs.declared.placed_fault.PlacedFault.{PlacedFault}
use Rattle.mg_names.proofs.Again.{read_again}
use Rattle.mg_names.proofs.TagIndexes.{tag_index_passes}
use Rattle.mg_config.specs.Values.{entries, values_of, first, number_in_value, number_of_first, number_in, text_in, texts_in, truth_in, messages_in}
use Rattle.mg_config.specs.Number.{is_numeral, value_in, after_zero, magnitude, number_of}
use Rattle.mg_config.specs.Path.{numbered, result_within, then_do}
use Rattle.mg_config.specs.Faults.{field_fault, calculator_fault, calculator_path}
use Rattle.mg_config.specs.Config.{NodeView, GraphView, ports_by, ports_in, pair_in, streams_in, sides_in, mark_by, mark_in, kept, marks_from, node_with, node_of, nodes_from, graph_with, graph_of, unless, config_of}
use Rattle.mg_config.specs.Sound.{FitsI32, AreReadBack, IsMark, IsSoundNode, IsSound}
use Rattle.mg_config.specs.declared.schema.Message.TheVariants.{Graph}
use Rattle.mg_config.specs.declared.mark.Mark.{Mark}
use Rattle.mg_config.specs.declared.ports.PortPair.{PortPair}
use Rattle.mg_config.specs.declared.fault.ConfigFault.{ConfigFault}
use Rattle.mg_config.specs.declared.fault.ConfigFault.TheVariants.{WrongShape}
use Rattle.mg_config.proofs.Made.{then_ok, within_ok, unless_ok}

-- a number without a sign is at most the bound
value_bound : (base most : ℕ) (digits : List ℕ) (n : ℕ) → value_in base most digits ≡ Some n → n ≤ most
value_bound base most digits n read = by (is_numeral base digits) (nat_le (digits_value base digits) most) (digits_value base digits) refl read
  where
    by : (t u : Bool) (v : ℕ) → nat_le v most ≡ u → (if t && u then Some v else None) ≡ Some n → n ≤ most
    by true true v fits h =
        let same : v ≡ n = cc in
        grind (arith, nat_tests)
    by true false v fits h = cc
    by false u v fits h = cc

after_zero_bound : (most : ℕ) (text : List ℕ) (n : ℕ) → after_zero most text ≡ Some n → n ≤ most
after_zero_bound most [] n read =
    let same : 0 ≡ n = cc in
    omega arith
after_zero_bound most (digit ∷ rest) n read = by ((eqb digit 120) || (eqb digit 88)) read
  where
    by : (t : Bool) → (if t then value_in 16 most rest else value_in 8 most (digit ∷ rest)) ≡ Some n → n ≤ most
    by true h = value_bound 16 most rest n h
    by false h = value_bound 8 most (digit ∷ rest) n h

magnitude_bound : (most : ℕ) (text : List ℕ) (n : ℕ) → magnitude most text ≡ Some n → n ≤ most
magnitude_bound most [] n read = cc
magnitude_bound most (digit ∷ rest) n read = by (eqb digit 48) read
  where
    by : (t : Bool) → (if t then after_zero most rest else value_in 10 most (digit ∷ rest)) ≡ Some n → n ≤ most
    by true h = after_zero_bound most rest n h
    by false h = value_bound 10 most (digit ∷ rest) n h

negated_fits : (n : ℕ) → n ≤ 2 ^ 31 → FitsI32 (neg_ℤ (pos n))
negated_fits zero small = omega arith
negated_fits (suc n) small = omega arith

mapped : (f : ℕ → ℤ) (o : Option ℕ) (z : ℤ) → option_map f o ≡ Some z → ((n : ℕ) → o ≡ Some n → FitsI32 (f n)) → FitsI32 z
mapped f None z made fits = cc
mapped f (Some n) z made fits =
    let same : f n ≡ z = cc in
    subst FitsI32 same (fits n refl)

number_fits : (text : List ℕ) (z : ℤ) → number_of text ≡ Some z → FitsI32 z
number_fits [] z read = cc
number_fits (digit ∷ rest) z read = by (eqb digit 45) read
  where
    by : (t : Bool) → (if t then option_map (λ n. neg_ℤ (pos n)) (magnitude (2 ^ 31) rest) else option_map (λ n. pos n) (magnitude (2 ^ 31 - 1) (digit ∷ rest))) ≡ Some z → FitsI32 z
    by true h = mapped (λ n. neg_ℤ (pos n)) (magnitude (2 ^ 31) rest) z h (λ n e. negated_fits n (magnitude_bound (2 ^ 31) rest n e))
    by false h = mapped (λ n. pos n) (magnitude (2 ^ 31 - 1) (digit ∷ rest)) z h (λ n e. omega (arith, magnitude_bound (2 ^ 31 - 1) (digit ∷ rest) n e))

value_fits : (value : Value) (z : ℤ) → number_in_value value ≡ Some z → FitsI32 z
value_fits (simple word bytes) z read = cc
value_fits (simple number bytes) z read = number_fits bytes z read
value_fits (simple quoted bytes) z read = cc
value_fits (inner fields) z read = cc

or_zero_fits : (o : Option ℤ) → ((z : ℤ) → o ≡ Some z → FitsI32 z) → FitsI32 (unwrap_or o (pos 0))
or_zero_fits None fits = omega arith
or_zero_fits (Some z) fits = fits z refl

first_fits : (value : Option Value) → FitsI32 (number_of_first value)
first_fits None = omega arith
first_fits (Some value) = or_zero_fits (number_in_value value) (value_fits value)

number_in_fits : (name : List ℕ) (fields : List Entry) → FitsI32 (number_in name fields)
number_in_fits name fields = first_fits (first (values_of name fields))

abbrev made_as : {A : Type 0} → A → Result A ConfigFault
made_as value = Ok value

-- the ports of texts
ports_by_ok : (name : List ℕ) (result : Result (List Port) PlacedFault) (ports : List Port) → ports_by name result ≡ Ok ports → result ≡ Ok ports
ports_by_ok name (Ok first) ports made =
    let same : first ≡ ports = cc in
    ap Ok same
ports_by_ok name (Err fault) ports made = cc

ports_read : (name : List ℕ) (fields : List Entry) (ports : List Port) → ports_in name fields ≡ Ok ports → AreReadBack ports
ports_read name fields ports made = read_again (texts_in name fields) ports (ap without_place (ports_by_ok name (placed_ports_of (texts_in name fields)) ports made))

record IsPair (pair : PortPair) : Type 0 where
  pub inputs : AreReadBack pair.inputs
  pub outputs : AreReadBack pair.outputs

same_pair : (one other : PortPair) → made_as one ≡ Ok other → one ≡ other
same_pair one other made = cc

pair_read : (input output : List ℕ) (fields : List Entry) (pair : PortPair) → pair_in input output fields ≡ Ok pair → IsPair pair
pair_read input output fields pair made =
    let ins = then_ok (ports_in input fields) (λ inputs. then_do (ports_in output fields) (λ outputs. Ok (record { inputs = inputs; outputs = outputs }))) pair made in
    let outs = then_ok (ports_in output fields) (λ outputs. Ok (record { inputs = ins.0; outputs = outputs })) pair ins.2 in
    subst IsPair (same_pair (record { inputs = ins.0; outputs = outs.0 }) pair outs.2)
    (record { inputs = ports_read input fields ins.0 ins.1; outputs = ports_read output fields outs.0 outs.1 })

-- the back edges of messages
same_mark : (one other : Mark) → made_as one ≡ Ok other → one ≡ other
same_mark one other made = cc

mark_by_ok : (result : Result (List ℕ × ℕ) NameFault) (mark : Mark) → ((tag : List ℕ) (index : ℕ) → result ≡ Ok (tag, index) → IsTagIndex tag index) → mark_by result ≡ Ok mark → IsMark mark
mark_by_ok (Ok read) mark passes made = subst IsMark (same_mark (record { tag = read.0; index = read.1 }) mark made) (passes read.0 read.1 refl)
mark_by_ok (Err cause) mark passes made = cc

mark_in_read : (fields : List Entry) (mark : Mark) → mark_in fields ≡ Ok mark → IsMark mark
mark_in_read fields mark made =
    let text = text_in (codes "tag_index") fields in
    mark_by_ok (tag_index_of text) mark (tag_index_passes text) made

kept_are : (back : Bool) (mark : Mark) (marks : List Mark) → IsMark mark → All IsMark marks → All IsMark (kept back mark marks)
kept_are true mark marks one all = All-cons IsMark mark marks one all
kept_are false mark marks one all = all

same_marks : (one other : List Mark) → made_as one ≡ Ok other → one ≡ other
same_marks one other made = cc

marks_read : (k : ℕ) (messages : List Fields) (marks : List Mark) → marks_from k messages ≡ Ok marks → All IsMark marks
marks_read k [] marks made = subst (All IsMark) (same_marks [] marks made) (All-nil IsMark)
marks_read k (fields ∷ more) marks made =
    let back = truth_in (codes "back_edge") (entries fields) in
    let place = numbered (codes "input_stream_info") k in
    let one = then_ok (result_within place (mark_in (entries fields))) (λ mark. then_do (marks_from (suc k) more) (λ marks. Ok (kept back mark marks))) marks made in
    let others = then_ok (marks_from (suc k) more) (λ marks. Ok (kept back one.0 marks)) marks one.2 in
    subst (All IsMark) (same_marks (kept back one.0 others.0) marks others.2)
    (kept_are back one.0 others.0 (mark_in_read (entries fields) one.0 (within_ok place (mark_in (entries fields)) one.0 one.1)) (marks_read (suc k) more others.0 others.1))

-- a node with a calculator
some_bytes : (bytes : List ℕ) → bytes_eq bytes [] ≡ false → bytes ≢ []
some_bytes [] other = cc
some_bytes (byte ∷ bytes) other = λ e. cc

same_node : (one other : NodeView) → made_as one ≡ Ok other → one ≡ other
same_node one other made = cc

node_read : (fields : List Entry) (node : NodeView) → node_of fields ≡ Ok node → bytes_eq (text_in (codes "calculator") fields) [] ≡ false → IsSoundNode node
node_read fields node made named =
    let messages = messages_in (codes "input_stream_info") fields in
    let streams = then_ok (streams_in fields) (λ streams. then_do (sides_in fields) (λ sides. then_do (marks_from 0 messages) (λ marks. Ok (node_with fields streams sides marks)))) node made in
    let sides = then_ok (sides_in fields) (λ sides. then_do (marks_from 0 messages) (λ marks. Ok (node_with fields streams.0 sides marks))) node streams.2 in
    let marks = then_ok (marks_from 0 messages) (λ marks. Ok (node_with fields streams.0 sides.0 marks)) node sides.2 in
    let stream_ports = pair_read (codes "input_stream") (codes "output_stream") fields streams.0 streams.1 in
    let side_ports = pair_read (codes "input_side_packet") (codes "output_side_packet") fields sides.0 sides.1 in
    subst IsSoundNode (same_node (node_with fields streams.0 sides.0 marks.0) node marks.2) (record {
      calculator = some_bytes (text_in (codes "calculator") fields) named;
      inputs = stream_ports.inputs;
      outputs = stream_ports.outputs;
      input_sides = side_ports.inputs;
      output_sides = side_ports.outputs;
      back_marks = marks_read 0 messages marks.0 marks.1;
      max_in_flight = number_in_fits (codes "max_in_flight") fields;
      buffer_size_hint = number_in_fits (codes "buffer_size_hint") fields;
    })

-- the nodes of messages that have calculators
named_by : (lacks : Bool) (fault : ConfigFault) (later : Option ConfigFault) → (if lacks then Some fault else later) ≡ None → (lacks ≡ false) × (later ≡ None)
named_by true fault later clear = cc
named_by false fault later clear = (refl, clear)

same_nodes : (one other : List NodeView) → made_as one ≡ Ok other → one ≡ other
same_nodes one other made = cc

nodes_read : (k : ℕ) (messages : List Fields) (nodes : List NodeView) → nodes_from k messages ≡ Ok nodes → calculator_fault k messages ≡ None → All IsSoundNode nodes
nodes_read k [] nodes made clear = subst (All IsSoundNode) (same_nodes [] nodes made) (All-nil IsSoundNode)
nodes_read k (fields ∷ more) nodes made clear =
    let place = numbered (codes "node") k in
    let named = named_by (bytes_eq (text_in (codes "calculator") (entries fields)) []) (WrongShape (calculator_path k)) (calculator_fault (suc k) more) clear in
    let one = then_ok (result_within place (node_of (entries fields))) (λ node. then_do (nodes_from (suc k) more) (λ nodes. Ok (node ∷ nodes))) nodes made in
    let others = then_ok (nodes_from (suc k) more) (λ nodes. Ok (one.0 ∷ nodes)) nodes one.2 in
    subst (All IsSoundNode) (same_nodes (one.0 ∷ others.0) nodes others.2)
    (All-cons IsSoundNode one.0 others.0 (node_read (entries fields) one.0 (within_ok place (node_of (entries fields)) one.0 one.1) named.0) (nodes_read (suc k) more others.0 others.1 named.1))

same_graph : (one other : GraphView) → made_as one ≡ Ok other → one ≡ other
same_graph one other made = cc

graph_read : (fields : List Entry) (graph : GraphView) → graph_of fields ≡ Ok graph → calculator_fault 0 (messages_in (codes "node") fields) ≡ None → IsSound graph
graph_read fields graph made clear =
    let messages = messages_in (codes "node") fields in
    let streams = then_ok (streams_in fields) (λ streams. then_do (sides_in fields) (λ sides. then_do (nodes_from 0 messages) (λ nodes. Ok (graph_with fields streams sides nodes)))) graph made in
    let sides = then_ok (sides_in fields) (λ sides. then_do (nodes_from 0 messages) (λ nodes. Ok (graph_with fields streams.0 sides nodes))) graph streams.2 in
    let nodes = then_ok (nodes_from 0 messages) (λ nodes. Ok (graph_with fields streams.0 sides.0 nodes)) graph sides.2 in
    let stream_ports = pair_read (codes "input_stream") (codes "output_stream") fields streams.0 streams.1 in
    let side_ports = pair_read (codes "input_side_packet") (codes "output_side_packet") fields sides.0 sides.1 in
    subst IsSound (same_graph (graph_with fields streams.0 sides.0 nodes.0) graph nodes.2) (record {
      nodes = nodes_read 0 messages nodes.0 nodes.1 clear;
      inputs = stream_ports.inputs;
      outputs = stream_ports.outputs;
      input_sides = side_ports.inputs;
      output_sides = side_ports.outputs;
      max_queue_size = number_in_fits (codes "max_queue_size") fields;
      num_threads = number_in_fits (codes "num_threads") fields;
    })

-- the configuration of fields
pub sound_of : (fields : Fields) (graph : GraphView) → config_of fields ≡ Ok graph → IsSound graph
sound_of fields graph made =
    let messages = messages_in (codes "node") (entries fields) in
    let judged = unless_ok (field_fault Graph fields) (unless (calculator_fault 0 messages) (graph_of (entries fields))) graph made in
    let named = unless_ok (calculator_fault 0 messages) (graph_of (entries fields)) graph judged.1 in
    graph_read (entries fields) graph named.1 named.0
