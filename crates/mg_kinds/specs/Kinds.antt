-- The calculators that are built in: the name of each (MediaPipe, Calculators; CountingSourceCalculator is this project's own), the
-- names of its options, its ports, and its law by these. Those that compute numbers tell their names, options and streams in mg_calc.
use Rattle.std.specs.Prelude.{ℕ, ◌-◌, List, [], ◌∷◌, Bool, not, ◌&&◌, ◌||◌, ◌==◌, Option, None, Some, option_map, option_and_then, if◌then◌else◌, codes, length, false, ℤ, pos, map}
use Rattle.std.specs.Option.{option_or}
use Rattle.std.specs.Str.{bytes_eq}
use Rattle.std.specs.Borrow.{Bor}
use Rattle.mg_time.specs.Time.{pre_stream, post_stream, place_of}
use Rattle.mg_value.specs.declared.kind.Kind.{Kind}
use Rattle.mg_value.specs.declared.kind.Kind.TheVariants.{Any, Flag, Int, Items}
use Rattle.mg_value.specs.Plain.{Plain}
use Rattle.mg_names.specs.Ports.{has_port}
use Rattle.mg_names.specs.declared.port.Port.{Port}
use Rattle.mg_text.specs.View.{Value, Entry}
use Rattle.mg_config.specs.Config.{NodeView}
use Rattle.mg_config.specs.Values.{entries, truth_in_value, long_number_in_value}
use Rattle.mg_calc.specs.declared.port_kind.PortKind.{PortKind}
use Rattle.mg_calc.specs.declared.law.Law.{Law}
use Rattle.mg_calc.specs.declared.law.Law.TheVariants as law
use Rattle.mg_calc.specs.declared.shape.Shape.{Shape}
use Rattle.mg_calc.specs.Shape.{offset_of, is_stateless}
use Rattle.mg_calc.specs.declared.computations.ComputationKind.{ComputationKind}
use Rattle.mg_calc.specs.declared.computations.Wiring.{Wiring}
use Rattle.mg_calc.specs.declared.computations.Formula.{Formula}
use Rattle.mg_calc.specs.Row.{Said}
use Rattle.mg_calc.specs.Computations.{computation_named, kind_row}
use Rattle.mg_kinds.specs.Ports.{has_just, fitting}
use Rattle.mg_kinds.specs.PortOrder.{in_order}
use Rattle.mg_kinds.specs.Tags.{tag_text}
use Rattle.mg_kinds.specs.declared.kind.CalculatorKind.{CalculatorKind}
use Rattle.mg_kinds.specs.declared.kind.CalculatorKind.TheVariants.{PassThrough, Gate, Mux, Cloner, Merge, Thinner, Compute, Filter, Shift, Counting, SideToStream, Constants, Loopback, FlowLimiter, BeginLoop, EndLoop}
use Rattle.mg_kinds.specs.declared.tag.Tag.{Tag}
use Rattle.mg_kinds.specs.declared.tag.Tag.TheVariants.{Untagged, Allow, Disallow, Input, Select, Output, Tick, Loop, Main, Finished, PrevLoop, Iterable, Item, BatchEnd, Clone, Packet, AtPreStream, AtZero, AtPostStream}
use Rattle.mg_kinds.specs.declared.row.Row.{Row}
use Rattle.mg_kinds.specs.declared.ports.Ports.{Ports}
use Rattle.mg_kinds.specs.Options.{calculator_options, are_known, are_once, set_to, number}
use Rattle.mg_kinds.specs.Values.{or_absent, required, positive, timestamp_number, call_count, flight_limit, keep_in, word_in, is_absent_or, is_asynchronous, payloads_in}

-- Names.

-- a row of a table of names: a name, and the calculator that has it
pub record NameRow : Type 0 where
  pub name : List ℕ
  pub kind : CalculatorKind

abbrev pub row : List ℕ → CalculatorKind → NameRow
row name kind = record { name = name; kind = kind }

-- the calculators with input streams that don't compute numbers
abbrev pub passing : List NameRow
passing = row (codes "PassThroughCalculator") PassThrough ∷ row (codes "GateCalculator") Gate ∷ row (codes "MuxCalculator") Mux
    ∷ row (codes "PacketClonerCalculator") Cloner ∷ row (codes "MergeCalculator") Merge ∷ row (codes "PacketThinnerCalculator") Thinner
    ∷ row (codes "TimestampShiftCalculator") Shift ∷ row (codes "PreviousLoopbackCalculator") Loopback
    ∷ row (codes "FlowLimiterCalculator") FlowLimiter ∷ row (codes "IntFilterCalculator") Filter ∷ []

-- the calculators without input streams
abbrev pub beginning : List NameRow
beginning = row (codes "CountingSourceCalculator") Counting ∷ row (codes "SidePacketToStreamCalculator") SideToStream
    ∷ row (codes "ConstantSidePacketCalculator") Constants ∷ []

-- the calculators of loops over lists. They are built in only at a node that asks for more than a user-supplied one of the name gives.
abbrev pub looping : List NameRow
looping = row (codes "BeginLoopCalculator") BeginLoop ∷ row (codes "EndLoopCalculator") EndLoop ∷ []

-- the calculator that has a name in a table, if there is one
abbrev pub named_in : List NameRow → List ℕ → Option CalculatorKind
named_in [] name = None
named_in (r ∷ rows) name = if bytes_eq name r.name then Some r.kind else named_in rows name

-- the kind of a calculator, by its name; those that compute numbers tell their names in mg_calc
abbrev pub kind_named : List ℕ → Option CalculatorKind
kind_named name =
    option_or (option_map Compute (computation_named name)) (option_or (named_in passing name) (named_in beginning name))

-- whether a node has options, or a stream at an input CLONE
abbrev pub asks_more : NodeView → Bool
asks_more node = not (length (entries node.options) == 0) || has_port (tag_text Clone) 0 node.inputs

-- the built-in calculator of a node: by its name alone, or by a name of the calculators of loops if the node asks for more
abbrev pub kind_at : NodeView → Option CalculatorKind
kind_at node = option_or (kind_named node.calculator) (if asks_more node then named_in looping node.calculator else None)

-- Options.

-- the options of a calculator that may be set at most once
abbrev pub single_options : CalculatorKind → List (List ℕ)
single_options Gate = codes "empty_packets_as_allow" ∷ []
single_options Thinner = codes "thinner_type" ∷ codes "period" ∷ []
single_options (Compute kind) = (kind_row kind).options
single_options Filter = codes "keep" ∷ codes "raise_bound" ∷ []
single_options Shift = codes "offset" ∷ []
single_options FlowLimiter = codes "max_in_flight" ∷ []
single_options BeginLoop = codes "always_end" ∷ []
single_options EndLoop = codes "empty_as_bound" ∷ []
single_options Counting = codes "count" ∷ codes "start" ∷ codes "step" ∷ []
single_options kind = []

-- all options that a calculator has; only `packet` may be set more than once
abbrev pub all_options : CalculatorKind → List (List ℕ)
all_options Constants = codes "packet" ∷ []
all_options kind = single_options kind

-- Ports.

-- the row of count ports of a tag
abbrev pub many : Tag → Kind → ℕ → Row
many tag kind count = record { tag = tag; kind = kind; count = count; first = None; last = None }

abbrev pub no_ports : Row
no_ports = many Untagged Any 0

abbrev pub one : Tag → Kind → Row
one tag kind = many tag kind 1

-- the row of count ports of a tag, and a last one of another tag
abbrev pub many_and : Tag → Kind → ℕ → Tag → Kind → Row
many_and tag kind count last_tag last_kind = record { tag = tag; kind = kind; count = count; first = None; last = Some (record { tag = last_tag; kind = last_kind }) }

-- a row with a first port of another tag before its ports
abbrev pub after_one : Tag → Kind → Row → Row
after_one tag kind row = record row { first = Some (record { tag = tag; kind = kind }) }

-- the number of lanes: of inputs that are treated alike, without the last one if the calculator has a control. For a
-- ConstantSidePacketCalculator it is the number of side packets that the calculator writes.
abbrev pub lanes_of : CalculatorKind → NodeView → ℕ
lanes_of Gate node = length node.inputs - 1
lanes_of Mux node = length node.inputs - 1
lanes_of Cloner node = length node.inputs - 1
lanes_of Merge node = length node.inputs
lanes_of (Compute kind) node = if (kind_row kind).wiring.many then length node.inputs else 1
lanes_of Constants node = length node.output_sides
lanes_of kind node = 1

-- the number of ports CLONE of a BeginLoop: of its inputs without ITERABLE
abbrev pub clones_of : NodeView → ℕ
clones_of node = length node.inputs - 1

-- whether a gate's control is DISALLOW: whether the node has that port
abbrev pub disallows : NodeView → Bool
disallows node = has_port (tag_text Disallow) 0 node.inputs

-- the tag of a gate's control: DISALLOW if the node has that port, and otherwise ALLOW
abbrev pub control_of : NodeView → Tag
control_of node = if disallows node then Disallow else Allow

-- the output tag of a SidePacketToStreamCalculator; the tag says at what time the calculator's only packet stands
abbrev pub moment_of : NodeView → Tag
moment_of node =
    if has_port (tag_text AtPreStream) 0 node.outputs then AtPreStream
    else (if has_port (tag_text AtZero) 0 node.outputs then AtZero else AtPostStream)

-- the input streams of a calculator at a node; PassThroughCalculator has its ports from the node
abbrev pub inputs_of : CalculatorKind → NodeView → Row
inputs_of PassThrough node = no_ports
inputs_of Gate node = many_and Untagged Any (lanes_of Gate node) (control_of node) Flag
inputs_of Mux node = many_and Input Any (lanes_of Mux node) Select Int
inputs_of Cloner node = many_and Untagged Any (lanes_of Cloner node) Tick Any
inputs_of Merge node = many Untagged Any (lanes_of Merge node)
inputs_of Thinner node = one Untagged Any
inputs_of (Compute kind) node = many Untagged (kind_row kind).wiring.takes (lanes_of (Compute kind) node)
inputs_of Filter node = one Untagged Int
inputs_of Shift node = one Untagged Any
inputs_of Counting node = no_ports
inputs_of SideToStream node = no_ports
inputs_of Constants node = no_ports
inputs_of Loopback node = many_and Loop Any 1 Main Any
inputs_of FlowLimiter node = many_and Untagged Any 1 Finished Any
inputs_of BeginLoop node = many_and Clone Any (clones_of node) Iterable Items
inputs_of EndLoop node = many_and BatchEnd Int 1 Item Any

-- the output streams of a calculator at a node
abbrev pub outputs_of : CalculatorKind → NodeView → Row
outputs_of PassThrough node = no_ports
outputs_of Gate node = many Untagged Any (lanes_of Gate node)
outputs_of Mux node = one Output Any
outputs_of Cloner node = many Untagged Any (lanes_of Cloner node)
outputs_of Merge node = one Untagged Any
outputs_of Thinner node = one Untagged Any
outputs_of (Compute kind) node = one Untagged (kind_row kind).wiring.gives
outputs_of Filter node = one Untagged Int
outputs_of Shift node = one Untagged Any
outputs_of Counting node = one Untagged Int
outputs_of SideToStream node = one (moment_of node) Any
outputs_of Constants node = no_ports
outputs_of Loopback node = one PrevLoop Any
outputs_of FlowLimiter node = one Untagged Any
outputs_of BeginLoop node = after_one BatchEnd Int (many_and Clone Any (clones_of node) Item Any)
outputs_of EndLoop node = one Iterable Items

-- the side packets that a calculator takes
abbrev pub sides_of : CalculatorKind → Row
sides_of SideToStream = one Untagged Any
sides_of kind = no_ports

-- the side packets that a calculator writes at a node
abbrev pub side_outputs_of : CalculatorKind → NodeView → Row
side_outputs_of Constants node = many Packet Any (lanes_of Constants node)
side_outputs_of kind node = no_ports

abbrev pub is_empty : List Port → Bool
is_empty ports = length ports == 0

-- the ports of a PassThroughCalculator: any inputs, at least one, and the same outputs
abbrev pub passed_ports : NodeView → Option Ports
passed_ports node =
    if not (is_empty node.inputs) && has_just node.outputs (in_order node.inputs) && is_empty node.input_sides && is_empty node.output_sides
    then Some (record { inputs = in_order node.inputs; outputs = in_order node.inputs; sides = [] })
    else None

-- the side packets that a calculator takes, if the node has just these, and writes just those that the calculator does
abbrev pub side_ports : CalculatorKind → NodeView → Option (List PortKind)
side_ports kind node =
    option_and_then (λ side_outputs. fitting node.input_sides (sides_of kind)) (fitting node.output_sides (side_outputs_of kind node))

-- the ports of a calculator other than PassThroughCalculator, if the node has just these and at least one lane
abbrev pub rowed_ports : CalculatorKind → NodeView → Option Ports
rowed_ports kind node =
    if lanes_of kind node == 0 then None
    else option_and_then (λ inputs. option_and_then (λ outputs. option_map (λ sides.
    record { inputs = inputs; outputs = outputs; sides = sides })
    (side_ports kind node)) (fitting node.outputs (outputs_of kind node))) (fitting node.inputs (inputs_of kind node))

-- the ports that a calculator has at a node, if the node's streams and side packets fit it
abbrev pub kind_ports : CalculatorKind → NodeView → Option Ports
kind_ports PassThrough node = passed_ports node
kind_ports kind node = rowed_ports kind node

-- Laws.

-- borrowed names, as the list of what they are
abbrev pub names_of : List (Bor (List ℕ)) → List (List ℕ)
names_of names = map (λ name. name.now) names

-- whether a calculator has all of these options, and no option that may be set only once is set twice
abbrev pub are_options : CalculatorKind → List Entry → Bool
are_options kind options = are_known (all_options kind) options && are_once (single_options kind) options

-- the time that an output tag of a SidePacketToStreamCalculator stands for
abbrev pub time_of : Tag → ℕ
time_of AtPreStream = pre_stream
time_of AtZero = place_of (pos 0)
time_of tag = post_stream

-- options that may be absent, with the value that they have then
abbrev pub truth_or_false : List ℕ → List Entry → Option Bool
truth_or_false name options = or_absent false truth_in_value (set_to name options)

abbrev pub positive_or_one : List ℕ → List Entry → Option ℤ
positive_or_one name options = or_absent (pos 1) positive (set_to name options)

abbrev pub timestamp_or_zero : List ℕ → List Entry → Option ℤ
timestamp_or_zero name options = or_absent (pos 0) timestamp_number (set_to name options)

abbrev pub gate_law : NodeView → List Entry → Option Law
gate_law node options =
    option_map (λ empty_as_allow. law.Gate (lanes_of Gate node) (disallows node) empty_as_allow)
    (truth_or_false (codes "empty_packets_as_allow") options)

abbrev pub thins : List Entry → Bool
thins options = is_absent_or is_asynchronous (set_to (codes "thinner_type") options)

abbrev pub thinner_law : List Entry → Option Law
thinner_law options =
    if thins options then option_map law.Thin (positive_or_one (codes "period") options) else None

-- what an option says that may be set to this value, as each form of value
abbrev pub said_by : Option Value → Said
said_by None = record { number = None; word = [] }
said_by (Some value) = record { number = long_number_in_value value; word = word_in value }

-- what the options of these names say, in this order
abbrev pub settings_of : List (List ℕ) → List Entry → List Said
settings_of names options = map (λ name. said_by (set_to name options)) names

-- the law of a formula, with so many inputs
abbrev pub computing : Wiring → ℕ → Formula → Law
computing wiring lanes formula = law.Compute (record { formula = formula; lanes = lanes; takes = wiring.takes; gives = wiring.gives })

abbrev pub compute_law : ComputationKind → NodeView → List Entry → Option Law
compute_law kind node options =
    option_map (computing (kind_row kind).wiring (lanes_of (Compute kind) node)) ((kind_row kind).formula (settings_of (kind_row kind).options options))

abbrev pub filter_law_of : List Entry → Option Law
filter_law_of options =
    option_and_then (λ keep. option_map (law.Filter keep) (truth_or_false (codes "raise_bound") options))
    (required keep_in (set_to (codes "keep") options))

abbrev pub shift_law : List Entry → Option Law
shift_law options = option_map law.Shift (number (codes "offset") options)

abbrev pub counting_law : List Entry → Option Law
counting_law options =
    option_and_then (λ count. option_and_then (λ start. option_map (law.Count count start)
    (positive_or_one (codes "step") options))
    (timestamp_or_zero (codes "start") options))
    (required call_count (set_to (codes "count") options))

abbrev pub flight_or_one : List ℕ → List Entry → Option ℕ
flight_or_one name options = or_absent 1 flight_limit (set_to name options)

abbrev pub limiter_law : List Entry → Option Law
limiter_law options = option_map law.Limiter (flight_or_one (codes "max_in_flight") options)

abbrev pub begin_law : NodeView → List Entry → Option Law
begin_law node options = option_map (law.BeginLoop (clones_of node)) (truth_or_false (codes "always_end") options)

abbrev pub end_law : List Entry → Option Law
end_law options = option_map law.EndLoop (truth_or_false (codes "empty_as_bound") options)

-- the law of a MergeCalculator: with the handler that takes packets as they come (MediaPipe, ImmediateInputStreamHandler) that of a
-- free node
abbrev pub merge_law : NodeView → Law
merge_law node =
    if bytes_eq node.handler (codes "ImmediateInputStreamHandler") then law.FirstCome (lanes_of Merge node) else law.Merge (lanes_of Merge node)

-- a calculator's law, if its options set it
abbrev pub law_with : CalculatorKind → NodeView → List Entry → Option Law
law_with PassThrough node options = Some law.Pass
law_with Gate node options = gate_law node options
law_with Mux node options = Some (law.Mux (lanes_of Mux node))
law_with Cloner node options = Some (law.Cloner (lanes_of Cloner node))
law_with Merge node options = Some (merge_law node)
law_with Thinner node options = thinner_law options
law_with (Compute kind) node options = compute_law kind node options
law_with Filter node options = filter_law_of options
law_with Shift node options = shift_law options
law_with Counting node options = counting_law options
law_with SideToStream node options = Some (law.SideOnce (time_of (moment_of node)))
law_with Constants node options = Some law.Constants
law_with Loopback node options = Some law.Loopback
law_with FlowLimiter node options = limiter_law options
law_with BeginLoop node options = begin_law node options
law_with EndLoop node options = end_law options

-- the side packets that a ConstantSidePacketCalculator writes: as many as its ports, each set by an option
abbrev pub constants_with : CalculatorKind → NodeView → List Entry → Option (List Plain)
constants_with Constants node options =
    if length options == lanes_of Constants node then payloads_in (map (λ option. option.value) options) else None
constants_with kind node options = Some []

-- what a node's options set
pub record SettingsView : Type 0 where
  pub law : Law
  pub constants : List Plain

-- what options set at a node of a kind, if they are options of that kind
abbrev pub settings_with : CalculatorKind → NodeView → List Entry → Option SettingsView
settings_with kind node options =
    if are_options kind options
    then option_and_then (λ rule. option_map (λ constants. record { law = rule; constants = constants }) (constants_with kind node options)) (law_with kind node options)
    else None

-- what the options of a node of a kind set, if they are options of that kind
abbrev pub kind_settings : CalculatorKind → NodeView → Option SettingsView
kind_settings kind node = option_and_then (settings_with kind node) (calculator_options node.calculator (entries node.options))

-- the shape that a calculator of a law has at a node with these ports
abbrev pub shape_with : List ℕ → Ports → Law → Shape
shape_with name ports rule = record {
  name = name;
  inputs = ports.inputs;
  outputs = ports.outputs;
  sides = ports.sides;
  offset = offset_of rule;
  stateless = is_stateless rule;
}

-- whether options were found to be the calculator's, and there are none
abbrev pub are_none : Option (List Entry) → Bool
are_none None = false
are_none (Some options) = length options == 0

-- whether a node has no options, but perhaps empty options messages of its calculator
abbrev pub has_no_options : NodeView → Bool
has_no_options node = are_none (calculator_options node.calculator (entries node.options))
