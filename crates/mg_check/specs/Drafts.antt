-- What a node is before its streams and side packets have numbers, and what it is refused for by itself.
use Rattle.std.specs.Prelude.{ℕ, ℤ, pos, negsuc, List, [], Bool, false, not, ◌&&◌, ◌==◌, nat_lt, Option, None, Some, option_map, is_none, unwrap_or, if◌then◌else◌, codes, map, position, find, filter_map}
use Rattle.std.specs.List.{list_any}
use Rattle.std.specs.Option.{option_and_then, option_or}
use Rattle.std.specs.Str.{bytes_eq}
use Rattle.mg_value.specs.Plain.{Plain}
use Rattle.mg_value.specs.declared.policy.Policy.{Policy}
use Rattle.mg_names.specs.Ports.{is_at}
use Rattle.mg_names.specs.declared.port.Port.{Port}
use Rattle.mg_config.specs.Config.{NodeView}
use Rattle.mg_config.specs.declared.mark.Mark.{Mark}
use Rattle.mg_calc.specs.declared.law.Law.{Law}
use Rattle.mg_calc.specs.declared.law.Law.TheVariants.{Loopback, Limiter}
use Rattle.mg_calc.specs.declared.port_kind.PortKind.{PortKind}
use Rattle.mg_calc.specs.declared.shape.Shape.{Shape}
use Rattle.mg_calc.specs.declared.shape.OuterShape.{OuterShape}
use Rattle.mg_kinds.specs.Tags.{tag_text}
use Rattle.mg_kinds.specs.declared.tag.Tag.{Tag}
use Rattle.mg_kinds.specs.declared.tag.Tag.TheVariants.{Loop, Finished}
use Rattle.mg_kinds.specs.Kinds.{SettingsView}
use Rattle.mg_kinds.specs.PortOrder.{in_order}
use Rattle.mg_kinds.specs.declared.ports.Ports.{Ports}
use Rattle.mg_check.specs.declared.node_kind.NodeKind.{NodeKind}
use Rattle.mg_check.specs.declared.node_kind.NodeKind.TheVariants.{BuiltIn, Outer}
use Rattle.mg_check.specs.Choosing.{Chosen, chosen_nodes, unknown_calculator, no_more_boxes}
use Rattle.mg_check.specs.Fitting.{node_ports, node_settings, node_shape, policy_of}
use Rattle.mg_check.specs.declared.fault.CheckFault.{CheckFault}
use Rattle.mg_check.specs.declared.fault.CheckFault.TheVariants.{BadPorts, BadOptions, Unsupported}

-- a node of a plan before its streams and side packets have numbers
pub record DraftView : Type 0 where
  pub label : List ℕ
  pub law : Law
  pub shape : Shape
  -- the names at the ports of the shape, in its order
  pub inputs : List (List ℕ)
  pub outputs : List (List ℕ)
  pub sides : List (List ℕ)
  -- the names of the side packets that it writes, and their payloads
  pub side_outputs : List (List ℕ)
  pub constants : List Plain
  pub in_flight : ℕ
  pub box_number : Option ℕ
  pub policy : Policy
  -- the input that is marked as a back edge, if a mark stands where one may be; and whether a mark stands elsewhere
  pub back : Option ℕ
  pub misplaced : Bool

-- the name that a node has at a port of its calculator
abbrev pub name_at : List Port → PortKind → List ℕ
name_at given p = unwrap_or (option_map (λ port. port.name) (find (is_at p.tag p.index) given)) []

-- the names that a node has at ports of its calculator
abbrev pub names_at : List Port → List PortKind → List (List ℕ)
names_at given ps = map (name_at given) ps

-- a node's name, or else its calculator
abbrev pub label_of : NodeView → List ℕ
label_of node = if bytes_eq node.name [] then node.calculator else node.name

-- a number of sets that a node asks for, brought into 1 to 64
abbrev pub up_to_64 : ℤ → ℕ
up_to_64 (pos n) = if n == 0 then 1 else (if nat_lt 64 n then 64 else n)
up_to_64 (negsuc n) = 1

-- how many sets may be in flight: what the node asks for, but 1 if its calculator is user-supplied or keeps a state
abbrev pub flight_of : Option ℕ → Bool → ℤ → ℕ
flight_of box_number stateless most = if is_none box_number && stateless then up_to_64 most else 1

-- the number of a node's calculator among the user-supplied calculators, if it is one of these
abbrev pub box_of : NodeKind → Option ℕ
box_of (BuiltIn kind) = None
box_of (Outer number) = Some number

-- whether a mark names the first input of a tag
abbrev pub is_at_tag : Tag → Mark → Bool
is_at_tag tag mark = bytes_eq mark.tag (tag_text tag) && (mark.index == 0)

-- Whether a mark stands where a back edge may be. That is LOOP of a loopback, its first port, or FINISHED of a limiter, its second port.
abbrev pub may_be_back : Law → Mark → Bool
may_be_back Loopback mark = is_at_tag Loop mark
may_be_back (Limiter most) mark = is_at_tag Finished mark
may_be_back rule mark = false

-- the number of the input that may be a back edge
abbrev pub back_port : Law → ℕ
back_port (Limiter most) = 1
back_port rule = 0

-- the number of the input that is marked as a back edge, if a mark stands where one may be
abbrev pub back_of : Law → List Mark → Option ℕ
back_of rule marks = if list_any (may_be_back rule) marks then Some (back_port rule) else None

-- the draft of a node with these ports, settings and policy, and of this shape
abbrev pub draft_with : NodeView → NodeKind → Ports → SettingsView → Policy → Shape → DraftView
draft_with node kind ports settings policy shape = record {
  label = label_of node;
  law = settings.law;
  shape = shape;
  inputs = names_at node.inputs ports.inputs;
  outputs = names_at node.outputs ports.outputs;
  sides = names_at node.input_sides ports.sides;
  side_outputs = names_at node.output_sides (in_order node.output_sides);
  constants = settings.constants;
  in_flight = flight_of (box_of kind) shape.stateless node.max_in_flight;
  box_number = box_of kind;
  policy = policy;
  back = back_of settings.law node.back_marks;
  misplaced = list_any (λ mark. not (may_be_back settings.law mark)) node.back_marks;
}

-- the draft of a node, if nothing is wrong with it
abbrev pub draft_of : List OuterShape → Chosen → Option DraftView
draft_of outers c =
    option_and_then (λ ports. option_and_then (λ settings. option_and_then (λ policy. option_map (draft_with c.node c.kind ports settings policy)
    (node_shape outers c.node c.kind ports settings.law))
    (policy_of settings.law c.node.handler))
    (node_settings outers c.node c.kind))
    (node_ports outers c.node c.kind)

-- the drafts of the nodes with which nothing is wrong; these are all nodes if no node is refused
abbrev pub drafts : List OuterShape → List NodeView → List DraftView
drafts outers nodes = filter_map (draft_of outers) (chosen_nodes outers nodes)

-- Refusals. Whether the streams and side packets of a node don't fit its calculator.
abbrev pub has_bad_ports : List OuterShape → Chosen → Bool
has_bad_ports outers c = is_none (node_ports outers c.node c.kind)

abbrev pub bad_ports : List OuterShape → List Chosen → Option CheckFault
bad_ports outers cs = option_map BadPorts (position (has_bad_ports outers) cs)

-- whether the options of a node aren't those of its calculator
abbrev pub has_bad_options : List OuterShape → Chosen → Bool
has_bad_options outers c = is_none (node_settings outers c.node c.kind)

abbrev pub bad_options : List OuterShape → List Chosen → Option CheckFault
bad_options outers cs = option_map BadOptions (position (has_bad_options outers) cs)

-- whether a node asks for an input policy that it can't have, or has options that aren't those of its calculator
abbrev pub is_unsupported : List OuterShape → Chosen → Bool
is_unsupported outers c = is_none (option_and_then (λ settings. policy_of settings.law c.node.handler) (node_settings outers c.node c.kind))

abbrev pub unsupported : List OuterShape → List Chosen → Option CheckFault
unsupported outers cs = option_map (λ n. Unsupported n (codes "input_stream_handler")) (position (is_unsupported outers) cs)

-- the first refusal of nodes by themselves
abbrev pub node_refusal : List OuterShape → List NodeView → Option CheckFault
node_refusal outers nodes =
    option_or (unknown_calculator outers nodes) (option_or (no_more_boxes outers nodes) (option_or (bad_ports outers (chosen_nodes outers nodes))
    (option_or (bad_options outers (chosen_nodes outers nodes)) (unsupported outers (chosen_nodes outers nodes)))))
