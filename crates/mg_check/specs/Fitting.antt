-- What a node gets from its calculator: its ports, its law, its input policy, its shape. Each is there only if the
-- node's own fields fit it.
use Rattle.std.specs.Prelude.{ℕ, List, [], Bool, true, false, ◌&&◌, Option, None, Some, option_map, if◌then◌else◌, codes, slice_get}
use Rattle.std.specs.Option.{option_and_then}
use Rattle.std.specs.Str.{bytes_eq}
use Rattle.mg_value.specs.declared.policy.Policy.{Policy}
use Rattle.mg_value.specs.declared.policy.Policy.TheVariants.{Default, Mux}
use Rattle.mg_config.specs.Config.{NodeView}
use Rattle.mg_calc.specs.declared.law.Law.{Law}
use Rattle.mg_calc.specs.declared.law.Law.TheVariants as law
use Rattle.mg_calc.specs.declared.shape.Shape.{Shape}
use Rattle.mg_calc.specs.declared.shape.OuterShape.{OuterShape}
use Rattle.mg_kinds.specs.Ports.{has_just}
use Rattle.mg_kinds.specs.Kinds.{kind_ports, is_empty, SettingsView, kind_settings, shape_with, has_no_options}
use Rattle.mg_kinds.specs.declared.ports.Ports.{Ports}
use Rattle.mg_check.specs.declared.node_kind.NodeKind.{NodeKind}
use Rattle.mg_check.specs.declared.node_kind.NodeKind.TheVariants.{BuiltIn, Outer}

-- whether a user-supplied calculator may have a law: any but those of sources, Constants, Loopback and free nodes
abbrev pub may_be_outer : Law → Bool
may_be_outer (law.Count count start apart) = false
may_be_outer (law.SideOnce at) = false
may_be_outer law.Constants = false
may_be_outer law.Loopback = false
may_be_outer (law.FirstCome lanes) = false
may_be_outer (law.Limiter most) = false
may_be_outer rule = true

-- Whether a node fits a user-supplied calculator. The calculator may have its law. The node has just the calculator's
-- ports, and writes no side packet.
abbrev pub fits_outer : NodeView → OuterShape → Bool
fits_outer node outer =
    may_be_outer outer.law && has_just node.inputs outer.shape.inputs && has_just node.outputs outer.shape.outputs
    && has_just node.input_sides outer.shape.sides && is_empty node.output_sides

abbrev pub outer_ports : NodeView → OuterShape → Option Ports
outer_ports node outer =
    if fits_outer node outer
    then Some (record { inputs = outer.shape.inputs; outputs = outer.shape.outputs; sides = outer.shape.sides })
    else None

-- the ports that a calculator has at a node, if the node's streams and side packets fit it
abbrev pub node_ports : List OuterShape → NodeView → NodeKind → Option Ports
node_ports outers node (BuiltIn kind) = kind_ports kind node
node_ports outers node (Outer number) = option_and_then (outer_ports node) (slice_get outers number)

-- the law of a node with a user-supplied calculator, if the node has no options; such a node writes no side packet
abbrev pub outer_settings : NodeView → OuterShape → Option SettingsView
outer_settings node outer = if has_no_options node then Some (record { law = outer.law; constants = [] }) else None

-- the law of a node, and the side packets that it writes, if its options are those of its calculator
abbrev pub node_settings : List OuterShape → NodeView → NodeKind → Option SettingsView
node_settings outers node (BuiltIn kind) = kind_settings kind node
node_settings outers node (Outer number) = option_and_then (outer_settings node) (slice_get outers number)

-- the input policy that a node has by its law if it asks for none (MediaPipe, Synchronization: input policies)
abbrev pub own_policy : Law → Policy
own_policy (law.Mux lanes) = Mux
own_policy rule = Default

-- the Mux policy, if a law may ask for it
abbrev pub mux_policy : Law → Option Policy
mux_policy (law.Mux lanes) = Some Mux
mux_policy rule = None

-- the Default policy, if a law may ask for it; a limiter can't, since what it takes doesn't wait for other inputs
abbrev pub default_policy : Law → Option Policy
default_policy (law.Limiter most) = None
default_policy rule = Some Default

-- the policy in the plan of a node that takes packets as they come, which only free nodes may ask for
abbrev pub immediate_policy : Law → Option Policy
immediate_policy (law.FirstCome lanes) = Some Default
immediate_policy (law.Limiter most) = Some Default
immediate_policy rule = None

-- the input policy that a node of a law has by the name of its handler, if it may have that policy
abbrev pub policy_of : Law → List ℕ → Option Policy
policy_of rule handler =
    if bytes_eq handler [] then Some (own_policy rule)
    else (if bytes_eq handler (codes "DefaultInputStreamHandler") then default_policy rule
    else (if bytes_eq handler (codes "MuxInputStreamHandler") then mux_policy rule
    else (if bytes_eq handler (codes "ImmediateInputStreamHandler") then immediate_policy rule else None)))

-- the shape of a node's calculator
abbrev pub node_shape : List OuterShape → NodeView → NodeKind → Ports → Law → Option Shape
node_shape outers node (BuiltIn kind) ports rule = Some (shape_with node.calculator ports rule)
node_shape outers node (Outer number) ports rule = option_map (λ outer. outer.shape) (slice_get outers number)
