-- What calculators of their authors' own look like, as a test that computes.
use Rattle.std.specs.Prelude.{List, [], ◌∷◌, Bool, true, false, not, ◌&&◌}
use Rattle.std.specs.Ordering.{is_lt}
use Rattle.mg_calc.specs.declared.port_kind.PortKind.{PortKind}
use Rattle.mg_calc.specs.declared.shape.Shape.{Shape}
use Rattle.mg_calc.specs.Shape.{port_cmp}

-- a port is below all ports of a list
abbrev pub is_below : PortKind → List PortKind → Bool
is_below port [] = true
is_below port (p ∷ ps) = is_lt (port_cmp port p) && is_below port ps

-- ports of any tags, each tag and index once, in their order
abbrev pub are_in_order : List PortKind → Bool
are_in_order [] = true
are_in_order (p ∷ ps) = is_below p ps && are_in_order ps

-- ports in their order, at least one
abbrev pub are_inputs : List PortKind → Bool
are_inputs [] = false
are_inputs (p ∷ ps) = are_in_order (p ∷ ps)

-- the shape of a calculator of an author's own: it has inputs, its ports stand in their order, and it keeps a state
abbrev pub is_own_shape : Shape → Bool
is_own_shape shape = are_inputs shape.inputs && (are_in_order shape.outputs && (are_in_order shape.sides && not shape.stateless))
