-- Ports in order: by tag, in byte order and the empty tag first, and then by index.
use Rattle.std.specs.Prelude.{List, [], ◌∷◌, fold}
use Rattle.std.specs.declared.cmp.Ordering.{Ordering}
use Rattle.std.specs.declared.cmp.Ordering.TheVariants.{Less, Equal, Greater}
use Rattle.mg_value.specs.declared.kind.Kind.TheVariants.{Any}
use Rattle.mg_names.specs.declared.port.Port.{Port}
use Rattle.mg_calc.specs.declared.port_kind.PortKind.{PortKind}
use Rattle.mg_calc.specs.Shape.{port_cmp}
use Rattle.mg_kinds.specs.Ports.{port}

-- a port `p` put into a list of `q` and `ports`, by how `p` compares with `q`. The list `more` is `ports` with `p` put into it.
abbrev pub put_by : Ordering → PortKind → PortKind → List PortKind → List PortKind → List PortKind
put_by Less p q ports more = p ∷ q ∷ ports
put_by Equal p q ports more = q ∷ ports
put_by Greater p q ports more = q ∷ more

-- ports in order with a further port at its place; a port that is there already isn't put there again
abbrev pub put_in_order : List PortKind → PortKind → List PortKind
put_in_order [] p = p ∷ []
put_in_order (q ∷ ports) p = put_by (port_cmp p q) p q ports (put_in_order ports p)

-- a port of a node, as one that takes any payload
abbrev pub any_port : Port → PortKind
any_port p = port p.tag Any p.index

-- the ports of a node in order; each port takes any payload
abbrev pub in_order : List Port → List PortKind
in_order ports = fold (λ done p. put_in_order done (any_port p)) [] ports
