-- Ports that a calculator has, and whether a node has just these.
use Rattle.std.specs.Prelude.{ℕ, List, [], ◌∷◌, ◌++◌, Bool, ◌&&◌, ◌==◌, nat_le, Option, None, Some, if◌then◌else◌, length}
use Rattle.std.specs.List.{list_all}
use Rattle.mg_value.specs.declared.kind.Kind.{Kind}
use Rattle.mg_names.specs.Grammar.{index_count}
use Rattle.mg_names.specs.Ports.{has_port}
use Rattle.mg_names.specs.declared.port.Port.{Port}
use Rattle.mg_calc.specs.declared.port_kind.PortKind.{PortKind}
use Rattle.mg_calc.specs.Shape.{ports}
use Rattle.mg_kinds.specs.Tags.{tag_text}
use Rattle.mg_kinds.specs.declared.row.Row.{Row}
use Rattle.mg_kinds.specs.declared.row.EndPort.{EndPort}

abbrev pub port : List ℕ → Kind → ℕ → PortKind
port tag kind index = record { tag = tag; index = index; kind = kind }

-- the first or the last port of a row, if the row has one
abbrev pub end_port : Option EndPort → List PortKind
end_port None = []
end_port (Some end) = port (tag_text end.tag) end.kind 0 ∷ []

-- the ports of a row: its count of one tag, and before and after them perhaps one of another
abbrev pub ports_in : Row → List PortKind
ports_in row = end_port row.first ++ (ports (tag_text row.tag) row.count row.kind ++ end_port row.last)

-- whether the given ports are just the wanted ones by tag and index, provided that no port is given twice
abbrev pub has_just : List Port → List PortKind → Bool
has_just given wanted = (length given == length wanted) && list_all (λ p. has_port p.tag p.index given) wanted

-- whether ports are just those of a row, which has no more ports of a tag than there are indexes
abbrev pub has_row : List Port → Row → Bool
has_row given row = nat_le row.count index_count && has_just given (ports_in row)

-- the ports of a row, if a node has just these
abbrev pub fitting : List Port → Row → Option (List PortKind)
fitting given row = if has_row given row then Some (ports_in row) else None
