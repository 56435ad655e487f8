-- Ports under other names.
use Rattle.std.specs.Prelude.{ℕ, List, [], ◌∷◌}
use Rattle.mg_names.specs.declared.port.Port.{Port}

-- ports of the same tags and indexes with other names, in order; ports past the last name keep their names
abbrev pub with_names : List Port → List (List ℕ) → List Port
with_names [] names = []
with_names (port ∷ ports) [] = port ∷ ports
with_names (port ∷ ports) (name ∷ names) = record port { name = name } ∷ with_names ports names
