-- The places that a table of names has.
use Rattle.std.specs.Prelude.{ℕ, List, [], Option, None, Some, Vec}
use Rattle.std.specs.Ordering.{nat_cmp}
use Rattle.std.specs.Cmp.Lexicographic.{slice_cmp}
use Rattle.std.specs.BTreeMap as tree
use Rattle.mg_check.specs.declared.groups.Groups.{Groups}

-- the places in a vector, if there is one
abbrev pub places_in : {A : Type 0} → Option (Vec ℕ A) → List ℕ
places_in None = []
places_in (Some places) = places.items

-- the places that the table has of a name
abbrev pub kept : Groups → List ℕ → List ℕ
kept groups name = places_in (tree.get_by (λ key. slice_cmp nat_cmp name key.items) groups.places)
