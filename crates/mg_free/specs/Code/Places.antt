-- Tables of the places of numbers in a list, and a choice of nodes.
use Rattle.std.specs.Prelude.{◌≡◌, ℕ, Bool, true, false, List, slice_index_or}
use Rattle.mg_calc.specs.declared.plan_node.PlanNode.{PlanNode}
use Rattle.mg_free.specs.declared.places.Places.{Places}
use Rattle.mg_free.specs.Core.{is_free, is_core, place_in}

-- the place that a table has for a number
abbrev pub place_at : Places → ℕ → ℕ
place_at places n = slice_index_or places.table.items n places.past

-- a table has the places of a list's numbers
abbrev pub ArePlaces : Places → List ℕ → Type 0
ArePlaces places list = (n : ℕ) → place_at places n ≡ place_in list n

-- whether a node is free, for `true`, and whether it is a node of the core, for `false`
abbrev pub is_one_of : Bool → PlanNode → Bool
is_one_of true node = is_free node
is_one_of false node = is_core node
