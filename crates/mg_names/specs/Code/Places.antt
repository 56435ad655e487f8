-- The places that a table has of tags and indexes.
use Rattle.std.specs.Prelude.{ℕ, List, Option, None, Some, unwrap_or, slice_get, option_map, Bool, not, ◌&&◌, ◌==◌, ◌-◌, is_none}
use Rattle.std.specs.Ordering.{nat_cmp}
use Rattle.std.specs.Cmp.Lexicographic.{slice_cmp}
use Rattle.std.specs.BTreeMap as tree
use Rattle.mg_names.specs.Ports.{place_of, has_port}
use Rattle.mg_names.specs.declared.port.Port.{Port}
use Rattle.mg_names.specs.declared.places.Places.{Places}

-- the place at an index, if one is kept
abbrev pub slot_at : List (Option ℕ) → ℕ → Option ℕ
slot_at slots index = unwrap_or (slice_get slots index) None

abbrev pub slot_of : Option (List (Option ℕ)) → ℕ → Option ℕ
slot_of None index = None
slot_of (Some slots) index = slot_at slots index

-- the place that a table has of a tag and index, if it has one
abbrev pub kept_place : Places → List ℕ → ℕ → Option ℕ
kept_place places tag index = slot_of (option_map (λ slots. slots.items) (tree.get_by (λ key. slice_cmp nat_cmp tag key.items) places.tags)) index

-- whether a port has an index above 0 while the table has no place of its tag and the index one lower
abbrev pub lacks_lower : Places → Port → Bool
lacks_lower places port = not (port.index == 0) && is_none (kept_place places port.tag (port.index - 1))

-- the place of a tag and index among ports, by their table if they have one
abbrev pub found_in : Option Places → List Port → List ℕ → ℕ → Option ℕ
found_in None ports tag index = place_of tag index ports
found_in (Some places) ports tag index = kept_place places tag index

-- whether a port has an index above 0 while none of the ports has its tag and the index one lower
abbrev pub lacks_below : List Port → Port → Bool
lacks_below ports port = not (port.index == 0) && not (has_port port.tag (port.index - 1) ports)
