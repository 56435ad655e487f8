-- Numbers, times and places, as the laws need them.
use Rattle.std.specs.Prelude.{map, [], ◌∷◌, ℕ, ℤ, pos, negsuc, ◌+ℤ◌, ◌^◌, Bool, ◌&&◌, nat_lt, nat_le, List, Option, Some, None, option_map, slice_get, unwrap_or, if◌then◌else◌}
use Rattle.std.specs.List.{fold}
use Rattle.mg_time.specs.Time.{raw_of, place_of, least, greatest}
use Rattle.mg_value.specs.Plain.{Plain, Items, int, items, no_items, item}
use Rattle.mg_value.specs.Packet.{Stamped}

-- what a set has at a port: a packet, or none, also if there is no such port
abbrev pub place_at : List (Option (Stamped Plain)) → ℕ → Option (Stamped Plain)
place_at set port = unwrap_or (slice_get set port) None

-- whether a number fits in 64 signed bits
abbrev pub fits : ℤ → Bool
fits (pos n) = nat_lt n (2 ^ 63)
fits (negsuc n) = nat_lt n (2 ^ 63)

-- the number that a payload is, or 0 if it is of another kind
abbrev pub number_of : Plain → ℤ
number_of (int n) = n
number_of _ = pos 0

-- the number at a place of a set; 0 if the place has no packet
abbrev pub number_at : Option (Stamped Plain) → ℤ
number_at place = unwrap_or (option_map (λ p. number_of p.value) place) (pos 0)

-- the sum of the numbers that are present
abbrev pub total : List (Option (Stamped Plain)) → ℤ
total set = fold ◌+ℤ◌ (pos 0) (map number_at set)

-- whether a time is of the range
abbrev pub is_in_range : ℕ → Bool
is_in_range t = nat_le least t && nat_le t greatest

-- the time with a signed number, if the range has it
abbrev pub time_of : ℤ → Option ℕ
time_of n = if is_in_range (place_of n) then Some (place_of n) else None

-- a time moved by an offset: none if it was of the range and leaves it; special times stay
abbrev pub moved_time : ℕ → ℤ → Option ℕ
moved_time t offset = if is_in_range t then time_of (raw_of t +ℤ offset) else Some t

-- a place that may keep a payload, as a payload: a list of one, or an empty list
abbrev pub stored : Option Plain → Plain
stored None = items no_items
stored (Some p) = items (item p no_items)

-- what a place that is stored as a payload keeps
abbrev pub kept_in : Plain → Option Plain
kept_in (items (item p no_items)) = Some p
kept_in _ = None

-- the items of a payload's list, in order
abbrev pub listed : Items → List Plain
listed no_items = []
listed (item p ps) = p ∷ listed ps

-- the items of a payload, or none if it isn't a list
abbrev pub items_in : Plain → List Plain
items_in (items is) = listed is
items_in _ = []
