-- What a calculator keeps between its calls, as a list of payloads. The empty list is the state of a calculator that has seen nothing.
use Rattle.std.specs.Prelude.{ℕ, ℤ, pos, List, [], ◌∷◌, ◌++◌, map, take, replicate, Option, Some, None, slice_get, unwrap_or, ◌==◌, if◌then◌else◌}
use Rattle.std.specs.List.{filter_map}
use Rattle.std.specs.Option.{option_and_then}
use Rattle.mg_time.specs.Time.{place_of, pre_stream, one_over_post_stream}
use Rattle.mg_value.specs.Plain.{Plain, int}
use Rattle.mg_calc.specs.Values.{time_of, stored, kept_in}

-- the state of one number
abbrev pub state_of : ℤ → List Plain
state_of n = int n ∷ []

-- the number that a state keeps, and 0 for the empty state
abbrev pub number_in : List Plain → ℤ
number_in (int n ∷ _) = n
number_in _ = pos 0

-- how many sets a state has counted, and 0 for the empty state
abbrev pub count_in : List Plain → ℕ
count_in (int (pos n) ∷ _) = n
count_in _ = 0

-- the time that a thinner's number stands for: PreStream or a time in the range by its own number, OneOverPostStream by any other
abbrev pub time_kept : ℤ → ℕ
time_kept n = if place_of n == pre_stream then pre_stream else unwrap_or (time_of n) one_over_post_stream

-- the time from which on a thinner with a state lets a packet pass, its next valid timestamp; PreStream for the empty state
abbrev pub next_valid : List Plain → ℕ
next_valid (int n ∷ _) = time_kept n
next_valid _ = pre_stream

-- what a state keeps at a place: a payload, or none, also if there is no such place
abbrev pub kept_at : List Plain → ℕ → Option Plain
kept_at state i = option_and_then kept_in (slice_get state i)

-- what a state keeps at its first places, as many as there are lanes; none at those that it doesn't have
abbrev pub places_in : ℕ → List Plain → List (Option Plain)
places_in lanes state = take lanes (map kept_in state ++ replicate lanes None)

-- the payloads that a state keeps at its places, in order
abbrev pub kept_list : List Plain → List Plain
kept_list state = filter_map kept_in state

-- the state that keeps a list of payloads, each in a place of its own
abbrev pub full_places : List Plain → List Plain
full_places list = map (λ v. stored (Some v)) list
