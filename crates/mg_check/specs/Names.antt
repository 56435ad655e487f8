-- Names and their numbers: the places at which they stand in a list.
use Rattle.std.specs.Prelude.{ℕ, List, [], ◌∷◌, Bool, not, Option, None, Some, if◌then◌else◌, unwrap_or, position, find}
use Rattle.std.specs.List.{list_any}
use Rattle.std.specs.Str.{bytes_eq}

-- whether a name is among names
abbrev pub is_name_among : List (List ℕ) → List ℕ → Bool
is_name_among names name = list_any (bytes_eq name) names

-- the first name that stands again later
abbrev pub first_again : List (List ℕ) → Option (List ℕ)
first_again [] = None
first_again (name ∷ names) = if is_name_among names name then Some name else first_again names

-- the first of names that isn't among others
abbrev pub first_missing : List (List ℕ) → List (List ℕ) → Option (List ℕ)
first_missing there names = find (λ name. not (is_name_among there name)) names

-- the number of a name among names: its place, or 0 if it isn't there
abbrev pub number_among : List (List ℕ) → List ℕ → ℕ
number_among names name = unwrap_or (position (bytes_eq name) names) 0
