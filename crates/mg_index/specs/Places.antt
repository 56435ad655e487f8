-- Where names stand in a list of texts. Some texts may be no names: a test says which are.
use Rattle.std.specs.Prelude.{ℕ, suc, List, [], ◌∷◌, Bool, true, ◌&&◌, Option, None, Some, if◌then◌else◌, option_map, position, min}
use Rattle.std.specs.List.{list_any}
use Rattle.std.specs.Str.{bytes_eq}

-- the test by which each text is a name
abbrev pub is_text : List ℕ → Bool
is_text text = true

-- whether a text is a name, and the other is the same
abbrev pub is_same : (List ℕ → Bool) → List ℕ → List ℕ → Bool
is_same is_name text other = is_name text && bytes_eq text other

-- the first place of a name
abbrev pub place_of : (List ℕ → Bool) → List (List ℕ) → List ℕ → Option ℕ
place_of is_name texts name = position (is_same is_name name) texts

-- the place of the first name that stands again later
abbrev pub place_again : (List ℕ → Bool) → List (List ℕ) → Option ℕ
place_again is_name [] = None
place_again is_name (text ∷ texts) = if list_any (is_same is_name text) texts then Some 0 else option_map suc (place_again is_name texts)

-- the earlier of two places; each may be missing
abbrev pub earlier : Option ℕ → Option ℕ → Option ℕ
earlier None other = other
earlier (Some place) None = Some place
earlier (Some place) (Some other) = Some (min place other)
