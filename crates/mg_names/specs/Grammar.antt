-- What a tag, an index and a name look like, after the page Graphs of the MediaPipe framework (input and output ports).
-- A name is lower case, a tag is upper case, and an index is a small decimal number.
use Rattle.std.specs.Prelude.{ℕ, ◌+◌, ◌-◌, ◌*◌, List, [], ◌∷◌, Bool, false, ◌&&◌, ◌||◌, ◌==◌, nat_le, nat_lt, Option, None, Some, if◌then◌else◌}
use Rattle.std.specs.List.{list_all}

-- whether a byte is from low to high, both included
abbrev pub is_between : ℕ → ℕ → ℕ → Bool
is_between low high byte = nat_le low byte && nat_le byte high

-- whether a byte is a digit, `0` to `9`
abbrev pub is_digit : ℕ → Bool
is_digit byte = is_between 48 57 byte

-- whether a name may begin with a byte: `a` to `z`, or `_`
abbrev pub begins_name : ℕ → Bool
begins_name byte = is_between 97 122 byte || (byte == 95)

-- whether a tag may begin with a byte: `A` to `Z`, or `_`
abbrev pub begins_tag : ℕ → Bool
begins_tag byte = is_between 65 90 byte || (byte == 95)

abbrev pub continues_name : ℕ → Bool
continues_name byte = begins_name byte || is_digit byte

abbrev pub continues_tag : ℕ → Bool
continues_tag byte = begins_tag byte || is_digit byte

-- whether a text is a name: `[a-z_][a-z0-9_]*`
abbrev pub is_name : List ℕ → Bool
is_name [] = false
is_name (first ∷ rest) = begins_name first && list_all continues_name rest

-- whether a text is a tag: `[A-Z_][A-Z0-9_]*`
abbrev pub is_tag : List ℕ → Bool
is_tag [] = false
is_tag (first ∷ rest) = begins_tag first && list_all continues_tag rest

-- how many indexes there are: 0 to 63
abbrev pub index_count : ℕ
index_count = 64

-- the number that two digits spell, if it is below the count of indexes
abbrev pub two_digits : ℕ → ℕ → Option ℕ
two_digits tens ones =
    if nat_lt (10 * tens + ones) index_count then Some (10 * tens + ones) else None

-- the index that a text spells: 0 to 63 in decimal, without leading zeros
abbrev pub index_of : List ℕ → Option ℕ
index_of (ones ∷ []) = if is_digit ones then Some (ones - 48) else None
index_of (tens ∷ ones ∷ []) =
    if is_between 49 57 tens && is_digit ones then two_digits (tens - 48) (ones - 48) else None
index_of _ = None
