-- What numbers and truth values are spelled as, after the text format of protocol buffers.
use Rattle.std.specs.Prelude.{ℕ, ◌-◌, ◌^◌, List, [], ◌∷◌, Bool, true, false, ◌&&◌, ◌||◌, ◌==◌, nat_le, ℤ, pos, neg_ℤ, Option, None, Some, option_map, if◌then◌else◌, codes}
use Rattle.std.specs.List.{list_all}
use Rattle.std.specs.Str.{bytes_eq}
use Rattle.std.specs.Char.{is_digit, digit_value}
use Rattle.std.specs.Str.Parse.{digits_value}

-- the value of a digit in a base
abbrev pub digit_of : ℕ → ℕ → Option ℕ
digit_of base byte = if is_digit byte base then Some (digit_value byte) else None

-- whether a text is of digits of a base: at least one, and nothing else
abbrev pub is_numeral : ℕ → List ℕ → Bool
is_numeral base [] = false
is_numeral base (first ∷ rest) = list_all (λ byte. is_digit byte base) (first ∷ rest)

-- the number that digits spell, if it is at most a bound
abbrev pub value_in : ℕ → ℕ → List ℕ → Option ℕ
value_in base most digits = if is_numeral base digits && nat_le (digits_value base digits) most then Some (digits_value base digits) else None

-- The number that a text spells after a leading 0, if it is at most a bound. The text is empty, `x` or `X` and
-- hexadecimal digits, or octal digits.
abbrev pub after_zero : ℕ → List ℕ → Option ℕ
after_zero most [] = Some 0
after_zero most (first ∷ rest) = if (first == 120) || (first == 88) then value_in 16 most rest else value_in 8 most (first ∷ rest)

-- the number that a text without a sign spells, if it is at most a bound
abbrev pub magnitude : ℕ → List ℕ → Option ℕ
magnitude most [] = None
magnitude most (first ∷ rest) = if first == 48 then after_zero most rest else value_in 10 most (first ∷ rest)

-- the number that a text spells, if it is in the range of 32 signed bits
abbrev pub number_of : List ℕ → Option ℤ
number_of [] = None
number_of (first ∷ rest) =
    if first == 45 then option_map (λ n. neg_ℤ (pos n)) (magnitude (2 ^ 31) rest)
    else option_map (λ n. pos n) (magnitude (2 ^ 31 - 1) (first ∷ rest))

-- the number that a text spells, if it is in the range of 64 signed bits
abbrev pub long_number_of : List ℕ → Option ℤ
long_number_of [] = None
long_number_of (first ∷ rest) =
    if first == 45 then option_map (λ n. neg_ℤ (pos n)) (magnitude (2 ^ 63) rest)
    else option_map (λ n. pos n) (magnitude (2 ^ 63 - 1) (first ∷ rest))

-- whether a text is one of some words
abbrev pub is_one_of : List (List ℕ) → List ℕ → Bool
is_one_of [] text = false
is_one_of (word ∷ words) text = bytes_eq text word || is_one_of words text

abbrev pub truth_among : List (List ℕ) → List (List ℕ) → List ℕ → Option Bool
truth_among truths lies text = if is_one_of truths text then Some true else (if is_one_of lies text then Some false else None)

-- the truth value that a word spells: `true`, `True`, `t`, `false`, `False` or `f`
abbrev pub truth_of_word : List ℕ → Option Bool
truth_of_word text = truth_among (codes "true" ∷ codes "True" ∷ codes "t" ∷ []) (codes "false" ∷ codes "False" ∷ codes "f" ∷ []) text

-- the truth value that a number spells: `1` or `0`
abbrev pub truth_of_number : List ℕ → Option Bool
truth_of_number text = truth_among (codes "1" ∷ []) (codes "0" ∷ []) text
