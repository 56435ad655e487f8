-- Bytes beyond ASCII, and octal digits: their classes and their values.
use Rattle.std.proofs.Common.{arith, ◌≤◌, ◌≡◌, ℕ, ◌-◌, true, Some}
use Rattle.std.proofs.lemmas.Bool.Decides.{nat_tests}
use Rattle.mg_text.specs.declared.parts.Class.TheVariants.{Beyond}
use Rattle.mg_text.specs.declared.parts.Tail.{Tail}
use Rattle.mg_text.specs.Byte.{below_digits, digit_class, upper_class, lower_class, class_of, is_octal, lead}
use Rattle.mg_text.specs.Grammar.{is_first_octal, octal}
use Rattle.mg_text.specs.Code.Machine.{digit_onto}

pub beyond_class : (b : ℕ) → 128 ≤ b → class_of b ≡ Beyond
unfolding class_of
beyond_class b h = grind (arith, nat_tests)

pub lead_least : (b : ℕ) (t : Tail) → lead b ≡ Some t → 128 ≤ b
lead_least b t e = grind (arith, nat_tests)

pub lead_beyond : (b : ℕ) (t : Tail) → lead b ≡ Some t → class_of b ≡ Beyond
lead_beyond b t e = beyond_class b (lead_least b t e)

pub octal_digit : (b : ℕ) → is_octal (class_of b) ≡ true → b - 48 ≤ 7
unfolding class_of below_digits digit_class upper_class lower_class
octal_digit b e = grind (arith, nat_tests)

pub first_octal_digit : (b : ℕ) → is_first_octal (class_of b) ≡ true → b - 48 ≤ 1
unfolding class_of below_digits digit_class upper_class lower_class
first_octal_digit b e = grind (arith, nat_tests)

pub octal_value : (i j k : ℕ) → i - 48 ≤ 1 → j - 48 ≤ 7 → k - 48 ≤ 7 → octal i j k ≡ digit_onto (digit_onto (i - 48) j) k
octal_value i j k f g h = omega arith
