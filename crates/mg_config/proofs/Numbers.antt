-- Numbers are read back from their texts.
use Rattle.std.proofs.Common.{ℕ, suc, zero, ◌-◌, ◌^◌, ◌<◌, ◌≤◌, ◌≡◌, List, [], ◌∷◌, Bool, true, false, ◌&&◌, eqb, None, Some, get_or, nat_le, arith, refl, ap, if◌then◌else◌, ℤ, pos, negsuc, neg_ℤ}
use Rattle.std.specs.Prelude.{option_map}
use Rattle.std.specs.List.{list_all}
use Rattle.std.specs.Char.{is_digit}
use Rattle.std.specs.Str.Parse.{digits_value, AllDigits, IsNumeral}
use Rattle.std.specs.Fmt.{decimal, signed_decimal}
use Rattle.std.proofs.lemmas.Bool.Decides.{nat_tests}
use Rattle.std.proofs.lemmas.Fmt.{decimal_digit, decimal_is_IsNumeral, first_decimal}
use Rattle.mg_config.specs.Number.{is_numeral, value_in, magnitude, number_of}
use Rattle.mg_config.specs.Sound.{FitsI32}

-- the bytes of a decimal number pass the test of a digit
digits_pass : (ds : List ℕ) → AllDigits 10 ds → list_all (λ byte. is_digit byte 10) ds ≡ true
digits_pass [] all = refl
digits_pass (d ∷ ds) all = both (is_digit d 10) (list_all (λ byte. is_digit byte 10) ds) (grind (arith, nat_tests)) (digits_pass ds all.1)
  where
    both : (a b : Bool) → a ≡ true → b ≡ true → (a && b) ≡ true
    both a b p q = cc

numeral_passes : (ds : List ℕ) → IsNumeral 10 ds → is_numeral 10 ds ≡ true
numeral_passes [] numeral = absurd (omega arith)
numeral_passes (d ∷ ds) numeral = digits_pass (d ∷ ds) numeral.1

-- the value of a numeral that is small enough
value_back : (most n : ℕ) (ds : List ℕ) → IsNumeral 10 ds → digits_value 10 ds ≡ n → n ≤ most → value_in 10 most ds ≡ Some n
value_back most n ds numeral value small = by (is_numeral 10 ds) (nat_le (digits_value 10 ds) most) (digits_value 10 ds) (numeral_passes ds numeral) (grind (arith, nat_tests)) value
  where
    by : (t u : Bool) (v : ℕ) → t ≡ true → u ≡ true → v ≡ n → (if t && u then Some v else None) ≡ Some n
    by true true v p q h = ap Some h
    by true false v p q h = cc
    by false u v p q h = cc

-- a numeral that doesn't begin with 0
magnitude_back : (most n : ℕ) (ds : List ℕ) → IsNumeral 10 ds → digits_value 10 ds ≡ n → 48 < get_or ds 0 0 → n ≤ most → magnitude most ds ≡ Some n
magnitude_back most n [] numeral value above small = absurd (omega (arith, numeral.0))
magnitude_back most n (first ∷ rest) numeral value above small =
    let other : eqb first 48 ≡ false = grind (arith, nat_tests) in
    rw other (value_back most n (first ∷ rest) numeral value small)

plain_back : (n : ℕ) (ds : List ℕ) → IsNumeral 10 ds → digits_value 10 ds ≡ n → 48 < get_or ds 0 0 → n < 2 ^ 31 → number_of ds ≡ Some (pos n)
plain_back n [] numeral value above small = absurd (omega (arith, numeral.0))
plain_back n (first ∷ rest) numeral value above small =
    let unsigned : eqb first 45 ≡ false = grind (arith, nat_tests) in
    rw unsigned (ap (option_map (λ n. pos n)) (magnitude_back (2 ^ 31 - 1) n (first ∷ rest) numeral value above (omega arith)))

pub number_of-decimal : (n : ℤ) → FitsI32 n → number_of (signed_decimal n) ≡ Some n
number_of-decimal (pos zero) fits = ap number_of (decimal_digit 0 (omega arith))
number_of-decimal (pos (suc n)) fits =
    let is = decimal_is_IsNumeral (suc n) (omega arith) in
    plain_back (suc n) (decimal (suc n)) is.0 is.1 (first_decimal (suc n) (omega arith) (omega arith)) fits
number_of-decimal (negsuc n) fits =
    let is = decimal_is_IsNumeral (suc n) (omega arith) in
    ap (option_map (λ n. neg_ℤ (pos n))) (magnitude_back (2 ^ 31) (suc n) (decimal (suc n)) is.0 is.1 (first_decimal (suc n) (omega arith) (omega arith)) (omega arith))
