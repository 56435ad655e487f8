-- Digits, one after another.
use Rattle.std.proofs.Common.{ℕ, ◌+◌, ◌*◌, ◌<◌, ◌≤◌, ◌≡◌, List, [], ◌∷◌, Bool, true, false, None, Some, length, take, get_or, arith, refl, sym, ap, ◌∙◌, if◌then◌else◌, nat_le, ◌&&◌}
use Rattle.std.specs.List.{list_all}
use Rattle.std.specs.Char.{is_digit, digit_value}
use Rattle.std.specs.Str.Parse.{digits_value}
use Rattle.std.proofs.lemmas.Bool.Decides.{nat_tests}
use Rattle.std.proofs.lemmas.List.{take_all}
use Rattle.std.proofs.lemmas.List.Folds.{list_all_more, list_all_at}
use Rattle.std.proofs.lemmas.Int.Digits.{digits_value_more}
use Rattle.std.proofs.lemmas.Str.Parse.{digits_value-take-le}
use Rattle.mg_config.specs.Number.{digit_of, is_numeral, value_in}

-- the digits so far
pub record AreRead (base most : ℕ) (ds : List ℕ) (i value : ℕ) : Type 0 where
  pub digits : list_all (λ byte. is_digit byte base) (take i ds) ≡ true
  pub so_far : value ≡ digits_value base (take i ds)
  pub bound : value ≤ most

is_digit_by : (base byte d : ℕ) → Some d ≡ digit_of base byte → (is_digit byte base ≡ true) × (d ≡ digit_value byte)
is_digit_by base byte d e = by (is_digit byte base) e
  where
    same : (a b : ℕ) → Some a ≡ Some b → a ≡ b
    same a b h = cc

    by : (t : Bool) → Some d ≡ (if t then Some (digit_value byte) else None) → (t ≡ true) × (d ≡ digit_value byte)
    by true h = (refl, same d (digit_value byte) h)
    by false h = cc

no_digit_by : (base byte : ℕ) → None ≡ digit_of base byte → is_digit byte base ≡ false
no_digit_by base byte e = by (is_digit byte base) e
  where
    by : (t : Bool) → None ≡ (if t then Some (digit_value byte) else None) → t ≡ false
    by true h = cc
    by false h = refl

pub one_more : (base most : ℕ) (ds : List ℕ) (i value d : ℕ) → i < length ds → AreRead base most ds i value → Some d ≡ digit_of base (get_or ds i 0)
    → value * base + d ≤ most → AreRead base most ds (i + 1) (value * base + d)
one_more base most ds i value d inside read digit small =
    let known = is_digit_by base (get_or ds i 0) d digit in
    record {
      digits = list_all_more (λ byte. is_digit byte base) ds i 0 inside ∙ both (list_all (λ byte. is_digit byte base) (take i ds)) (is_digit (get_or ds i 0) base) read.digits known.0;
      so_far = sum value d (digits_value base (take i ds)) (digit_value (get_or ds i 0)) read.so_far known.1 ∙ sym (digits_value_more base ds i inside);
      bound = small;
    }
  where
    both : (a b : Bool) → a ≡ true → b ≡ true → (a && b) ≡ true
    both a b p q = cc

    sum : (v d w e : ℕ) → v ≡ w → d ≡ e → v * base + d ≡ w * base + e
    sum v d w e p q = cc

numeral_is : (base : ℕ) (ds : List ℕ) → 0 < length ds → is_numeral base ds ≡ list_all (λ byte. is_digit byte base) ds
numeral_is base [] some = absurd (omega arith)
numeral_is base (d ∷ ds) some = refl

pub refused : (base most : ℕ) (ds : List ℕ) (i : ℕ) → i < length ds → None ≡ digit_of base (get_or ds i 0) → None ≡ value_in base most ds
refused base most ds i inside none = by (is_numeral base ds) (numeral_is base ds (omega arith) ∙ list_all_at (λ byte. is_digit byte base) ds i 0 inside (no_digit_by base (get_or ds i 0) none))
  where
    by : (t : Bool) → t ≡ false → None ≡ (if t && nat_le (digits_value base ds) most then Some (digits_value base ds) else None)
    by true h = cc
    by false h = refl

pub too_large : (base most : ℕ) (ds : List ℕ) (i value d : ℕ) → 1 ≤ base → i < length ds → AreRead base most ds i value → Some d ≡ digit_of base (get_or ds i 0)
    → most < value * base + d → None ≡ value_in base most ds
too_large base most ds i value d some inside read digit large =
    let known = is_digit_by base (get_or ds i 0) d digit in
    let here : value * base + d ≡ digits_value base (take (i + 1) ds) = sum value d (digits_value base (take i ds)) (digit_value (get_or ds i 0)) read.so_far known.1 ∙ sym (digits_value_more base ds i inside) in
    let up = digits_value-take-le base ds (i + 1) some in
    let over : most < digits_value base ds = omega arith in
    by (is_numeral base ds) (nat_le (digits_value base ds) most) (grind (arith, nat_tests))
  where
    sum : (v d w e : ℕ) → v ≡ w → d ≡ e → v * base + d ≡ w * base + e
    sum v d w e p q = cc

    by : (t u : Bool) → u ≡ false → None ≡ (if t && u then Some (digits_value base ds) else None)
    by true true h = cc
    by true false h = refl
    by false u h = refl

pub at_end : (base most : ℕ) (ds : List ℕ) (i value : ℕ) → 0 < length ds → length ds ≤ i → AreRead base most ds i value → Some value ≡ value_in base most ds
at_end base most ds i value some past read =
    let all = take_all i ds past in
    let numeral : is_numeral base ds ≡ true = numeral_is base ds some ∙ sym (ap (list_all (λ byte. is_digit byte base)) all) ∙ read.digits in
    let whole : value ≡ digits_value base ds = read.so_far ∙ ap (digits_value base) all in
    by (is_numeral base ds) (nat_le (digits_value base ds) most) (digits_value base ds) numeral (grind (arith, nat_tests)) whole
  where
    by : (t u : Bool) (n : ℕ) → t ≡ true → u ≡ true → value ≡ n → Some value ≡ (if t && u then Some n else None)
    by true true n p q h = ap Some h
    by true false n p q h = cc
    by false u n p q h = cc
