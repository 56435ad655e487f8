-- The two names of times that a packet may carry are texts of no number.
use Rattle.std.proofs.Common.{◌≡◌, ◌<◌, ◌^◌, ◌↔◌, inl, inr, ℕ, suc, ℤ, pos, negsuc, List, ◌∷◌, Some, codes, FitsSigned, arith, rules, subst}
use Rattle.std.specs.Int.{w64}
use Rattle.std.specs.Fmt.{decimal, signed_decimal}
use Rattle.std.specs.Str.Parse.{IsNumeral}
use Rattle.std.proofs.lemmas.Int.{ints}
use Rattle.std.proofs.lemmas.Fmt.{decimal_is_IsNumeral}
use Rattle.mg_time.specs.Time.{raw_of, pre_stream, post_stream, IsRange}
use Rattle.mg_time.specs.Text.{Spells}

-- A time of the range has a number of 64 signed bits.
number_fits : (t : ℕ) → IsRange t → FitsSigned w64 (raw_of t)
number_fits t range = search (rules, ints)

-- Digits begin with no letter P.
no_digit : (digits rest : List ℕ) → IsNumeral 10 digits → digits ≡ 80 ∷ rest → ⊥
no_digit digits rest numeral e =
    let first : IsNumeral 10 (80 ∷ rest) = subst (IsNumeral 10) e numeral in
    absurd (omega (arith, first.1.0))

-- A minus sign is no letter P.
no_sign : (digits rest : List ℕ) → 45 ∷ digits ≡ 80 ∷ rest → ⊥
no_sign digits rest e = cc

-- A number begins with no letter P.
no_letter : (z : ℤ) (rest : List ℕ) → FitsSigned w64 z → signed_decimal z ≡ 80 ∷ rest → ⊥
no_letter (pos n) rest fits e =
    let few : n < 2 ^ 64 = omega (arith, fits.sfits) in
    no_digit (decimal n) rest (decimal_is_IsNumeral n few).0 e
no_letter (negsuc n) rest fits e = no_sign (decimal (suc n)) rest e

-- PreStream spells that time alone.
pub reads_pre_stream : (text : List ℕ) → text ≡ codes "PreStream" → (t : ℕ) → (Some pre_stream ≡ Some t) ↔ Spells text t
reads_pre_stream text e t = (
  λ same. inl (e, cc),
  λ spells. elim spells [
    | inl p ↦ cc
    | inr (inl p) ↦ absurd (cc)
    | inr (inr p) ↦ let it : signed_decimal (raw_of t) ≡ codes "PreStream" = cc in absurd (no_letter (raw_of t) _ (number_fits t p.0) it)
  ],
)

-- PostStream spells that time alone.
pub reads_post_stream : (text : List ℕ) → text ≡ codes "PostStream" → (t : ℕ) → (Some post_stream ≡ Some t) ↔ Spells text t
reads_post_stream text e t = (
  λ same. inr (inl (e, cc)),
  λ spells. elim spells [
    | inl p ↦ absurd (cc)
    | inr (inl p) ↦ cc
    | inr (inr p) ↦ let it : signed_decimal (raw_of t) ≡ codes "PostStream" = cc in absurd (no_letter (raw_of t) _ (number_fits t p.0) it)
  ],
)
