-- How the logic stores what the types of this crate say.
use Rattle.std.proofs.Common.{◌≡◌, ℕ, List, refl, inl, inr, ◌⊎◌}
use Rattle.std.specs.Coded.{Coded, code_by, coded×, coded⊎, coded_ℕ, coded_list}
use Rattle.mg_value.specs.Payload.{Plain}
use Rattle.mg_value.specs.Codes.{plain_code}
use Rattle.mg_calc.specs.Side.{PlainSide, PlainSideValue, given_at, fixed}

abbrev value_cases : PlainSideValue → ℕ ⊎ Plain
value_cases (given_at place) = inl place
value_cases (fixed payload) = inr payload

abbrev value_of : ℕ ⊎ Plain → PlainSideValue
value_of (inl place) = given_at place
value_of (inr payload) = fixed payload

pub value_of_cases : (v : PlainSideValue) → value_of (value_cases v) ≡ v
value_of_cases (given_at place) = refl
value_of_cases (fixed payload) = refl

abbrev pub side_value_code : Coded PlainSideValue
side_value_code = code_by (ℕ ⊎ Plain) (coded⊎ coded_ℕ plain_code) value_cases value_of value_of_cases

abbrev pub side_code : Coded PlainSide
side_code =
    code_by (List ℕ × PlainSideValue) (coded× (coded_list coded_ℕ) side_value_code)
    (λ s. (s.name, s.value)) (λ p. record { name = p.0; value = p.1 }) (λ _. refl)
