-- A state of places has no number and has counted nothing.
use Rattle.std.proofs.Common.{◌≡◌, pos, List, [], ◌∷◌, map, Option, Some, None, refl}
use Rattle.mg_time.specs.Time.{pre_stream}
use Rattle.mg_value.specs.Plain.{Plain}
use Rattle.mg_calc.specs.Values.{stored}
use Rattle.mg_calc.specs.State.{number_in, count_in, next_valid}

number_in-place : (o : Option Plain) (rest : List Plain) → number_in (stored o ∷ rest) ≡ pos 0
number_in-place None rest = refl
number_in-place (Some p) rest = refl

count_in-place : (o : Option Plain) (rest : List Plain) → count_in (stored o ∷ rest) ≡ 0
count_in-place None rest = refl
count_in-place (Some p) rest = refl

next_valid-place : (o : Option Plain) (rest : List Plain) → next_valid (stored o ∷ rest) ≡ pre_stream
next_valid-place None rest = refl
next_valid-place (Some p) rest = refl

module _ {X : Type 0} (f : X → Option Plain) where
  pub number_in-places : (xs : List X) → number_in (map (λ x. stored (f x)) xs) ≡ pos 0
  number_in-places [] = refl
  number_in-places (x ∷ xs) = number_in-place (f x) (map (λ x. stored (f x)) xs)

  pub count_in-places : (xs : List X) → count_in (map (λ x. stored (f x)) xs) ≡ 0
  count_in-places [] = refl
  count_in-places (x ∷ xs) = count_in-place (f x) (map (λ x. stored (f x)) xs)

  pub next_valid-places : (xs : List X) → next_valid (map (λ x. stored (f x)) xs) ≡ pre_stream
  next_valid-places [] = refl
  next_valid-places (x ∷ xs) = next_valid-place (f x) (map (λ x. stored (f x)) xs)
