-- A list with another element at a place: what stands there, and elsewhere.
use Rattle.std.proofs.Common.{◌≡◌, ◌≢◌, ℕ, zero, suc, ◌+◌, List, [], ◌∷◌, ◌++◌, length, set, drop, Some, slice_get, ◌⊎◌, inl, inr, ap, sym, refl, ◌∙◌, arith}
use Rattle.std.proofs.lemmas.Option.{none-some}

-- elsewhere nothing has changed
pub get_other : {X : Type 0} (xs : List X) (i j : ℕ) (x : X) → j ≢ i → slice_get (set xs i x) j ≡ slice_get xs j
get_other [] i j x other = refl
get_other (y ∷ xs) zero zero x other = absurd (other refl)
get_other (y ∷ xs) zero (suc j) x other = refl
get_other (y ∷ xs) (suc i) zero x other = refl
get_other (y ∷ xs) (suc i) (suc j) x other = get_other xs i j x (λ e. other (omega (arith, e)))

-- what stands there is what was put there
pub put_there : {X : Type 0} (xs : List X) (i : ℕ) (x y : X) → slice_get (set xs i x) i ≡ Some y → y ≡ x
put_there [] i x y h = absurd cc
put_there (z ∷ xs) zero x y h = (let same : Some x ≡ Some y = h in cc)
put_there (z ∷ xs) (suc i) x y h = put_there xs i x y h

-- putting back what stands there changes nothing
pub same_put : {X : Type 0} (xs : List X) (i : ℕ) (x : X) → slice_get xs i ≡ Some x → set xs i x ≡ xs
same_put [] i x h = refl
same_put {X} (y ∷ xs) zero x h = (let same : Some y ≡ Some x = h in let e : y ≡ x = cc in ap (λ (z : X). z ∷ xs) (sym e))
same_put {X} (y ∷ xs) (suc i) x h = ap (λ (zs : List X). y ∷ zs) (same_put xs i x h)

-- the first elements of a longer list, its last one, and what is left after some first ones
pub get_first : {X : Type 0} (xs ys : List X) (i : ℕ) (x : X) → slice_get xs i ≡ Some x → slice_get (xs ++ ys) i ≡ Some x
get_first [] ys i x h = absurd (none-some x h)
get_first (z ∷ xs) ys zero x h = h
get_first (z ∷ xs) ys (suc i) x h = get_first xs ys i x h

pub get_push : {X : Type 0} (xs : List X) (y : X) (i : ℕ) (x : X) → slice_get (xs ++ y ∷ []) i ≡ Some x → (slice_get xs i ≡ Some x) ⊎ (i ≡ length xs)
get_push [] y zero x h = inr refl
get_push [] y (suc i) x h = absurd (none-some x h)
get_push (z ∷ xs) y zero x h = inl h
get_push (z ∷ xs) y (suc i) x h = elim (get_push xs y i x h) [
  | inl first ↦ inl first
  | inr last ↦ inr (ap suc last)
]

pub get_drop : {X : Type 0} (k : ℕ) (xs : List X) (i : ℕ) → slice_get (drop k xs) i ≡ slice_get xs (k + i)
get_drop zero xs i = ap (slice_get xs) (let same : i ≡ 0 + i = omega arith in same)
get_drop (suc k) [] i = refl
get_drop (suc k) (x ∷ xs) i = get_drop k xs i ∙ ap (slice_get (x ∷ xs)) (let same : suc (k + i) ≡ suc k + i = omega arith in same)
