-- Sums over lists: each term stays or falls, and if a term falls the sum falls.
use Rattle.std.proofs.Common.{◌≡◌, ℕ, zero, suc, ◌+◌, ◌<◌, ◌≤◌, List, [], ◌∷◌, map, set, sum_by, Some, slice_get, ap, refl, subst, sym, ◌∙◌, arith}
use Rattle.std.proofs.lemmas.List.Sums.{sum_by-cons, sum_by-set}
use Rattle.std.proofs.lemmas.Option.{none-some, same_Some, slice_get_within, get_or_from_slice_get}

pub sums_no_more : {X : Type 0} (f g : X → ℕ) (xs : List X) → ((i : ℕ) (x : X) → slice_get xs i ≡ Some x → g x ≤ f x) → sum_by g xs ≤ sum_by f xs
sums_no_more f g [] low = omega arith
sums_no_more f g (x ∷ xs) low =
    let here = low 0 x refl in
    let rest = sums_no_more f g xs (λ i y at. low (suc i) y at) in
    omega (arith, here, rest, sum_by-cons f x xs, sum_by-cons g x xs)

pub sums_fall : {X : Type 0} (f g : X → ℕ) (xs : List X) (i : ℕ) (x : X) → ((j : ℕ) (y : X) → slice_get xs j ≡ Some y → g y ≤ f y) → slice_get xs i ≡ Some x → g x < f x → sum_by g xs < sum_by f xs
sums_fall f g [] i x low at less = absurd (none-some x at)
sums_fall {X} f g (y ∷ xs) zero x low at less =
    let here : g y < f y = subst (λ (z : X). g z < f z) (sym (same_Some y x at)) less in
    let rest = sums_no_more f g xs (λ j z there. low (suc j) z there) in
    omega (arith, here, rest, sum_by-cons f y xs, sum_by-cons g y xs)
sums_fall f g (y ∷ xs) (suc i) x low at less =
    let here = low 0 y refl in
    let rest = sums_fall f g xs i x (λ j z there. low (suc j) z there) at less in
    omega (arith, here, rest, sum_by-cons f y xs, sum_by-cons g y xs)

-- a mapped list
pub sum_mapped : {X Y : Type 0} (f : Y → ℕ) (h : X → Y) (xs : List X) → sum_by f (map h xs) ≡ sum_by (λ x. f (h x)) xs
sum_mapped f h [] = refl
sum_mapped f h (x ∷ xs) =
    let rest = sum_mapped f h xs in
    omega (arith, rest, sum_by-cons f (h x) (map h xs), sum_by-cons (λ y. f (h y)) x xs)

-- another element at a place
pub sum_put : {X : Type 0} (f : X → ℕ) (xs : List X) (i : ℕ) (x y : X) → slice_get xs i ≡ Some x → sum_by f (set xs i y) + f x ≡ sum_by f xs + f y
sum_put f xs i x y at = ap (λ (n : ℕ). sum_by f (set xs i y) + n) (ap f (sym (get_or_from_slice_get xs i x x at))) ∙ sum_by-set f xs i y x (slice_get_within xs i x at)
