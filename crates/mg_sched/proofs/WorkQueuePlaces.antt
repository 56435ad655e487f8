-- Works in a work queue by their places.
use Rattle.std.proofs.Common.{◌≡◌, ◌≢◌, ℕ, zero, suc, ◌+◌, ◌<◌, ◌≤◌, List, [], ◌∷◌, ◌++◌, length, take, drop, All, Some, IsSomeAnd, slice_get, ap, refl, subst, ◌∙◌, arith}
use Rattle.std.specs.List.{AllByRecursion}
use Rattle.std.proofs.lemmas.List.Elements.{All-from_recursion, recursion_from_All}
use Rattle.mg_node.specs.Views.{WorkView}
use Rattle.mg_sched.specs.Views.{WorkQueueView}
use Rattle.mg_sched.specs.Code.WorkQueues.{TakesFrom}

-- what all of the first have, and the next one too
more : {X : Type 0} (P : X → Type 0) (xs : List X) (n : ℕ) (x : X) → AllByRecursion P (take n xs) → slice_get xs n ≡ Some x → P x → AllByRecursion P (take (suc n) xs)
more P [] n x h at p = absurd cc
more P (y ∷ xs) zero x h at p = (subst P (cc) p, tt)
more P (y ∷ xs) (suc n) x h at p = (h.0, more P xs n x h.1 at p)

one_more : (n : ℕ) → suc n ≡ n + 1
one_more n = omega arith

pub take_more : {X : Type 0} (P : X → Type 0) (xs : List X) (n : ℕ) (x : X) → All P (take n xs) → slice_get xs n ≡ Some x → P x → All P (take (n + 1) xs)
take_more P xs n x h at p = subst (λ (m : ℕ). All P (take m xs)) (one_more n) (All-from_recursion P (take (suc n) xs) (more P xs n x (recursion_from_All P (take n xs) h) at p))

pub take_whole : {X : Type 0} (P : X → Type 0) (xs : List X) (n : ℕ) → length xs ≤ n → All P (take n xs) → All P xs
take_whole P xs n past h = subst (All P) (whole xs n past) h
  where
    whole : {X : Type 0} (xs : List X) (n : ℕ) → length xs ≤ n → take n xs ≡ xs
    whole [] n past = none n
      where
        none : {X : Type 0} (n : ℕ) → take n (let e : List X = [] in e) ≡ []
        none zero = refl
        none (suc n) = refl
    whole (x ∷ xs) zero past = absurd (omega (arith, past))
    whole (x ∷ xs) (suc n) past = ap (λ ys. x ∷ ys) (whole xs n (omega (arith, past)))

pub other_number : (a b c : ℕ) → c ≡ a → c ≢ b → a ≢ b
other_number a b c is other same = other (is ∙ same)

-- a list around one of its elements
split_at_next : {X : Type 0} (xs : List X) (i : ℕ) (x : X) → slice_get xs i ≡ Some x → (xs ≡ take i xs ++ x ∷ drop (suc i) xs) × (length (take i xs) ≡ i)
split_at_next [] i x at = absurd cc
split_at_next (y ∷ xs) zero x at = (cc, refl)
split_at_next (y ∷ xs) (suc i) x at = (let h = split_at_next xs i x at in (ap (λ ys. y ∷ ys) h.0, ap suc h.1))

split_at : {X : Type 0} (xs : List X) (i : ℕ) (x : X) → slice_get xs i ≡ Some x → (xs ≡ take i xs ++ x ∷ drop (i + 1) xs) × (length (take i xs) ≡ i)
split_at xs i x at = subst (λ (m : ℕ). (xs ≡ take i xs ++ x ∷ drop m xs) × (length (take i xs) ≡ i)) (one_more i) (split_at_next xs i x at)

pub taken_from : (number place : ℕ) (work : WorkView) (before now : WorkQueueView) → slice_get before.works place ≡ Some work → work.number ≡ number → now ≡ record before { works = take place before.works ++ drop (place + 1) before.works }
    → TakesFrom number place work before now
taken_from number place work before now at number_is left =
    let h = split_at before.works place work at in
    record { front = take place before.works; back = drop (place + 1) before.works; place_is = h.1; works = h.0; number_is = number_is; left = left }

-- the element that is found at a place has what was found of it
pub found_has : {X : Type 0} (P : X → Type 0) (xs : List X) (i : ℕ) (x : X) → IsSomeAnd (slice_get xs i) P → slice_get xs i ≡ Some x → P x
found_has P [] i x h at = absurd h
found_has P (y ∷ xs) zero x h at = subst P (cc) h
found_has P (y ∷ xs) (suc i) x h at = found_has P xs i x h at

pub found_there : {X : Type 0} (P : X → Type 0) (xs : List X) (i : ℕ) → IsSomeAnd (slice_get xs i) P → i < length xs
found_there P [] i h = absurd h
found_there P (x ∷ xs) zero h = omega arith
found_there P (x ∷ xs) (suc i) h = (let l = found_there P xs i h in omega (arith, l))
