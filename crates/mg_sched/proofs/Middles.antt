-- Lists that lose an element from their middle.
use Rattle.std.proofs.Common.{◌≡◌, ℕ, zero, suc, ◌<◌, List, [], ◌∷◌, ◌++◌, length, get_or, All, ◌⊎◌, inl, inr, sym, refl, subst, arith}
use Rattle.std.specs.Prelude.{AllPairs, Any}
use Rattle.std.specs.List.{AllByRecursion}
use Rattle.std.proofs.lemmas.List.Elements.{All-from_recursion, recursion_from_All}
use Rattle.std.proofs.lemmas.List.Kept.{AllPairs-cons}

module _ {X : Type 0} (P : X → Type 0) where
  middle_by : (front back : List X) (x : X) → AllByRecursion P (front ++ x ∷ back) → AllByRecursion P (front ++ back) × P x
  middle_by [] back x all = (all.1, all.0)
  middle_by (y ∷ front) back x all = (let rest = middle_by front back x all.1 in ((all.0, rest.0), rest.1))

  -- all of the other elements, and this one
  pub all_middle : (front back : List X) (x : X) → All P (front ++ x ∷ back) → All P (front ++ back) × P x
  all_middle front back x all =
      (let both = middle_by front back x (recursion_from_All P (front ++ x ∷ back) all) in
      (All-from_recursion P (front ++ back) both.0, both.1))

  -- one of them, by recursion
  abbrev AnyOf : List X → Type 0
  AnyOf [] = ⊥
  AnyOf (x ∷ xs) = P x ⊎ AnyOf xs

  any_of : (xs : List X) (k : ℕ) (x : X) → k < length xs → get_or xs k x ≡ x → P x → AnyOf xs
  any_of [] k x less read holds = absurd (omega (arith, less))
  any_of (y ∷ xs) zero x less read holds = inl (subst P (sym read) holds)
  any_of (y ∷ xs) (suc k) x less read holds = inr (any_of xs k x (omega (arith, less)) read holds)

  any_from : (xs : List X) → AnyOf xs → Any P xs
  any_from [] any = absurd any
  any_from (y ∷ xs) (inl here) = (0, y, omega arith, refl, here)
  any_from (y ∷ xs) (inr later) = (let a = any_from xs later in let less = a.2 in (suc a.0, a.1, omega (arith, less), a.3, a.4))

  any_others : (front back : List X) (x : X) → (P x → ⊥) → AnyOf (front ++ x ∷ back) → AnyOf (front ++ back)
  any_others [] back x not (inl here) = absurd (not here)
  any_others [] back x not (inr later) = later
  any_others (y ∷ front) back x not (inl here) = inl here
  any_others (y ∷ front) back x not (inr later) = inr (any_others front back x not later)

  any_longer : (xs ys : List X) → AnyOf xs → AnyOf (xs ++ ys)
  any_longer [] ys any = absurd any
  any_longer (x ∷ xs) ys (inl here) = inl here
  any_longer (x ∷ xs) ys (inr later) = inr (any_longer xs ys later)

  -- one of the other elements, if it isn't this one
  pub any_middle : (front back : List X) (x : X) → (P x → ⊥) → Any P (front ++ x ∷ back) → Any P (front ++ back)
  any_middle front back x not any = any_from (front ++ back) (any_others front back x not (any_of (front ++ x ∷ back) any.0 any.1 any.2 any.3 any.4))

  -- one of the first ones
  pub any_first : (xs ys : List X) → Any P xs → Any P (xs ++ ys)
  any_first xs ys any = any_from (xs ++ ys) (any_longer xs ys (any_of xs any.0 any.1 any.2 any.3 any.4))

-- pairs: those of the other elements, and each other element with this one
module _ {X : Type 0} (R : X → X → Type 0) (turned : (x y : X) → R x y → R y x) where
  pairs_head : (x : X) (xs : List X) → AllPairs R (x ∷ xs) → All (R x) xs
  pairs_head x xs pairs = λ k d less. pairs 0 (suc k) d (omega arith) (omega (arith, less))

  pairs_tail : (x : X) (xs : List X) → AllPairs R (x ∷ xs) → AllPairs R xs
  pairs_tail x xs pairs = λ i j d below less. pairs (suc i) (suc j) d (omega (arith, below)) (omega (arith, less))

  pub pairs_middle : (front back : List X) (x : X) → AllPairs R (front ++ x ∷ back) → AllPairs R (front ++ back) × AllByRecursion (λ y. R y x) (front ++ back)
  pairs_middle [] back x pairs = (
    pairs_tail x back pairs,
    recursion_from_All (λ y. R y x) back (λ k d less. turned x (get_or back k d) (pairs_head x back pairs k d less)),
  )
  pairs_middle (y ∷ front) back x pairs =
      (let rest = pairs_middle front back x (pairs_tail y (front ++ x ∷ back) pairs) in
      let own = all_middle (R y) front back x (pairs_head y (front ++ x ∷ back) pairs) in
      (AllPairs-cons R y (front ++ back) own.0 rest.0, (own.1, rest.1)))

  -- and each of all the other elements with this one
  pub pairs_with : (front back : List X) (x : X) → AllPairs R (front ++ x ∷ back) → All (λ y. R y x) (front ++ back)
  pairs_with front back x pairs = All-from_recursion (λ y. R y x) (front ++ back) (pairs_middle front back x pairs).1

-- what holds of both
pub all_both : {X : Type 0} (P Q S : X → Type 0) (xs : List X) → ((x : X) → P x → Q x → S x) → All P xs → All Q xs → All S xs
all_both P Q S xs both p q = λ k d less. both (get_or xs k d) (p k d less) (q k d less)
