-- Numbers from one on, in order, and before those of an order.
use Rattle.std.proofs.Common.{◌≡◌, ◌≢◌, ℕ, zero, suc, ◌+◌, ◌-◌, ◌<◌, ◌≤◌, List, ◌∷◌, [], ◌++◌, All, Contains, AllPairs, ap, sym, ◌∙◌, subst, inl, inr, arith}
use Rattle.std.specs.List.{range_with_len}
use Rattle.std.proofs.lemmas.Bool.{cases_lt}
use Rattle.std.proofs.lemmas.List.{append-nil}
use Rattle.std.proofs.lemmas.List.Elements.{All-append, All-weaker, Contains-append_left, Contains-append_right}
use Rattle.std.proofs.lemmas.List.FromFn.{length-range_with_len, get_or-range_with_len}
use Rattle.std.proofs.lemmas.List.Kept.{AllPairs-cons}
use Rattle.mg_calc.specs.Plan.{HasEachOnce}

-- one number more
pub range_more : (a n j : ℕ) → a + n ≡ j → range_with_len a (suc n) ≡ range_with_len a n ++ j ∷ []
range_more a zero j is = let start : a ≡ j = omega (arith, is) in ap (λ k. k ∷ []) start
range_more a (suc n) j is = ap (λ l. a ∷ l) (range_more (a + 1) n j (omega (arith, is)))

range_has : (a n m : ℕ) → a ≤ m → m < a + n → Contains (range_with_len a n) m
range_has a n m from below =
    let k : ℕ = m - a in
    let within : k < n = omega (arith, from, below) in
    let at : a + k ≡ m = omega (arith, from) in
    (k, omega (arith, within, length-range_with_len a n), get_or-range_with_len a n k m within ∙ at)

range_all : (P : ℕ → Type 0) (a n : ℕ) → ((k : ℕ) → a ≤ k → k < a + n → P k) → All P (range_with_len a n)
range_all P a n each k d within =
    let inside : k < n = omega (arith, within, length-range_with_len a n) in
    subst P (sym (get_or-range_with_len a n k d inside)) (each (a + k) (omega arith) (omega (arith, inside)))

-- numbers of their own, before those of an order
range_apart : (low a n : ℕ) (order : List ℕ) → low ≤ a → All (λ m. m < low) order → AllPairs ◌≢◌ order → AllPairs ◌≢◌ (range_with_len a n ++ order)
range_apart low a zero order from below once = once
range_apart low a (suc n) order from below once =
    AllPairs-cons ◌≢◌ a (range_with_len (a + 1) n ++ order)
    (All-append (λ m. a ≢ m) (range_with_len (a + 1) n) order
    (range_all (λ m. a ≢ m) (a + 1) n (λ k above _. omega (arith, above)))
    (All-weaker (λ m. m < low) (λ m. a ≢ m) (λ m less. omega (arith, less, from)) order below))
    (range_apart low (a + 1) n order (omega (arith, from)) below once)

-- each number below a count
pub each_below : (count : ℕ) → HasEachOnce count (range_with_len 0 count)
each_below count = record {
  there = λ m within. range_has 0 count m (omega arith) (omega (arith, within));
  below = range_all (λ m. m < count) 0 count (λ k _ less. omega (arith, less));
  once = subst (AllPairs ◌≢◌) (append-nil (range_with_len 0 count)) (range_apart 0 0 count [] (omega arith) (λ k d less. absurd (omega (arith, less))) (λ i j a b less. absurd (omega (arith, less))));
}

-- an order of numbers, and before it those from there up to a count
pub each_once_before : (low n count : ℕ) (order : List ℕ) → low + n ≡ count → HasEachOnce low order → HasEachOnce count (range_with_len low n ++ order)
each_once_before low n count order is h = record {
  there = λ m within. elim (cases_lt m low) [
    | inl less ↦ Contains-append_right (range_with_len low n) order m (h.there m less)
    | inr past ↦ Contains-append_left (range_with_len low n) order m (range_has low n m past (omega (arith, is, within)))
  ];
  below = All-append (λ m. m < count) (range_with_len low n) order
      (range_all (λ m. m < count) low n (λ k _ less. omega (arith, is, less)))
      (All-weaker (λ m. m < low) (λ m. m < count) (λ m less. omega (arith, is, less)) order h.below);
  once = range_apart low low n order (omega arith) h.below h.once;
}
