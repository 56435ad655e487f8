-- The walk along links from some places: each place that was found has its links found once it has had its turn.
use Rattle.std.proofs.Common.{ℕ, suc, zero, ◌+◌, ◌<◌, ◌≤◌, ◌≡◌, ⊎_elim, List, [], ◌∷◌, ◌++◌, Some, Bool, true, ◌||◌, ◌==◌, sym, ap, ◌∙◌, length, arith, take, subst}
use Rattle.std.specs.Prelude.{slice_get}
use Rattle.std.proofs.lemmas.Bool.Decides.{nat_tests}
use Rattle.mg_subgraph.specs.Code.Places.{listed, flag_at}
use Rattle.mg_subgraph.proofs.Flags.{listed-push}
use Rattle.mg_subgraph.proofs.Joins.{or_left, or_right, or_cases}

-- what the walk keeps: the places from `next` on are still to have their turn
pub record IsWalk (links : List (List ℕ)) (start : List ℕ) (flags : List Bool) (places : List ℕ) (next : ℕ) : Type 0 where
  pub started : (place : ℕ) → listed place start ≡ true → flag_at flags place ≡ true
  pub turned : (place : ℕ) (list : List ℕ) (other : ℕ) → listed place (take next places) ≡ true → slice_get links place ≡ Some list → listed other list ≡ true → flag_at flags other ≡ true
  pub least : (test : ℕ → Bool) → ((place : ℕ) → listed place start ≡ true → test place ≡ true)
      → ((place : ℕ) (list : List ℕ) (other : ℕ) → test place ≡ true → slice_get links place ≡ Some list → listed other list ≡ true → test other ≡ true)
      → (place : ℕ) → flag_at flags place ≡ true → test place ≡ true
  pub within : next ≤ length places

take_suc : {X : Type 0} (xs : List X) (n : ℕ) (x : X) → slice_get xs n ≡ Some x → take (suc n) xs ≡ take n xs ++ x ∷ []
take_suc [] n x here = cc
take_suc (y ∷ xs) zero x here = let same : y ≡ x = cc in ap (λ z. z ∷ []) same
take_suc (y ∷ xs) (suc n) x here = ap (λ l. y ∷ l) (take_suc xs n x here)

pub take_next : {X : Type 0} (xs : List X) (n : ℕ) (x : X) → slice_get xs n ≡ Some x → take (n + 1) xs ≡ take n xs ++ x ∷ []
take_next xs n x here = let count : n + 1 ≡ suc n = omega arith in ap (λ k. take k xs) count ∙ take_suc xs n x here

-- a place has its turn
pub walk_turns : (links : List (List ℕ)) (start : List ℕ) (old new : List Bool) (before after : List ℕ) (next place : ℕ) (list : List ℕ)
    → next < length before → slice_get before next ≡ Some place → slice_get links place ≡ Some list → flag_at old place ≡ true
    → ((other : ℕ) → flag_at new other ≡ (listed other list || flag_at old other)) → take (next + 1) after ≡ take (next + 1) before → length before ≤ length after
    → IsWalk links start old before next → IsWalk links start new after (next + 1)
walk_turns links start old new before after next place list inside here linked set added front longer walk = record {
  started = λ p known. added p ∙ or_right (listed p list) (flag_at old p) (walk.started p known);
  turned = λ p l other turned at known.
      added other
      ∙ (⊎_elim
      (λ same.
      let equal : p ≡ place = grind (arith, nat_tests) in
      let lists : Some l ≡ Some list = sym at ∙ (ap (slice_get links) equal ∙ linked) in
      let one : l ≡ list = cc in
      or_left (listed other list) (flag_at old other) (subst (λ m. listed other m ≡ true) one known))
      (λ earlier. or_right (listed other list) (flag_at old other) (walk.turned p l other earlier at known))
      (or_cases (p == place) (listed p (take next before))
      (sym (listed-push (take next before) place p) ∙ (ap (listed p) (sym (front ∙ take_next before next place here)) ∙ turned))));
  least = λ test started closed p known.
      ⊎_elim
      (λ linked_to. closed place list p (walk.least test started closed place set) linked linked_to)
      (λ earlier. walk.least test started closed p earlier)
      (or_cases (listed p list) (flag_at old p) (sym (added p) ∙ known));
  within = omega arith;
}
