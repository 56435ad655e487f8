-- Side packets that stand in the graph: all of them.
use Rattle.std.proofs.Common.{ℕ, ◌≤◌, ◌≡◌, inl, inr, List, [], ◌∷◌, ◌++◌, length, drop, min, refl, sym, ap, ◌∙◌}
use Rattle.std.specs.Borrow.{Bor}
use Rattle.std.specs.declared.sync.Arc.{Arc}
use Rattle.mg_value.specs.declared.payload.Payload.{Payload}
use Rattle.mg_calc.specs.Side.{PlainSide}
use Rattle.mg_kinds.specs.Kinds.{names_of}
use Rattle.mg_kinds.specs.Views.{plain_of}
use Rattle.mg_check.specs.Code.Streams.{fixed_by}
use Rattle.mg_check.proofs.Filling.{none_left, past_one}

no_constants : (names : List (List ℕ)) → fixed_by names [] ≡ []
no_constants [] = refl
no_constants (n ∷ names) = refl

nothing_more : {X : Type 0} (xs : List X) → xs ++ [] ≡ xs
nothing_more [] = refl
nothing_more (x ∷ xs) = ap (λ l. x ∷ l) (nothing_more xs)

pub fixed_end : {Z : Type 0} (out all : List PlainSide) (names : List (Bor (List ℕ))) (constants : List (Arc Payload Z)) (i end : ℕ) → end ≤ i → end ≡ min (length names) (length constants)
    → out ++ fixed_by (names_of (drop i names)) (plain_of (drop i constants)) ≡ all → out ≡ all
fixed_end out all names constants i end past is known =
    let none : fixed_by (names_of (drop i names)) (plain_of (drop i constants)) ≡ [] = elim (past_one (length names) (length constants) i end past is) [
      | inl few ↦ ap (λ l. fixed_by (names_of l) (plain_of (drop i constants))) (none_left names i few)
      | inr few ↦ ap (λ l. fixed_by (names_of (drop i names)) (plain_of l)) (none_left constants i few) ∙ no_constants (names_of (drop i names))
    ] in
    sym (nothing_more out) ∙ (ap (λ l. out ++ l) (sym none) ∙ known)
