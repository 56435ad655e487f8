-- Marks of numbers, one by one, and what isn't marked.
use Rattle.std.proofs.Common.{◌≡◌, ℕ, ◌+◌, ◌<◌, Bool, true, false, not, ◌||◌, cond, eqb, List, [], ◌∷◌, ◌++◌, filter, get_or, slice_set, inl, inr, ◌∙◌, sym, ap, refl, arith, append-nil, eq-eqb, length-set, get_or-set_same, get_or-set_other}
use Rattle.std.proofs.lemmas.Bool.{cases_eq, or_right, ne_eqb}
use Rattle.std.proofs.lemmas.List.{map-id}
use Rattle.std.proofs.lemmas.List.FromFn.{filter_of_map_range_with_len_more}
use Rattle.std.specs.List.{range_with_len}
use Rattle.mg_check.specs.Order.{is_among, left_out}
use Rattle.mg_check.specs.Code.Taking.{HasMarks, is_marked}
use Rattle.mg_check.proofs.OrderFacts.{among-push}

pub or_false : (b : Bool) → (b || false) ≡ b
or_false true = refl
or_false false = refl

-- the marks of one more number
pub HasMarks-push : (count : ℕ) (ns : List ℕ) (m : ℕ) (marks : List Bool) → m < count → HasMarks count ns marks → HasMarks count (ns ++ m ∷ []) (slice_set marks m true)
HasMarks-push count ns m marks within old = record {
  len = length-set marks m true ∙ old.len;
  marked = λ n below. elim (cases_eq n m) [
    | inl same ↦ ap (λ k. get_or (slice_set marks m true) k false) same ∙ get_or-set_same marks m true false (let l = old.len in omega arith)
        ∙ sym (among-push ns m n ∙ or_right (is_among ns n) (eqb n m) (eq-eqb n m same))
    | inr other ↦ get_or-set_other marks m n true false other ∙ old.marked n below
        ∙ sym (among-push ns m n ∙ ap (λ b. is_among ns n || b) (ne_eqb n m other) ∙ or_false (is_among ns n))
  ];
}

-- what is left out of one more number
pub left_out-more : (order : List ℕ) (n : ℕ) → left_out (n + 1) order ≡ left_out n order ++ cond (not (is_among order n)) (n ∷ []) []
left_out-more order n =
    let out : ℕ → Bool = λ m. not (is_among order m) in
    ap (filter out) (sym (map-id (range_with_len 0 (n + 1))))
    ∙ filter_of_map_range_with_len_more out (λ (m : ℕ). m) 0 n n (omega arith)
    ∙ ap (λ xs. filter out xs ++ cond (out n) (n ∷ []) []) (map-id (range_with_len 0 n))

pub left_out-yes : (count n : ℕ) (order out : List ℕ) (marks : List Bool) → n < count → HasMarks count order marks → is_marked marks n ≡ false → out ≡ left_out n order
    → out ++ n ∷ [] ≡ left_out (n + 1) order
left_out-yes count n order out marks within has unmarked old =
    let fails : is_among order n ≡ false = sym (has.marked n within) ∙ unmarked in
    ap (λ xs. xs ++ n ∷ []) old ∙ sym (left_out-more order n ∙ ap (λ b. left_out n order ++ cond (not b) (n ∷ []) []) fails)

pub left_out-no : (count n : ℕ) (order out : List ℕ) (marks : List Bool) → n < count → HasMarks count order marks → is_marked marks n ≡ true → out ≡ left_out n order
    → out ≡ left_out (n + 1) order
left_out-no count n order out marks within has marked old =
    let passes : is_among order n ≡ true = sym (has.marked n within) ∙ marked in
    old ∙ sym (left_out-more order n ∙ ap (λ b. left_out n order ++ cond (not b) (n ∷ []) []) passes ∙ append-nil (left_out n order))
