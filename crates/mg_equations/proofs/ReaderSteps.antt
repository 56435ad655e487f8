-- The lists of readers grow.
use Rattle.std.proofs.Common.{◌≡◌, ℕ, ◌+◌, ◌<◌, ◌≤◌, List, [], ◌∷◌, ◌++◌, All, Some, length, take, set, slice_get, get_or, length-set, get_or-set_same, get_or-set_other, inl, inr, sym, ap, ◌∙◌, subst, arith}
use Rattle.std.specs.Prelude.{Contains}
use Rattle.std.proofs.lemmas.Bool.{cases_eq, cases_lt}
use Rattle.std.proofs.lemmas.Option.{same_Some}
use Rattle.std.proofs.lemmas.List.{take_more}
use Rattle.std.proofs.lemmas.List.Elements.{Contains-append_left, Contains-push, Contains-push_cases, All-push}
use Rattle.mg_calc.specs.declared.plan.Plan.{Plan}
use Rattle.mg_calc.specs.declared.plan_node.PlanNode.{PlanNode}
use Rattle.mg_equations.specs.Code.Readers.{HasReaders, IsAdded}

-- a row is put at a place
put_same : (rows : List (List ℕ)) (s t : ℕ) (row : List ℕ) → s < length rows → t ≡ s → get_or (set rows s row) t [] ≡ row
put_same rows s t row below same = ap (λ n. get_or (set rows s row) n []) same ∙ get_or-set_same rows s row [] below

pub added_more : (inputs : List ℕ) (node : ℕ) (before now then : List (List ℕ)) (i s : ℕ) (row : List ℕ) → IsAdded (take i inputs) node before now → i < length inputs → s ≡ get_or inputs i s → s < length now
    → row ≡ get_or now s [] ++ node ∷ [] → then ≡ set now s row → IsAdded (take (i + 1) inputs) node before then
added_more inputs node before now then i s row h below is there row_is then_is =
    subst (λ (rows : List (List ℕ)). IsAdded (take (i + 1) inputs) node before rows) (sym then_is) (record {
      many = length-set now s row ∙ h.many;
      stays = λ t k c. grows t k (h.stays t k c);
      there = λ t c. elim (Contains-push_cases (take i inputs) (get_or inputs i s) t (subst (λ (l : List ℕ). Contains l t) (take_more inputs i s below) c)) [
        | inl early ↦ grows t node (h.there t early)
        | inr last ↦ subst (λ (l : List ℕ). Contains l node) (sym (put_same now s t row there (sym last ∙ sym is) ∙ row_is)) (Contains-push (get_or now s []) node)
      ];
      within = λ count t small all. elim (cases_eq t s) [
        | inl same ↦ subst (λ (l : List ℕ). All (λ k. k < count) l) (sym (put_same now s t row there same ∙ row_is))
            (All-push (λ k. k < count) (get_or now s []) node (h.within count s small (subst (λ n. All (λ k. k < count) (get_or before n [])) same all)) small)
        | inr other ↦ subst (λ (l : List ℕ). All (λ k. k < count) l) (sym (get_or-set_other now s t row [] other)) (h.within count t small all)
      ];
    })
  where
    grows : (t k : ℕ) → Contains (get_or now t []) k → Contains (get_or (set now s row) t []) k
    grows t k c = elim (cases_eq t s) [
      | inl same ↦ subst (λ (l : List ℕ). Contains l k) (sym (put_same now s t row there same ∙ row_is)) (Contains-append_left (get_or now s []) (node ∷ []) k (subst (λ n. Contains (get_or now n []) k) same c))
      | inr other ↦ subst (λ (l : List ℕ). Contains l k) (sym (get_or-set_other now s t row [] other)) c
    ]

pub has_more : (plan : Plan) (k : ℕ) (node : PlanNode) (before now : List (List ℕ)) → HasReaders plan k before → k < length plan.nodes → slice_get plan.nodes k ≡ Some node → IsAdded node.inputs k before now → HasReaders plan (k + 1) now
has_more plan k node before now h below at added = record {
  many = added.many ∙ h.many;
  there = λ j other s early there c. elim (cases_lt j k) [
    | inl before_it ↦ added.stays s j (h.there j other s before_it there c)
    | inr after ↦
        (let same : j ≡ k = omega (arith, early, after) in
        let is : other ≡ node = same_Some other node (sym there ∙ ap (slice_get plan.nodes) same ∙ at) in
        subst (Contains (get_or now s [])) (sym same) (added.there s (subst (λ (n : PlanNode). Contains n.inputs s) is c)))
  ];
  within = λ s. added.within (length plan.nodes) s below (h.within s);
}

pub has_all : (plan : Plan) (i n : ℕ) (readers : List (List ℕ)) → HasReaders plan i readers → n ≤ i → HasReaders plan n readers
has_all plan i n readers h over = record {
  many = h.many;
  there = λ k node s early at c. h.there k node s (omega (arith, early, over)) at c;
  within = h.within;
}
