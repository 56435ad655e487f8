-- There is a solution: the first round that the equations leave unchanged. Whether a round is one can be told, since each is
-- extended by the next.
use Rattle.std.proofs.Common.{◌≡◌, ℕ, zero, suc, ◌<◌, ◌≤◌, length, length-append, List, [], ◌∷◌, ◌++◌, append-nil, None, refl, sym, ap, ap₂, subst, ◌∙◌, arith, inl, inr, ◌⊎◌}
use Rattle.std.proofs.lemmas.Bool.{cases_lt}
use Rattle.std.proofs.lemmas.List.{nil_from_length}
use Rattle.mg_value.specs.Payload.{Plain}
use Rattle.mg_settled.specs.Prefix.{StreamPrefix}
use Rattle.mg_settled.specs.Extension.{IsExtendedBy, AreExtendedBy}
use Rattle.mg_settled.proofs.Lemmas.{same_prefix}
use Rattle.mg_calc.specs.declared.law.Law.{Law}
use Rattle.mg_calc.specs.Plan.{IsValid}
use Rattle.mg_calc.specs.Equations.{Job, outcome_of, next_round, round, MeetsEquations, IsSolution}
use Rattle.mg_calc.proofs.Rounds.{IsKnown}
use Rattle.mg_calc.proofs.Solutions.{round_keeps, rounds_ascend}
use Rattle.mg_calc.proofs.Positions.{parts_flat}
use Rattle.mg_calc.proofs.Holding.{Held, held_round}
use Rattle.mg_calc.proofs.Settling.{Stands, iterate, rest_settles}

-- Without a node that is held, held rounds are rounds.
abbrev nothing_held : Held
nothing_held = λ k. None

free_round : (job : Job) (xs : List (StreamPrefix Plain)) → held_round job nothing_held xs ≡ next_round job xs
free_round job xs = ap (λ rest. job.inputs.streams ++ rest) (parts_flat (λ node. (outcome_of job xs node).outputs) 0 job.plan.nodes)

free_rounds : (job : Job) (n : ℕ) → iterate job nothing_held n (round job 0) ≡ round job n
free_rounds job zero = refl
free_rounds job (suc n) = free_round job (iterate job nothing_held n (round job 0)) ∙ ap (next_round job) (free_rounds job n)

-- there is a round that meets the equations
pub a_round_meets : (job : Job) → IsKnown job → IsValid job.plan → length job.inputs.streams ≡ length job.plan.inputs → (n : ℕ) × MeetsEquations job (round job n)
a_round_meets job known valid many =
    let start : Stands job nothing_held (round job 0) = record {
      keeps = round_keeps job known 0;
      rises = subst (AreExtendedBy (round job 0)) (sym (free_round job (round job 0))) (rounds_ascend job known 0);
    } in
    let settled = rest_settles job.plan.order [] job nothing_held (round job 0) (record { known = known; valid = valid; many = many }) refl (λ k node at. tt) tt start in
    let n = settled.0 in
    (n, sym (free_round job (round job n)) ∙ (ap (held_round job nothing_held) (sym (free_rounds job n)) ∙ (settled.1 ∙ free_rounds job n)))

-- whether a round meets them can be told, since it is extended by the next
same_further : (s t : StreamPrefix Plain) (e : IsExtendedBy s t) → e.further ≡ [] → t.bound ≤ s.bound → s ≡ t
same_further s t e none le =
    same_prefix s t (sym (e.packets ∙ (ap (λ ps. s.packets ++ ps) none ∙ append-nil s.packets))) (let up = e.bound in omega (arith, up, le))

same_or_not : (s t : StreamPrefix Plain) → IsExtendedBy s t → (s ≡ t) ⊎ ¬ (s ≡ t)
same_or_not s t e = elim (cases_lt (length s.packets) (length t.packets)) [
  | inl more ↦ inr (λ same. let lengths = ap (λ (u : StreamPrefix Plain). length u.packets) same in omega (arith, more, lengths))
  | inr few ↦ elim (cases_lt s.bound t.bound) [
    | inl higher ↦ inr (λ same. let bounds = ap (λ (u : StreamPrefix Plain). u.bound) same in omega (arith, higher, bounds))
    | inr low ↦ inl (same_further s t e (nil_from_length e.further (let long = ap length e.packets in omega (arith, few, long, length-append s.packets e.further))) low)
  ]
]

all_same_or_not : (xs ys : List (StreamPrefix Plain)) → AreExtendedBy xs ys → (xs ≡ ys) ⊎ ¬ (xs ≡ ys)
all_same_or_not [] [] e = inl refl
all_same_or_not [] (y ∷ ys) e = absurd e
all_same_or_not (x ∷ xs) [] e = absurd e
all_same_or_not (x ∷ xs) (y ∷ ys) e = elim (same_or_not x y e.0) [
  | inr other ↦ inr (λ same. other (ap (λ l. (elim l [ [] ↦ x | h ∷ t ↦ h ])) same))
  | inl same ↦ elim (all_same_or_not xs ys e.1) [
    | inr others ↦ inr (λ all. others (ap (λ l. (elim l [ [] ↦ xs | h ∷ t ↦ t ])) all))
    | inl all ↦ inl (ap₂ (λ (h : StreamPrefix Plain) (t : List (StreamPrefix Plain)). h ∷ t) same all)
  ]
]

meets_or_not : (job : Job) → IsKnown job → (n : ℕ) → MeetsEquations job (round job n) ⊎ ¬ MeetsEquations job (round job n)
meets_or_not job known n = elim (all_same_or_not (round job n) (round job (suc n)) (rounds_ascend job known n)) [
  | inl same ↦ inl (sym same)
  | inr other ↦ inr (λ meets. other (sym meets))
]

-- the first of them
record FirstRound (job : Job) : Type 0 where
  pub number : ℕ
  pub meets : MeetsEquations job (round job number)
  pub first : (earlier : ℕ) → earlier < number → ¬ MeetsEquations job (round job earlier)

first_round : (job : Job) → IsKnown job → (n : ℕ) → FirstRound job ⊎ ((earlier : ℕ) → earlier < n → ¬ MeetsEquations job (round job earlier))
first_round job known zero = inr (λ earlier le. absurd (omega (arith, le)))
first_round job known (suc n) = elim (first_round job known n) [
  | inl found ↦ inl found
  | inr none ↦ elim (meets_or_not job known n) [
    | inl meets ↦ inl (record { number = n; meets = meets; first = none })
    | inr other ↦ inr (λ earlier le. elim (cases_lt earlier n) [
      | inl before ↦ none earlier before
      | inr after ↦ (let here : earlier ≡ n = omega (arith, le, after) in λ meets. other (subst (λ (k : ℕ). MeetsEquations job (round job k)) here meets))
    ])
  ]
]

pub a_solution : (job : Job) → IsKnown job → IsValid job.plan → length job.inputs.streams ≡ length job.plan.inputs → (streams : List (StreamPrefix Plain)) × IsSolution job streams
a_solution job known valid many =
    let settled = a_round_meets job known valid many in
    elim (first_round job known (suc settled.0)) [
      | inl found ↦ (round job found.number, record { number = found.number; reached = refl; meets = found.meets; first = found.first })
      | inr none ↦ absurd (none settled.0 (omega arith) settled.1)
    ]
