-- The edges by the places from which they lead, one more at a time.
use Rattle.std.proofs.Common.{◌≡◌, ℕ, zero, suc, ◌+◌, ◌<◌, ◌≤◌, List, Option, Some, None, length, get_or, slice_set, replicate, refl, ap, sym, ◌∙◌, subst, inl, inr, arith, get_or-set_same, get_or-set_other}
use Rattle.std.proofs.lemmas.Bool.{cases_eq}
use Rattle.std.proofs.lemmas.List.{get_or-replicate, get_or_default, length-replicate}
use Rattle.std.proofs.lemmas.Option.{none-some, same_Some, slice_get_within}
use Rattle.mg_calc.specs.declared.plan.Plan.{Plan}
use Rattle.mg_sched.specs.Places.{source_of}
use Rattle.mg_sched.specs.Code.Agendas.{LeadOn, LeadsFrom, IsFirstFrom, AreLeads}
use Rattle.mg_sched.proofs.Leading.{lead_more}

-- an edge leads from one place
one_place : (plan : Plan) (p q edge : ℕ) → LeadsFrom plan p edge → LeadsFrom plan q edge → p ≡ q
one_place plan p q edge one two =
    let e = same_Some one.0 two.0 (sym one.1 ∙ two.1) in
    same_Some p q (sym one.2 ∙ (ap (source_of plan) e ∙ two.2))

-- the first edge from a number on is also the first from the number before it, if the edge of that number leads from elsewhere
first_before : (plan : Plan) (low place : ℕ) (o : Option ℕ) → ¬ LeadsFrom plan place low → IsFirstFrom plan (low + 1) place o → IsFirstFrom plan low place o
first_before plan low place None elsewhere h = λ edge from leads. elim (cases_eq edge low) [
  | inl same ↦ elsewhere (subst (LeadsFrom plan place) same leads)
  | inr other ↦ h edge (omega (arith, from, other)) leads
]
first_before plan low place (Some x) elsewhere h =
    (let above = h.0 in (
      omega (arith, above),
      h.1,
      λ other from less leads. elim (cases_eq other low) [
        | inl same ↦ elsewhere (subst (LeadsFrom plan place) same leads)
        | inr apart ↦ h.2 other (omega (arith, from, apart)) less leads
      ],
    ))

pub leads_none : (plan : Plan) (places edges low : ℕ) (heads links : List (Option ℕ)) → heads ≡ replicate places None → low ≡ length plan.edges → AreLeads plan low heads links
leads_none plan places edges low heads links is all = record {
  first = λ place within.
      (let long : length heads ≡ places = ap (λ (l : List (Option ℕ)). length l) is ∙ length-replicate places None in
      subst (IsFirstFrom plan low place) (sym (ap (λ (l : List (Option ℕ)). get_or l place None) is ∙ get_or-replicate places place None None (omega (arith, within, long))))
      (λ edge from leads. past edge from leads));
  next = λ place edge from leads. absurd (past edge from leads);
}
  where
    past : {place : ℕ} (edge : ℕ) → low ≤ edge → LeadsFrom plan place edge → ⊥
    past edge from leads = (let within = slice_get_within plan.edges edge leads.0 leads.1 in omega (arith, from, all, within))

nothing_there : (n i : ℕ) → (let o : Option ℕ = get_or (replicate n None) i None in o) ≡ None
nothing_there zero i = refl
nothing_there (suc n) zero = refl
nothing_there (suc n) (suc i) = nothing_there n i

pub lead_none : (low count a b : ℕ) (heads links : List (Option ℕ)) → heads ≡ replicate a None → links ≡ replicate b None → LeadOn low count heads links
lead_none low count a b heads links heads_are links_are = record {
  first = λ place edge at. absurd (none-some edge (sym (ap (λ (l : List (Option ℕ)). get_or l place None) heads_are ∙ nothing_there a place) ∙ at));
  next = λ edge later at. absurd (none-some later (sym (ap (λ (l : List (Option ℕ)). get_or l edge None) links_are ∙ nothing_there b edge) ∙ at));
}

-- no place goes on along an edge
pub lead_nowhere : (count a : ℕ) (heads starts links : List (Option ℕ)) → heads ≡ replicate a None → LeadOn 0 count starts links → LeadOn 0 count heads links
lead_nowhere count a heads starts links are h = record {
  first = λ place edge at. absurd (none-some edge (sym (ap (λ (l : List (Option ℕ)). get_or l place None) are ∙ nothing_there a place) ∙ at));
  next = h.next;
}

pub lead_more_by : (low edges place : ℕ) (heads links now next : List (Option ℕ)) → LeadOn (low + 1) edges heads links → place < length heads → low < length links → low < edges → now ≡ slice_set heads place (Some low)
    → next ≡ slice_set links low (get_or heads place None) → LeadOn low edges now next
lead_more_by low edges place heads links now next h place_within edge_within is_edge now_is next_is =
    subst (λ (l : List (Option ℕ)). LeadOn low edges l next) (sym now_is)
    (subst (λ (l : List (Option ℕ)). LeadOn low edges (slice_set heads place (Some low)) l) (sym next_is)
    (lead_more low edges place heads links (get_or heads place None) h place_within edge_within is_edge (get_or_default heads place None (get_or heads place None) place_within)))

pub leads_more : (plan : Plan) (low place : ℕ) (heads links now next : List (Option ℕ)) → AreLeads plan (low + 1) heads links → place < length heads → low < length links → LeadsFrom plan place low
    → now ≡ slice_set heads place (Some low) → next ≡ slice_set links low (get_or heads place None) → length now ≡ length heads → AreLeads plan low now next
leads_more plan low place heads links now next h place_within edge_within from now_is next_is long = record {
  first = λ p within. elim (cases_eq p place) [
    | inl same ↦
        subst (IsFirstFrom plan low p)
        (sym (ap (λ (l : List (Option ℕ)). get_or l p None) now_is ∙ (ap (λ (k : ℕ). get_or (slice_set heads place (Some low)) k None) same ∙ get_or-set_same heads place (Some low) None place_within)))
        (omega arith, subst (λ (k : ℕ). LeadsFrom plan k low) (sym same) from, λ other low_is less leads. absurd (omega (arith, low_is, less)))
    | inr other ↦
        subst (IsFirstFrom plan low p)
        (sym (ap (λ (l : List (Option ℕ)). get_or l p None) now_is ∙ get_or-set_other heads place p (Some low) None other))
        (first_before plan low p (get_or heads p None) (λ leads. other (one_place plan p place low leads from)) (h.first p (omega (arith, within, long))))
  ];
  next = λ p edge above leads. elim (cases_eq edge low) [
    | inl same ↦
        (let here : p ≡ place = one_place plan p place low (subst (LeadsFrom plan p) same leads) from in
        subst (IsFirstFrom plan (edge + 1) p)
        (sym (ap (λ (l : List (Option ℕ)). get_or l edge None) next_is ∙ (ap (λ (k : ℕ). get_or (slice_set links low (get_or heads place None)) k None) same ∙ get_or-set_same links low (get_or heads place None) None edge_within)))
        (subst (λ (k : ℕ). IsFirstFrom plan (k + 1) p (get_or heads place None)) (sym same) (subst (λ (k : ℕ). IsFirstFrom plan (low + 1) k (get_or heads place None)) (sym here) (h.first place place_within))))
    | inr other ↦
        subst (IsFirstFrom plan (edge + 1) p)
        (sym (ap (λ (l : List (Option ℕ)). get_or l edge None) next_is ∙ get_or-set_other links low edge (get_or heads place None) None other))
        (h.next p edge (omega (arith, above, other)) leads)
  ];
}
