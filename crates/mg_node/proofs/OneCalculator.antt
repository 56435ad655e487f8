-- If no work is out, the engine of a node with a user-supplied calculator has that calculator.
use Rattle.std.proofs.Common.{rules, ◌≡◌, ℕ, zero, suc, ◌+◌, ◌-◌, Bool, true, List, [], ◌∷◌, ◌++◌, length, map, replicate, All, Option, Some, None, IfSome, IsSome, is_some, slice_get, ◌⊎◌, inl, inr, refl, ap, ap₂, subst, ◌∙◌, arith, if◌then◌else◌}
use Rattle.std.specs.List.{AllByRecursion, filter_map, cons_option}
use Rattle.std.proofs.lemmas.List.Elements.{recursion_from_All}
use Rattle.mg_calc.specs.Rules.{Laws}
use Rattle.mg_calc.specs.declared.plan_node.PlanNode.{PlanNode}
use Rattle.mg_calc.specs.Equations.{sides_of}
use Rattle.mg_calc.specs.Plan.{FlightFits}
use Rattle.mg_calc.specs.Told.{BoxTold}
use Rattle.mg_route.specs.HolderView.{HolderView, FitsHolder, told_by}
use Rattle.mg_node.specs.Views.{ContextView, OutcomeView, EntryView, EngineView}
use Rattle.mg_node.specs.Job.{LoggedJob}
use Rattle.mg_node.specs.Lawful.{of_node, IsWorkOf, LawfulOutcome, IsIdle, StandsAt, IsEntry, IsEngineOf, LawfulEngine}
use Rattle.mg_node.specs.Fresh.{own_told, context_of}
use Rattle.mg_node.specs.Begun.{IsUnbegun, IsHanded, IsUnbegunOf, LawfulUnbegun}
use Rattle.mg_node.specs.Leaving.{calculator_in, calculators_in, handed_told, handed_in, NoneOut, HasCalculator, HasHanded}
use Rattle.mg_node.proofs.Making.{some_same}
use Rattle.mg_node.proofs.HeldRules.{of_node as at_node}

-- a user-supplied calculator
pub one_handed : (held : HolderView) → held.handed ≡ true → filter_map handed_told (held ∷ []) ≡ told_by held ∷ []
one_handed held is = ap (λ (b : Bool). cons_option (let o : Option BoxTold = if b then Some (told_by held) else None in o) []) is

pub boxed_some : (o : Option ℕ) → is_some o ≡ true → IsSome o
boxed_some None is = absurd cc
boxed_some (Some n) is = search rules

-- Where there is one context, it is idle, or its outcome stands in the window.

abbrev pub IsOneContext : List ContextView → List EntryView → Type 0
IsOneContext idle window = ((b : ContextView) × (idle ≡ b ∷ []) × (window ≡ [])) ⊎ ((e : EntryView) × (idle ≡ []) × (window ≡ e ∷ []))

pub one_context : (idle : List ContextView) (window : List EntryView) → length idle + length window ≡ 1 → IsOneContext idle window
one_context [] [] one = absurd cc
one_context [] (e ∷ []) one = inr (e, refl, refl)
one_context [] (e ∷ f ∷ window) one = absurd (omega (arith, one))
one_context (b ∷ []) [] one = inl (b, refl, refl)
one_context (b ∷ []) (e ∷ window) one = absurd (omega (arith, one))
one_context (b ∷ c ∷ idle) window one = absurd (omega (arith, one))

outcome_there : (P : OutcomeView → Type 0) (o : Option OutcomeView) → is_some o ≡ true → IfSome o P → (x : OutcomeView) × (o ≡ Some x) × P x
outcome_there P None some h = absurd cc
outcome_there P (Some x) some h = (x, refl, h)

fits_outcome : {laws : Laws} (job : LoggedJob laws) (number n : ℕ) (node : PlanNode) (e : EntryView) (o : OutcomeView) → StandsAt job number n e.phase o → slice_get job.job.plan.nodes number ≡ Some node → FitsHolder node o.work.context.told
unfolding LawfulOutcome
fits_outcome {laws} job number n node e o stands there =
    let w : IsWorkOf job o = stands.lawful in
    let same : w.node ≡ node = some_same (slice_get job.job.plan.nodes o.work.node) w.node node w.there (ap (λ (k : ℕ). slice_get job.job.plan.nodes k) stands.node_is ∙ there) in
    subst (λ (m : PlanNode). FitsHolder m o.work.context.told) same w.fits

pub calculator_there : {laws : Laws} (job : LoggedJob laws) (number : ℕ) (node : PlanNode) (engine : EngineView) → LawfulEngine job (of_node number) engine → slice_get job.job.plan.nodes number ≡ Some node → is_some node.box_number ≡ true → NoneOut engine
    → HasCalculator job node engine
unfolding LawfulEngine
calculator_there {laws} job number node engine lawful there boxed none_out =
    let h : IsEngineOf job number engine = lawful in
    let same : h.node ≡ node = some_same (slice_get job.job.plan.nodes number) h.node node h.there there in
    let flight : FlightFits node = at_node FlightFits job.job.plan.nodes number node h.solves.is_job.plan.flights there in
    let one : length engine.idle + length engine.window ≡ 1 = h.contexts ∙ h.set_up.in_flight ∙ ap (λ (m : PlanNode). m.in_flight) same ∙ flight.boxed (boxed_some node.box_number boxed) in
    elim (one_context engine.idle engine.window one) [
      | inl b ↦
          (let P : ContextView → Type 0 = IsIdle job h.streams node engine.laid engine.closed in
          let all : All P engine.idle = subst (λ (m : PlanNode). All (IsIdle job h.streams m engine.laid engine.closed) engine.idle) same h.idle in
          let idle : AllByRecursion P (b.0 ∷ []) = subst (AllByRecursion P) b.1 (recursion_from_All P engine.idle all) in
          let only : calculators_in engine ≡ b.0.told ∷ [] = ap₂ (λ (is : List ContextView) (ws : List EntryView). map (λ x. x.told) is ++ filter_map calculator_in ws) b.1 b.2 in
          record {
            held = b.0.told;
            only = only;
            fits = idle.0.fits;
            found = ap (filter_map handed_told) only ∙ one_handed b.0.told (idle.0.fits.same_handed ∙ boxed);
            stands = inl (record { window = b.2; streams = h.streams; solves = h.solves; state = idle.0.state; log = idle.0.log });
          })
      | inr e ↦
          (let Q : EntryView → Type 0 = λ x. is_some x.outcome ≡ true in
          let some : AllByRecursion Q (e.0 ∷ []) = subst (AllByRecursion Q) e.2 (recursion_from_All Q engine.window none_out) in
          let entry : IsEntry job h.streams h.node engine.laid (engine.laid + 0) number e.0 = h.entries 0 e.0 (ap (λ (ws : List EntryView). slice_get ws 0) e.2) in
          let o = outcome_there (λ x. StandsAt job number (engine.laid + 0) e.0.phase x) e.0.outcome some.0 entry.outcome in
          let only : calculators_in engine ≡ o.0.work.context.told ∷ [] =
          ap₂ (λ (is : List ContextView) (ws : List EntryView). map (λ x. x.told) is ++ filter_map calculator_in ws) e.1 e.2
          ∙ ap (λ (x : Option OutcomeView). filter_map calculator_in (record { phase = e.0.phase; outcome = x; committed = e.0.committed } ∷ [])) o.1 in
          let fits = fits_outcome job number (engine.laid + 0) node e.0 o.0 o.2 there in
          record {
            held = o.0.work.context.told;
            only = only;
            fits = fits;
            found = ap (filter_map handed_told) only ∙ one_handed o.0.work.context.told (fits.same_handed ∙ boxed);
            stands = inr (record { entry = e.0; outcome = o.0; window = e.2; there = o.1; held_is = refl; lawful = o.2.lawful });
          })
    ]

-- Before it is begun, the others are the node's own.

own_not : (n : ℕ) (node : PlanNode) (others : List ContextView) (rest : List HolderView)
    → filter_map handed_told (map (λ b. b.told) (replicate n (context_of node (own_told node)) ++ others) ++ rest) ≡ filter_map handed_told (map (λ b. b.told) others ++ rest)
own_not zero node others rest = refl
own_not (suc n) node others rest = own_not n node others rest

own_only : (n : ℕ) (node : PlanNode) (rest : List HolderView) → filter_map handed_told (map (λ b. b.told) (replicate n (context_of node (own_told node))) ++ rest) ≡ filter_map handed_told rest
own_only zero node rest = refl
own_only (suc n) node rest = own_only n node rest

pub handed_there : {laws : Laws} (job : LoggedJob laws) (number : ℕ) (node : PlanNode) (engine : EngineView) → LawfulUnbegun job number engine → slice_get job.job.plan.nodes number ≡ Some node → is_some node.box_number ≡ true → HasHanded job number node engine
unfolding LawfulUnbegun
handed_there {laws} job number node engine lawful there boxed =
    let h : IsUnbegunOf job number engine = lawful in
    let same : h.node ≡ node = some_same (slice_get job.job.plan.nodes number) h.node node h.handed.there there in
    let handed : IsHanded job number node h.told = subst (λ (m : PlanNode). IsHanded job number m h.told) same h.handed in
    let unbegun : IsUnbegun laws node number h.told (sides_of job.job node) engine = subst (λ (m : PlanNode). IsUnbegun laws m number h.told (sides_of job.job m) engine) same h.unbegun in
    elim unbegun [
      | inl fresh ↦ record {
        told = h.told;
        handed = handed;
        held = h.told;
        found = ap handed_in fresh ∙ own_not (node.in_flight - 1) node (context_of node h.told ∷ []) [] ∙ one_handed h.told (handed.fits.same_handed ∙ boxed);
        stands = inl refl;
      }
      | inr o ↦ record {
        told = h.told;
        handed = handed;
        held = o.now;
        found = ap handed_in o.is ∙ own_only (node.in_flight - 1) node (o.now ∷ []) ∙ one_handed o.now (o.opened.same_handed ∙ handed.fits.same_handed ∙ boxed);
        stands = inr (record { answer = o.answer; opened = o.opened });
      }
    ]
