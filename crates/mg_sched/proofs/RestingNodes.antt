-- The cell of each node of a net at rest rests.
use Rattle.std.proofs.Common.{◌≡◌, ◌≢◌, ℕ, ◌+◌, ◌-◌, ◌<◌, ◌≤◌, Bool, true, false, nat_lt, List, [], ◌∷◌, length, All, Option, Some, None, slice_get, Result, inl, inr, ◌⊎◌, if◌then◌else◌, refl, sym, ap, ap₂, subst, ◌∙◌, arith}
use Rattle.std.specs.Prelude.{Any}
use Rattle.std.specs.Option.{option_and_then}
use Rattle.std.proofs.lemmas.Bool.{false≢true}
use Rattle.std.proofs.lemmas.Bool.Decides.{nat_tests}
use Rattle.std.proofs.lemmas.List.Elements.{recursion_from_All}
use Rattle.std.proofs.lemmas.Option.{none-some, same_Some, slice_get_within}
use Rattle.mg_calc.specs.Rules.{Laws}
use Rattle.mg_calc.specs.declared.cause.Cause.{Cause}
use Rattle.mg_calc.specs.declared.emission.Laid.{Laid}
use Rattle.mg_calc.specs.declared.event.Event.TheVariants.{Advance, Claim, Perform, Commit}
use Rattle.mg_calc.specs.declared.event.Effect.TheVariants.{Did, Idle}
use Rattle.mg_calc.specs.declared.node_fault.Phase.{Phase}
use Rattle.mg_calc.specs.declared.plan.Plan.{Plan}
use Rattle.mg_calc.specs.declared.plan_node.PlanNode.{PlanNode}
use Rattle.mg_calc.specs.Plan.{FlightFits, source_node}
use Rattle.mg_node.specs.Views.{IntakeView, WorkView, PerformedView, OutcomeView, EntryView, EngineView}
use Rattle.mg_node.specs.Advances.{is_advanced}
use Rattle.mg_node.specs.Claims.{first_unrun, has_ended, IsEarly}
use Rattle.mg_node.specs.Windows.{starts_ready}
use Rattle.mg_node.specs.Job.{LoggedJob}
use Rattle.mg_node.specs.Resting.{IsResting}
use Rattle.mg_node.specs.Shelves.{shelf_of, shelf_at}
use Rattle.mg_node.proofs.Lemmas.{engine_known, nothing_ready}
use Rattle.mg_sched.specs.Views.{WorkQueueView, NetView}
use Rattle.mg_sched.specs.StandsFor.{HasWorks, StandsFor, IsRunning}
use Rattle.mg_sched.specs.Acts.{ClaimsBy, CommittedAt}
use Rattle.mg_sched.specs.AtRest.{IsAtRest}
use Rattle.mg_sched.proofs.Finding.{cell_at, valid}
use Rattle.mg_sched.proofs.PlanEdges.{all_at}
use Rattle.mg_sched.proofs.RestingEdges.{none_throttled}

-- No work lies in a work queue.

none_left : (works : List WorkView) → ((number : ℕ) → All (λ w. w.number ≢ number) works) → works ≡ []
none_left [] other = refl
none_left (w ∷ works) other = absurd ((recursion_from_All (λ (v : WorkView). v.number ≢ w.number) (w ∷ works) (other w.number)).0 refl)

work_queue_clear : (laws : Laws) (net : NetView) (node : ℕ) (work_queue : WorkQueueView) → IsAtRest laws net → node < length net.plan.nodes → slice_get net.work_queues node ≡ Some work_queue → work_queue.works ≡ []
work_queue_clear laws net node work_queue rest within on = none_left work_queue.works (λ number.
    let p = rest (Perform node number) within in
    let same : p.work_queue ≡ work_queue = same_Some p.work_queue work_queue (sym p.on ∙ on) in
    elim p.performed [
      | inl none ↦ subst (λ (d : WorkQueueView). All (λ w. w.number ≢ number) d.works) same none.0
      | inr does ↦ absurd does.performed
    ])

-- Nothing stands in a window as performed and not committed.

none_shelved : (o : Option PerformedView) (node number : ℕ) (engine : EngineView) (net : NetView) → CommittedAt node number o Idle engine net net → o ≡ None
none_shelved None node number engine net c = refl
none_shelved (Some p) node number engine net c = absurd c

shelf_clear : (laws : Laws) (net : NetView) (node number : ℕ) (engine : EngineView) → IsAtRest laws net → node < length net.plan.nodes → slice_get net.engines node ≡ Some engine → shelf_at engine number ≡ None
shelf_clear laws net node number engine rest within at =
    let c = rest (Commit node number) within in
    let same : c.engine ≡ engine = same_Some c.engine engine (sym c.at ∙ at) in
    subst (λ (e : EngineView). shelf_at e number ≡ None) same (none_shelved (shelf_at c.engine number) node number c.engine net c.committed)

-- So a window of an engine that goes on, and in which no work came back unrun, is empty.

none_below : (n : ℕ) → nat_lt n n ≡ false
none_below n = grind (arith, nat_tests)

first_shelf : (engine : EngineView) (entry : EntryView) (entries : List EntryView) → engine.window ≡ entry ∷ entries → shelf_at engine engine.laid ≡ shelf_of entry
first_shelf engine entry entries is =
    let none : engine.laid - engine.laid ≡ 0 = omega arith in
    ap (λ (t : Bool). if t then None else option_and_then shelf_of (slice_get engine.window (engine.laid - engine.laid))) (none_below engine.laid)
    ∙ ap₂ (λ (k : ℕ) (es : List EntryView). option_and_then shelf_of (slice_get es k)) none is

none_out : {laws : Laws} (job : LoggedJob laws) (engine : EngineView) (work_queue : WorkQueueView) (entry : EntryView) (entries : List EntryView) → HasWorks job engine work_queue → work_queue.works ≡ [] → engine.window ≡ entry ∷ entries → entry.outcome ≡ None → ⊥
none_out {laws} job engine work_queue entry entries works clear is out =
    let some : Any (λ w. w.number ≡ engine.laid + 0) [] = subst (Any (λ w. w.number ≡ engine.laid + 0)) clear (works.complete 0 entry (ap (λ (es : List EntryView). slice_get es 0) is) out) in
    let less = some.2 in
    absurd (omega (arith, less))

not_both : {X : Type 0} (x : X) (o : Option X) → o ≡ Some x → o ≡ None → ⊥
not_both x o some none = none-some x (sym none ∙ some)

by_answer : (phase : Phase) (work : WorkView) (answer : Option (Result (List Laid) Cause)) (committed : Bool) (entries : List EntryView) (entry : EntryView) → entry ≡ record { phase = phase; outcome = Some (record { work = work; answer = answer }); committed = committed }
    → shelf_of entry ≡ None → first_unrun 0 (entry ∷ entries) ≡ None → starts_ready (entry ∷ entries) ≡ false → ⊥
by_answer phase work None committed entries entry is shelf unrun ready = not_both 0 (first_unrun 0 (entry ∷ entries)) (ap (λ (e : EntryView). first_unrun 0 (e ∷ entries)) is) unrun
by_answer phase work (Some answer) true entries entry is shelf unrun ready = false≢true (sym ready ∙ ap (λ (e : EntryView). starts_ready (e ∷ entries)) is)
by_answer phase work (Some answer) false entries entry is shelf unrun ready = not_both (record { work = work; answer = answer }) (shelf_of entry) (ap shelf_of is) shelf

by_outcome : {laws : Laws} (job : LoggedJob laws) (engine : EngineView) (work_queue : WorkQueueView) (entry : EntryView) (entries : List EntryView) (outcome : Option OutcomeView) → entry.outcome ≡ outcome → HasWorks job engine work_queue → work_queue.works ≡ [] → engine.window ≡ entry ∷ entries
    → shelf_at engine engine.laid ≡ None → first_unrun 0 (entry ∷ entries) ≡ None → starts_ready (entry ∷ entries) ≡ false → ⊥
by_outcome {laws} job engine work_queue entry entries None outcome works clear is shelf unrun ready = none_out job engine work_queue entry entries works clear is outcome
by_outcome {laws} job engine work_queue entry entries (Some o) outcome works clear is shelf unrun ready =
    by_answer entry.phase o.work o.answer entry.committed entries entry (ap (λ (x : Option OutcomeView). let e : EntryView = record { phase = entry.phase; outcome = x; committed = entry.committed } in e) outcome)
    (sym (first_shelf engine entry entries is) ∙ shelf) unrun ready

window_clear : {laws : Laws} (job : LoggedJob laws) (engine : EngineView) (work_queue : WorkQueueView) (window : List EntryView) → engine.window ≡ window → HasWorks job engine work_queue → work_queue.works ≡ [] → shelf_at engine engine.laid ≡ None → first_unrun 0 window ≡ None → starts_ready window ≡ false
    → window ≡ []
window_clear {laws} job engine work_queue [] is works clear shelf unrun ready = refl
window_clear {laws} job engine work_queue (entry ∷ entries) is works clear shelf unrun ready = absurd (by_outcome job engine work_queue entry entries entry.outcome refl works clear is shelf unrun ready)

-- A claim that does nothing.
claims_none : (engine engine_now : EngineView) (intake intake_now : IntakeView) (work_queue work_queue_now : WorkQueueView) → ClaimsBy Idle engine engine_now intake intake_now work_queue work_queue_now → 1 ≤ engine.in_flight
    → (has_ended engine ≡ false → first_unrun 0 engine.window ≡ None → engine.window ≡ []) → (has_ended engine ≡ true) ⊎ ((engine.window ≡ []) × IsEarly engine.role intake.waits)
claims_none engine engine_now intake intake_now work_queue work_queue_now c some clear = elim c.0 [
  | inl early ↦ inr (clear early.0.goes early.0.none, early.1)
  | inr (inl full) ↦ (let none = ap length (clear full.0 full.1) in let most = full.2 in absurd (omega (arith, none, most, some)))
  | inr (inr (inl draining)) ↦ (let none = ap length (clear draining.0.goes draining.0.none) in let more = draining.2 in absurd (omega (arith, none, more)))
  | inr (inr (inr ended)) ↦ inl ended.0
]

-- An advance that does nothing.
not_advanced : (b : Bool) → Idle ≡ (if b then Did else Idle) → b ≡ false
not_advanced true e = absurd cc
not_advanced false e = refl

pub cell_rests : {laws : Laws} (job : LoggedJob laws) (net : NetView) (number : ℕ) (node : PlanNode) (engine : EngineView) (intake : IntakeView) (work_queue : WorkQueueView) → StandsFor job net → IsRunning net → IsAtRest laws net → slice_get net.plan.nodes number ≡ Some node
    → slice_get net.engines number ≡ Some engine → slice_get net.intakes number ≡ Some intake → slice_get net.work_queues number ≡ Some work_queue → IsResting engine intake
unfolding StandsFor
cell_rests {laws} job net number node engine intake work_queue h running rest there at to on =
    let within = slice_get_within net.plan.nodes number node there in
    let cell = cell_at job net number engine intake work_queue h running within at to on in
    let known = engine_known job number engine node cell.lawful_engine (subst (λ (plan : Plan). slice_get plan.nodes number ≡ Some node) h.plan there) in
    let flight = (all_at FlightFits net.plan.nodes number node there (valid net (record { job = job; stands = h })).flights).some in
    let flights = known.set_up.in_flight in
    let some : 1 ≤ engine.in_flight = omega (arith, flight, flights) in
    let a = rest (Advance number) within in
    let same_engine : a.engine ≡ engine = same_Some a.engine engine (sym a.at ∙ at) in
    let same_intake : a.intake ≡ intake = same_Some a.intake intake (sym a.to ∙ to) in
    let clear : has_ended engine ≡ false → first_unrun 0 engine.window ≡ None → engine.window ≡ [] = λ goes unrun.
    window_clear job engine work_queue engine.window refl cell.works (work_queue_clear laws net number work_queue rest within on) (shelf_clear laws net number engine.laid engine rest within at) unrun (nothing_ready job number engine cell.lawful_engine goes) in
    record {
      claims = elim (rest (Claim number) within) [
        | inl held ↦ absurd (none_throttled laws net (source_node number) rest held.0.throttled)
        | inr (other, c) ↦
            (let first : c.engine ≡ engine = same_Some c.engine engine (sym c.at ∙ at) in
            let second : c.intake ≡ intake = same_Some c.intake intake (sym c.to ∙ to) in
            claims_none engine c.engine_now intake c.intake_now c.work_queue c.work_queue_now
            (subst (λ (i : IntakeView). ClaimsBy Idle engine c.engine_now i c.intake_now c.work_queue c.work_queue_now) second (subst (λ (g : EngineView). ClaimsBy Idle g c.engine_now c.intake c.intake_now c.work_queue c.work_queue_now) first c.claims)) some clear)
      ];
      raised = ap₂ (λ (g : EngineView) (i : IntakeView). is_advanced g i.waits) (sym same_engine) (sym same_intake) ∙ not_advanced (is_advanced a.engine a.intake.waits) a.effect_is;
    }
