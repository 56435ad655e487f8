-- Works that come back to their window, and are taken from it, leave an engine lawful for every job.
use Rattle.std.proofs.Common.{◌≡◌, ℕ, ◌+◌, ◌-◌, ◌≤◌, Bool, true, false, List, length, set, Option, Some, None, IfSome, IsSome, option_map, option_and_then, Result, slice_get, count_by as number_of, nat_lt, inl, inr, ap, sym, refl, subst, ◌∙◌, arith, if◌then◌else◌}
use Rattle.std.proofs.lemmas.List.{length-set}
use Rattle.std.proofs.lemmas.Bool.Decides.{nat_tests}
use Rattle.mg_value.specs.Payload.{Plain}
use Rattle.mg_settled.specs.Prefix.{StreamPrefix}
use Rattle.mg_calc.specs.Rules.{Laws}
use Rattle.mg_calc.specs.declared.cause.Cause.{Cause}
use Rattle.mg_calc.specs.declared.emission.Laid.{Laid}
use Rattle.mg_calc.specs.declared.node_fault.Phase.{Phase}
use Rattle.mg_calc.specs.declared.plan_node.PlanNode.{PlanNode}
use Rattle.mg_node.specs.Views.{PerformedView, OutcomeView, EntryView, EngineView}
use Rattle.mg_node.specs.Job.{LoggedJob, IsTask}
use Rattle.mg_node.specs.Lawful.{is_close, IsWorkOf, StandsAt, IsEntry, IsEngineOf, LawfulEngine, of_node, LawfulOutcome, LawfulPerformed}
use Rattle.mg_node.specs.Shelves.{IsOut, back, shelved, outcome_of, performed_of, shelf_of, shelf_at, IsTakenOut, Unshelves}
use Rattle.mg_node.proofs.ClaimsKeep.{set_get, number_set}
use Rattle.mg_node.proofs.FrontWaits.{set_waits}

-- what a window has in place of an engine's
pub record HasWindow {laws : Laws} (job : LoggedJob laws) (streams : List (StreamPrefix Plain)) (node : PlanNode) (number : ℕ) (engine : EngineView) (window : List EntryView) : Type 0 where
  pub order : engine.laid + length window ≡ engine.claimed + number_of (λ e. is_close e.phase) window
  pub entries : (i : ℕ) (entry : EntryView) → slice_get window i ≡ Some entry → IsEntry job streams node engine.laid (engine.laid + i) number entry
  pub contexts : length engine.idle + length window ≡ engine.in_flight

-- an entry is put in place of an entry of the same phase. Its outcome, if there is one, stands there, and it is committed only with an
-- answer.
pub entry_window : {laws : Laws} (job : LoggedJob laws) (number : ℕ) (engine : EngineView) (place : ℕ) (entry now : EntryView) (h : IsEngineOf job number engine) → slice_get engine.window place ≡ Some entry → now.phase ≡ entry.phase → (now.committed ≡ true → IsSome now.outcome × IfSome now.outcome (λ o. IsSome o.answer))
    → IfSome now.outcome (λ o. StandsAt job number (engine.laid + place) now.phase o) → HasWindow job h.streams h.node number engine (set engine.window place now)
entry_window {laws} job number engine place entry now h there phase committed stands =
    let order = h.order in
    let contexts = h.contexts in
    record {
      order = omega (arith, order, length-set engine.window place now, number_set engine.window place entry now there (ap is_close phase));
      entries = (λ i x at. elim (set_get engine.window place i now x at) [
        | inl same ↦ h.entries i x same
        | inr here ↦
            subst (λ (y : EntryView). IsEntry job h.streams h.node engine.laid (engine.laid + i) number y) here.1
            (subst (λ (k : ℕ). IsEntry job h.streams h.node engine.laid (engine.laid + k) number now) (sym here.0) (there_now (h.entries place entry there)))
      ]);
      contexts = omega (arith, contexts, length-set engine.window place now);
    }
  where
    there_now : IsEntry job h.streams h.node engine.laid (engine.laid + place) number entry → IsEntry job h.streams h.node engine.laid (engine.laid + place) number now
    there_now e = record {
      set = e.set;
      task = subst (λ (p : Phase). IsTask job.job h.streams h.node (engine.laid + place) p e.set) (sym phase) e.task;
      outcome = stands;
      committed = committed;
      close = (λ c. e.close (sym phase ∙ c));
    }

-- and isn't committed
pub entry_engine : {laws : Laws} (job : LoggedJob laws) (number : ℕ) (engine : EngineView) (place : ℕ) (entry now : EntryView) → IsEngineOf job number engine → slice_get engine.window place ≡ Some entry → now.phase ≡ entry.phase → now.committed ≡ false
    → IfSome now.outcome (λ o. StandsAt job number (engine.laid + place) now.phase o) → IsEngineOf job number (record engine { window = set engine.window place now })
entry_engine {laws} job number engine place entry now h there phase open_yet stands =
    let has = entry_window job number engine place entry now h there phase (λ c. absurd (let clash : true ≡ false = sym c ∙ open_yet in cc)) stands in
    record {
      streams = h.streams;
      solves = h.solves;
      node = h.node;
      there = h.there;
      set_up = record { role = h.set_up.role; number_is = h.set_up.number_is; first = h.set_up.first; offset = h.set_up.offset; in_flight = h.set_up.in_flight; inputs = h.set_up.inputs };
      begun = h.begun;
      claimed = h.claimed;
      taken = h.taken;
      closed = h.closed;
      whole = h.whole;
      kept = h.kept;
      raised = h.raised;
      extended = h.extended;
      fault = h.fault;
      order = has.order;
      entries = has.entries;
      idle = h.idle;
      contexts = has.contexts;
      waits = (λ goes. set_waits engine.window place now open_yet (h.waits goes));
      ended = h.ended;
    }

pub shelved_lawful : {laws : Laws} (job : LoggedJob laws) (number : ℕ) (engine : EngineView) (outcome : OutcomeView) → IsOut engine outcome.work → LawfulEngine job (of_node number) engine → LawfulOutcome job outcome → LawfulEngine job (of_node number) (shelved engine outcome)
unfolding LawfulEngine
shelved_lawful {laws} job number engine outcome out h o =
    let laid = out.laid in
    entry_engine job number engine (outcome.work.number - engine.laid) out.entry (back outcome) h out.there (sym out.phase_is) refl
    (record { node_is = out.node_is ∙ h.set_up.number_is; number_is = omega (arith, laid); phase_is = refl; lawful = o })

-- what is found in an entry
pub record IsFound (entry : EntryView) (p : PerformedView) : Type 0 where
  pub outcome : OutcomeView
  pub there : entry.outcome ≡ Some outcome
  pub performed : outcome ≡ outcome_of p
  pub left : entry.committed ≡ false

-- an outcome that was performed
pub performed_is : (o : Option OutcomeView) (p : PerformedView) → option_and_then performed_of o ≡ Some p → (x : OutcomeView) × (o ≡ Some x) × (x ≡ record { work = p.work; answer = Some p.answer })
performed_is None p e = absurd cc
performed_is (Some x) p e = by_answer x.answer refl e
  where
    by_answer : (a : Option (Result (List Laid) Cause)) → x.answer ≡ a → option_map (λ b. record { work = x.work; answer = b }) x.answer ≡ Some p → (y : OutcomeView) × (Some x ≡ Some y) × (y ≡ record { work = p.work; answer = Some p.answer })
    by_answer None is e =
        let f : None ≡ Some p = rw is at e in
        absurd cc
    by_answer (Some b) is e =
        let f : Some (record { work = x.work; answer = b }) ≡ Some p = rw is at e in
        let same : (let q : PerformedView = record { work = x.work; answer = b } in q) ≡ p = cc in
        (x, refl, ((λ i. record { work = x.work; answer = is i }) ∙ ap (λ (q : PerformedView). (let y : OutcomeView = record { work = q.work; answer = Some q.answer } in y)) same))

found_by : (committed : Bool) (o : Option OutcomeView) (p : PerformedView) → (if committed then None else option_and_then performed_of o) ≡ Some p → (x : OutcomeView) × (o ≡ Some x) × (x ≡ outcome_of p) × (committed ≡ false)
found_by true o p e = absurd cc
found_by false o p e = (let it = performed_is o p e in (it.0, it.1, it.2, refl))

pub found_at : (engine : EngineView) (number : ℕ) (p : PerformedView) → shelf_at engine number ≡ Some p → (engine.laid ≤ number) × (entry : EntryView) × (slice_get engine.window (number - engine.laid) ≡ Some entry) × IsFound entry p
found_at engine number p e = by_low (nat_lt number engine.laid) refl e
  where
    by_entry : (o : Option EntryView) → option_and_then shelf_of o ≡ Some p → (entry : EntryView) × (o ≡ Some entry) × IsFound entry p
    by_entry None f = absurd cc
    by_entry (Some x) f = (let it = found_by x.committed x.outcome p f in (x, refl, record { outcome = it.0; there = it.1; performed = it.2; left = it.3 }))

    by_low : (b : Bool) → nat_lt number engine.laid ≡ b → (if nat_lt number engine.laid then None else option_and_then shelf_of (slice_get engine.window (number - engine.laid))) ≡ Some p
        → (engine.laid ≤ number) × (entry : EntryView) × (slice_get engine.window (number - engine.laid) ≡ Some entry) × IsFound entry p
    by_low true is f = absurd (let g : None ≡ Some p = rw is at f in cc)
    by_low false is f = (let g : option_and_then shelf_of (slice_get engine.window (number - engine.laid)) ≡ Some p = rw is at f in let it = by_entry _ g in (grind (arith, nat_tests, is), it.0, it.1, it.2))

pub unshelved_lawful : {laws : Laws} (job : LoggedJob laws) (owner : ℕ) (engine engine_now : EngineView) (number : ℕ) (p : PerformedView) → shelf_at engine number ≡ Some p → Unshelves (Some p) engine engine_now number → LawfulEngine job (of_node owner) engine
    → LawfulEngine job (of_node owner) engine_now × LawfulPerformed job p
unfolding LawfulEngine LawfulPerformed LawfulOutcome
unshelved_lawful {laws} job owner engine engine_now number p found now h =
    let it = found_at engine number p found in
    let stands : StandsAt job owner (engine.laid + (number - engine.laid)) it.1.phase it.3.outcome =
    subst (λ (o : Option OutcomeView). IfSome o (λ x. StandsAt job owner (engine.laid + (number - engine.laid)) it.1.phase x)) it.3.there (h.entries (number - engine.laid) it.1 it.2).outcome in
    let phase : p.work.phase ≡ it.1.phase = ap (λ (o : OutcomeView). o.work.phase) (sym it.3.performed) ∙ stands.phase_is in (
      subst (λ (v : EngineView). IsEngineOf job owner v) (sym now) (entry_engine job owner engine (number - engine.laid) it.1 (record { phase = p.work.phase; outcome = None; committed = false }) h it.2 phase refl tt),
      subst (λ (o : OutcomeView). IsWorkOf job o) it.3.performed stands.lawful,
    )

pub unshelved_all : {laws : Laws} (job : LoggedJob laws) (owner : ℕ) (engine engine_now : EngineView) (number : ℕ) (r : Option PerformedView) → r ≡ shelf_at engine number → Unshelves r engine engine_now number → LawfulEngine job (of_node owner) engine
    → LawfulEngine job (of_node owner) engine_now × IfSome r (λ p. LawfulPerformed job p)
unshelved_all {laws} job owner engine engine_now number None found now h = (subst (λ (v : EngineView). LawfulEngine job (of_node owner) v) (sym now) h, tt)
unshelved_all {laws} job owner engine engine_now number (Some p) found now h = unshelved_lawful job owner engine engine_now number p (sym found) now h

-- The steps of the code.

abbrev pub with_window : EngineView → List EntryView → EngineView
with_window engine window = record engine { window = window }

pub unshelves_by : (r : Option PerformedView) (engine engine_now : EngineView) (number : ℕ) (now : List EntryView) → engine_now ≡ with_window engine now → IsTakenOut r engine.window now (number - engine.laid) → Unshelves r engine engine_now number
unshelves_by None engine engine_now number now is taken = is ∙ ap (with_window engine) taken
unshelves_by (Some p) engine engine_now number now is taken = is ∙ ap (with_window engine) taken
