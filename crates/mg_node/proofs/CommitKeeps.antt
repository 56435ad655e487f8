-- A commit keeps the engine of a node lawful: what is committed at the front of its window is laid, entry by entry.
use Rattle.std.proofs.Common.{◌≡◌, ℕ, ◌+◌, ◌-◌, Bool, true, false, List, [], ◌∷◌, Option, Some, None, IfSome, option_map, option_and_then, is_some, Result, Ok, Err, IfOk, OnErr, slice_get, ap, ap₂, sym, refl, subst, ◌∙◌, arith, if◌then◌else◌}
use Rattle.mg_value.specs.Payload.{Plain}
use Rattle.mg_settled.specs.Prefix.{StreamPrefix}
use Rattle.mg_stream.specs.Pool.{Backlog}
use Rattle.mg_calc.specs.Rules.{Laws}
use Rattle.mg_calc.specs.declared.node_fault.NodeFault.{NodeFault}
use Rattle.mg_calc.specs.declared.plan_node.PlanNode.{PlanNode}
use Rattle.mg_calc.specs.Outcome.{Failure}
use Rattle.mg_node.specs.Views.{PerformedView, OutcomeView, EntryView, EngineView}
use Rattle.mg_node.specs.Job.{LoggedJob, Solves, stage}
use Rattle.mg_node.specs.Lawful.{StandForAll, StandsAt, come_to, IsEngineOf, LawfulEngine, of_node, LawfulOutcome}
use Rattle.mg_node.specs.Shelves.{IsOut, performed_of}
use Rattle.mg_node.specs.Windows.{ready_of, starts_ready}
use Rattle.mg_node.specs.Commits.{Front, answer_laid, has_stopped, with_ready, front_laid, committed_entry, window_with, front_of, fault_at, Commits}
use Rattle.mg_node.proofs.Closing.{second_not}
use Rattle.mg_node.proofs.Shelving.{HasWindow, entry_window, performed_is}
use Rattle.mg_node.proofs.FrontWaits.{laid_waits, stops_by, stopped_by, ended_by}
use Rattle.mg_node.proofs.Stateless.{several_keep_nothing}
use Rattle.mg_node.proofs.Turning.{work_turns}
use Rattle.mg_node.proofs.Turns.{IsDone, done_by}
use Rattle.mg_node.proofs.LaidFronts.{IsFrontOf, next_front}

none_failed : (fault : Option Failure) → is_some fault ≡ false → fault ≡ None
none_failed None e = refl
none_failed (Some f) e = absurd cc

ready_is : (committed : Bool) (o : Option OutcomeView) (p : PerformedView) → (if committed then option_and_then performed_of o else None) ≡ Some p → (x : OutcomeView) × (o ≡ Some x) × (x ≡ record { work = p.work; answer = Some p.answer })
ready_is true o p e = performed_is o p e
ready_is false o p e = absurd cc

module _ {laws : Laws} (job : LoggedJob laws) (streams : List (StreamPrefix Plain)) (number : ℕ) (node : PlanNode) (solves : Solves job streams) (there : slice_get job.job.plan.nodes number ≡ Some node) (claimed : ℕ) where
  first_done : (front : Front) (entry : EntryView) (entries : List EntryView) (p : PerformedView) → IsFrontOf job streams node number claimed front → front.window ≡ entry ∷ entries → ready_of entry ≡ Some p → IsDone job streams node front.laid entry.phase p.work.context p.answer
  first_done front entry entries p h window ready =
      let e = h.entries 0 entry (ap (λ (w : List EntryView). slice_get w 0) window) in
      let it = ready_is entry.committed entry.outcome p ready in
      let stands : StandsAt job number (front.laid + 0) entry.phase it.0 = subst (λ (o : Option OutcomeView). IfSome o (λ x. StandsAt job number (front.laid + 0) entry.phase x)) it.1 e.outcome in
      done_by job streams number node front.laid entry.phase p solves there
      (subst (λ (k : ℕ). StandsAt job number k entry.phase (record { work = p.work; answer = Some p.answer })) (let same : front.laid + 0 ≡ front.laid = omega arith in same)
      (subst (λ (x : OutcomeView). StandsAt job number (front.laid + 0) entry.phase x) it.2 stands))

  laid_by_turns : (front : Front) (entry : EntryView) (entries : List EntryView) → IsFrontOf job streams node number claimed front → front.window ≡ entry ∷ entries
      → ((next : Front) → IsFrontOf job streams node number claimed next → next.window ≡ entries → IsFrontOf job streams node number claimed (front_laid node.shape.offset entries next))
      → (stops : Bool) (ready : Option PerformedView) → has_stopped front ≡ stops → ready_of entry ≡ ready
      → IsFrontOf job streams node number claimed (if stops then front else with_ready ready front (λ p. front_laid node.shape.offset entries (answer_laid node.shape.offset entry.phase p.work.context p.answer entries front)))
  laid_by_turns front entry entries h window go_on true ready stop is = h
  laid_by_turns front entry entries h window go_on false None stop is = h
  laid_by_turns front entry entries h window go_on false (Some p) stop is =
      let goes = second_not front.closed (is_some front.fault) stop in
      let good : (stage job.job streams node front.laid).fault ≡ None =
      ap (λ (b : Bool). (come_to job streams node front.laid b).fault) (sym goes.0) ∙ sym h.same_fault ∙ none_failed front.fault goes.1 in
      let d = first_done front entry entries p h window is in
      go_on (answer_laid node.shape.offset entry.phase p.work.context p.answer entries front)
      (next_front job streams node number claimed front entry entries p.work.context p.answer h window goes.0 (several_keep_nothing job number node solves.is_job there) d (work_turns job streams number node front.laid entry.phase p.work.context p.answer solves there good d))
      refl

  front_keeps : (entries : List EntryView) (front : Front) → IsFrontOf job streams node number claimed front → front.window ≡ entries → IsFrontOf job streams node number claimed (front_laid node.shape.offset entries front)
  front_keeps [] front h window = h
  front_keeps (entry ∷ entries) front h window = laid_by_turns front entry entries h window (λ next k w. front_keeps entries next k w) (has_stopped front) (ready_of entry) refl refl

-- an engine and its front
same_failure : (f : Option Failure) (number : ℕ) → option_map (λ (g : NodeFault). (let it : Failure = record { phase = g.phase; cause = g.cause } in it)) (option_map (fault_at number) f) ≡ f
same_failure None number = refl
same_failure (Some f) number = refl

front_of_engine : {laws : Laws} (job : LoggedJob laws) (number : ℕ) (engine : EngineView) (window : List EntryView) (h : IsEngineOf job number engine) → HasWindow job h.streams h.node number engine window → IsFrontOf job h.streams h.node number engine.claimed (front_of engine window h.whole)
front_of_engine {laws} job number engine window h has = record {
  few = h.claimed;
  taken = h.taken;
  last = h.closed;
  are_raised = h.raised;
  extended = h.extended;
  same_fault = ap (option_map (λ (g : NodeFault). (let it : Failure = record { phase = g.phase; cause = g.cause } in it))) h.fault ∙ same_failure (come_to job h.streams h.node engine.laid engine.closed).fault number;
  order = has.order;
  entries = has.entries;
  free = h.idle;
  contexts = has.contexts ∙ h.set_up.in_flight;
  ended = (λ stops. h.ended (ended_by engine.closed engine.fault stops));
}

-- an engine at a front
abbrev at_front : EngineView → List (Backlog Plain) → Front → EngineView
at_front engine outputs front = record engine {
  outputs = outputs;
  laid = front.laid;
  window = front.window;
  idle = front.idle;
  closed = front.closed;
  fault = option_map (fault_at engine.node) front.fault;
}

engine_of_front : {laws : Laws} (job : LoggedJob laws) (number : ℕ) (engine : EngineView) (outputs : List (Backlog Plain)) (front : Front) (h : IsEngineOf job number engine) → StandForAll outputs front.outputs → IsFrontOf job h.streams h.node number engine.claimed front
    → (has_stopped front ≡ false → starts_ready front.window ≡ false) → IsEngineOf job number (at_front engine outputs front)
engine_of_front {laws} job number engine outputs front h stand f waits = record {
  streams = h.streams;
  solves = h.solves;
  node = h.node;
  there = h.there;
  set_up = record { role = h.set_up.role; number_is = h.set_up.number_is; first = h.set_up.first; offset = h.set_up.offset; in_flight = h.set_up.in_flight; inputs = h.set_up.inputs };
  begun = h.begun;
  claimed = f.few;
  taken = f.taken;
  closed = f.last;
  whole = front.outputs;
  kept = stand;
  raised = f.are_raised;
  extended = f.extended;
  fault = ap₂ (λ (n : ℕ) (x : Option Failure). option_map (fault_at n) x) h.set_up.number_is f.same_fault;
  order = f.order;
  entries = f.entries;
  idle = f.free;
  contexts = f.contexts ∙ sym h.set_up.in_flight;
  waits = (λ goes. waits (stops_by engine.node front.closed front.fault goes));
  ended = (λ stops. f.ended (stopped_by engine.node front.closed front.fault stops));
}

-- a work comes back to its window
back_window : {laws : Laws} (job : LoggedJob laws) (number : ℕ) (engine : EngineView) (outcome : OutcomeView) → IsOut engine outcome.work → (h : IsEngineOf job number engine) → LawfulOutcome job outcome → HasWindow job h.streams h.node number engine (window_with engine outcome)
back_window {laws} job number engine outcome out h o =
    let laid = out.laid in
    entry_window job number engine (outcome.work.number - engine.laid) out.entry (committed_entry outcome) h out.there (sym out.phase_is) (λ c. (refl, c))
    (record { node_is = out.node_is ∙ h.set_up.number_is; number_is = omega (arith, laid); phase_is = refl; lawful = o })

pub commit_lawful : {laws : Laws} (job : LoggedJob laws) (number : ℕ) (outcome : OutcomeView) (n : ℕ) (before now : EngineView)
    → IsOut before outcome.work → LawfulEngine job (of_node number) before → LawfulOutcome job outcome → Commits outcome n before now → LawfulEngine job (of_node number) now
unfolding LawfulEngine
commit_lawful {laws} job number outcome n before now out h o commits =
    let window = window_with before outcome in
    let has = commits.front h.whole h.kept in
    let front = front_of before window h.whole in
    let keeps : IsFrontOf job h.streams h.node number before.claimed (front_laid h.node.shape.offset window front) =
    front_keeps job h.streams number h.node h.solves h.there before.claimed window front (front_of_engine job number before window h (back_window job number before outcome out h o)) refl in
    let laid : IsFrontOf job h.streams h.node number before.claimed (front_laid before.offset window front) = subst (λ offset. IsFrontOf job h.streams h.node number before.claimed (front_laid offset window front)) (sym h.set_up.offset) keeps in
    subst (λ (v : EngineView). IsEngineOf job number v) (sym has.others)
    (engine_of_front job number before now.outputs (front_laid before.offset window front) h has.outputs laid (laid_waits before.offset window front refl))

-- whatever a commit answers
pub result_lawful : {laws : Laws} {E : Type 0} (job : LoggedJob laws) (number : ℕ) (outcome : OutcomeView) (result : Result ℕ E) (before now : EngineView)
    → IsOut before outcome.work → LawfulEngine job (of_node number) before → LawfulOutcome job outcome → IfOk result (λ n. Commits outcome n before now) → OnErr result (now ≡ before) → LawfulEngine job (of_node number) now
result_lawful {laws} job number outcome (Ok n) before now out lawful o commits same = commit_lawful job number outcome n before now out lawful o commits
result_lawful {laws} job number outcome (Err e) before now out lawful o commits same = subst (λ (v : EngineView). LawfulEngine job (of_node number) v) (sym same) lawful
