-- Works of a node: what is claimed, or found in its window, is out.
use Rattle.std.proofs.Common.{◌≡◌, ℕ, ◌+◌, ◌-◌, ◌<◌, ◌≤◌, false, List, [], ◌∷◌, ◌++◌, length, set, Option, Some, None, IfSome, slice_get, count_by as number_of, inl, inr, ap, sym, refl, subst, ◌∙◌, arith}
use Rattle.mg_value.specs.Payload.{Plain}
use Rattle.mg_settled.specs.Prefix.{StreamPrefix}
use Rattle.mg_calc.specs.Rules.{Laws}
use Rattle.mg_calc.specs.declared.node_fault.Phase.{Phase}
use Rattle.mg_calc.specs.declared.node_fault.Phase.TheVariants.{Call, Process, Close}
use Rattle.mg_calc.specs.declared.plan_node.PlanNode.{PlanNode}
use Rattle.mg_calc.proofs.Solutions.{one_solution}
use Rattle.mg_node.specs.declared.claimed.Claimed.{Claimed}
use Rattle.mg_node.specs.declared.claimed.Claimed.TheVariants.{Work, Answered, NotReady, InFlightFull, Draining, Ended, OutOfMemory}
use Rattle.mg_node.specs.Views.{IntakeView, ContextView, WorkView, PerformedView, OutcomeView, EntryView, EngineView}
use Rattle.mg_node.specs.Job.{LoggedJob, count_of_all}
use Rattle.mg_node.specs.Lawful.{of_node, is_close, StandsAt, LawfulEngine, AreCell}
use Rattle.mg_node.specs.Claims.{Claims, TakesUnrun, TakesCall, TakesSet, TakesClose, Hands, GivesOut}
use Rattle.mg_node.specs.Shelves.{IsOut, back, shelved, outcome_of, shelf_at, Unshelves}
use Rattle.mg_node.proofs.Cells.{claim_lawful}
use Rattle.mg_node.proofs.EngineFronts.{set_back}
use Rattle.mg_node.proofs.Handing.{none_closes}
use Rattle.mg_node.proofs.Making.{some_same}
use Rattle.mg_node.proofs.ShelfLaws.{get_set}
use Rattle.mg_node.proofs.Shelving.{found_at}
use Rattle.mg_node.proofs.TaskLogs.{task_within}

-- the last of a list
last_get : {X : Type 0} (xs : List X) (x : X) → slice_get (xs ++ x ∷ []) (length xs) ≡ Some x
last_get [] x = refl
last_get (y ∷ xs) x = last_get xs x

abbrev out_entry : Phase → EntryView
out_entry phase = record { phase = phase; outcome = None; committed = false }

-- A work that came back unrun is out once it is handed out again.
unrun_out : {laws : Laws} (job : LoggedJob laws) (number : ℕ) (engine engine_now : EngineView) (work : WorkView) → LawfulEngine job (of_node number) engine → TakesUnrun engine engine_now work → IsOut engine_now work
unfolding LawfulEngine
unrun_out {laws} job number engine engine_now work h t =
    let hands = t.hands in
    let e = h.entries t.place hands.entry hands.there in
    let stands : StandsAt job number (engine.laid + t.place) hands.entry.phase (record { work = work; answer = None }) =
    subst (λ (o : Option OutcomeView). IfSome o (λ p. StandsAt job number (engine.laid + t.place) hands.entry.phase p)) hands.outcome e.outcome in
    let number_is = stands.number_is in
    let laid : engine_now.laid ≡ engine.laid = ap (λ (v : EngineView). v.laid) t.now in
    let place : work.number - engine_now.laid ≡ t.place = omega (arith, number_is, laid) in
    record {
      node_is = stands.node_is ∙ sym h.set_up.number_is ∙ sym (ap (λ (v : EngineView). v.node) t.now);
      laid = omega (arith, number_is, laid);
      entry = out_entry hands.entry.phase;
      there = ap (λ (i : ℕ). slice_get engine_now.window i) place ∙ ap (λ (w : List EntryView). slice_get w t.place) hands.left ∙ get_set engine.window t.place hands.entry (out_entry hands.entry.phase) hands.there;
      out = refl;
      phase_is = sym stands.phase_is;
    }

-- A further work is out.
handed_out : (engine engine_now : EngineView) (phase : Phase) (more : ℕ) (context : ContextView) (work : WorkView) → Hands engine engine_now phase more context → engine.laid + length engine.window ≡ engine.claimed
    → work.node ≡ engine.node → work.number ≡ engine.claimed → work.phase ≡ phase → IsOut engine_now work
handed_out engine engine_now phase more context work t order node_is number_is phase_is =
    let laid : engine_now.laid ≡ engine.laid = ap (λ (v : EngineView). v.laid) t.now in
    let place : work.number - engine_now.laid ≡ length engine.window = omega (arith, number_is, laid, order) in
    record {
      node_is = node_is ∙ sym (ap (λ (v : EngineView). v.node) t.now);
      laid = omega (arith, number_is, laid, order);
      entry = out_entry phase;
      there = ap (λ (i : ℕ). slice_get engine_now.window i) place ∙ ap (λ (v : EngineView). slice_get v.window (length engine.window)) t.now ∙ last_get engine.window (out_entry phase);
      out = refl;
      phase_is = sym phase_is;
    }

-- if a further set or call comes, no Close is claimed
none_before : {laws : Laws} (job : LoggedJob laws) (number : ℕ) (engine engine_now : EngineView) (phase : Phase) (more : ℕ) (context : ContextView) → LawfulEngine job (of_node number) engine → LawfulEngine job (of_node number) engine_now → is_close phase ≡ false
    → Hands engine engine_now phase more context → engine.laid + length engine.window ≡ engine.claimed
unfolding LawfulEngine
none_before {laws} job number engine engine_now phase more context h now open_is t =
    let laid : engine_now.laid ≡ engine.laid = ap (λ (v : EngineView). v.laid) t.now in
    let there : slice_get engine_now.window (length engine.window) ≡ Some (out_entry phase) = ap (λ (v : EngineView). slice_get v.window (length engine.window)) t.now ∙ last_get engine.window (out_entry phase) in
    let e = now.entries (length engine.window) (out_entry phase) there in
    let within : engine_now.laid + length engine.window < count_of_all now.streams now.node = task_within job now.streams now.node (engine_now.laid + length engine.window) phase e.set open_is e.task in
    let same_streams : now.streams ≡ h.streams = one_solution job.job now.streams h.streams now.solves.solution h.solves.solution in
    let same_node : now.node ≡ h.node = some_same (slice_get job.job.plan.nodes number) now.node h.node now.there h.there in
    let same : count_of_all now.streams now.node ≡ count_of_all h.streams h.node = ap (λ (ss : List (StreamPrefix Plain)). count_of_all ss now.node) same_streams ∙ ap (λ (n : PlanNode). count_of_all h.streams n) same_node in
    let order = h.order in
    let less : engine.claimed < count_of_all h.streams h.node = omega (arith, within, same, laid, order) in
    let none = none_closes job number engine h less in
    omega (arith, order, none)

call_out : {laws : Laws} (job : LoggedJob laws) (number : ℕ) (engine engine_now : EngineView) (work : WorkView) → LawfulEngine job (of_node number) engine → LawfulEngine job (of_node number) engine_now → TakesCall engine engine_now work → IsOut engine_now work
call_out {laws} job number engine engine_now work h now t =
    handed_out engine engine_now (Call engine.claimed) 1 t.context work t.hands (none_before job number engine engine_now (Call engine.claimed) 1 t.context h now refl t.hands)
    (ap (λ (w : WorkView). w.node) t.work_is) (ap (λ (w : WorkView). w.number) t.work_is) (ap (λ (w : WorkView). w.phase) t.work_is)

set_out : {laws : Laws} (job : LoggedJob laws) (number : ℕ) (engine engine_now : EngineView) (intake intake_now : IntakeView) (work : WorkView) → LawfulEngine job (of_node number) engine → LawfulEngine job (of_node number) engine_now → TakesSet engine engine_now intake intake_now work → IsOut engine_now work
set_out {laws} job number engine engine_now intake intake_now work h now t =
    handed_out engine engine_now (Process t.at) 1 t.context work t.hands (none_before job number engine engine_now (Process t.at) 1 t.context h now refl t.hands)
    (ap (λ (w : WorkView). w.node) t.work_is) (ap (λ (w : WorkView). w.number) t.work_is) (ap (λ (w : WorkView). w.phase) t.work_is)

close_out : {laws : Laws} (job : LoggedJob laws) (number : ℕ) (engine engine_now : EngineView) (intake : IntakeView) (work : WorkView) → LawfulEngine job (of_node number) engine → TakesClose engine engine_now intake.waits work → IsOut engine_now work
unfolding LawfulEngine
close_out {laws} job number engine engine_now intake work h t =
    let order = h.order in
    let none : number_of (λ (e : EntryView). is_close e.phase) engine.window ≡ 0 = ap (number_of (λ (e : EntryView). is_close e.phase)) t.laid in
    handed_out engine engine_now Close 0 t.context work t.hands (omega (arith, order, none))
    (ap (λ (w : WorkView). w.node) t.work_is) (ap (λ (w : WorkView). w.number) t.work_is) (ap (λ (w : WorkView). w.phase) t.work_is)

-- A work that a claim gives is out.
claimed_out : {laws : Laws} (C : Type 0) (job : LoggedJob laws) (number : ℕ) (work : WorkView) (engine engine_now : EngineView) (intake intake_now : IntakeView) → LawfulEngine job (of_node number) engine → LawfulEngine job (of_node number) engine_now
    → Claims {C = C} (Work work) engine engine_now intake intake_now → IsOut engine_now work
claimed_out {laws} C job number work engine engine_now intake intake_now h now claims = elim claims [
  | inl unrun ↦ unrun_out job number engine engine_now work h unrun.1
  | inr further ↦ elim further.1 [
    | inl called ↦ call_out job number engine engine_now work h now called.0
    | inr other ↦ elim other [
      | inl closes ↦ close_out job number engine engine_now intake work h closes.0
      | inr shown ↦ set_out job number engine engine_now intake intake_now work h now shown
    ]
  ]
]

pub claim_out : {laws : Laws} {C : Type 0} (result : Claimed C) (engine engine_now : EngineView) (intake intake_now : IntakeView) → AreCell laws engine intake → Claims result engine engine_now intake intake_now → GivesOut result engine_now
claim_out {laws} {C} (Work work) engine engine_now intake intake_now cell claims =
    claimed_out C cell.job cell.number work engine engine_now intake intake_now cell.lawful_engine
    (claim_lawful {C = C} cell.job cell.number (Work work) engine engine_now intake intake_now cell.lawful_engine cell.lawful_intake cell.agree claims).lawful_engine claims
claim_out {laws} Answered engine engine_now intake intake_now cell claims = tt
claim_out {laws} NotReady engine engine_now intake intake_now cell claims = tt
claim_out {laws} InFlightFull engine engine_now intake intake_now cell claims = tt
claim_out {laws} Draining engine engine_now intake intake_now cell claims = tt
claim_out {laws} Ended engine engine_now intake intake_now cell claims = tt
claim_out {laws} OutOfMemory engine engine_now intake intake_now cell claims = tt

-- A work that is found in its window is the work of its number there. It is out once it is taken, and it can be put back.

record IsFoundAt {laws : Laws} (job : LoggedJob laws) (owner number : ℕ) (engine : EngineView) (p : PerformedView) : Type 0 where
  pub laid : engine.laid ≤ number
  pub node_is : p.work.node ≡ engine.node
  pub number_is : p.work.number ≡ number
  pub there : slice_get engine.window (number - engine.laid) ≡ Some (back (outcome_of p))

found_stands : {laws : Laws} (job : LoggedJob laws) (owner : ℕ) (engine : EngineView) (number : ℕ) (p : PerformedView) → LawfulEngine job (of_node owner) engine → shelf_at engine number ≡ Some p → IsFoundAt job owner number engine p
unfolding LawfulEngine
found_stands {laws} job owner engine number p h found =
    let it = found_at engine number p found in
    let from = it.0 in
    let outcome_is : it.1.outcome ≡ Some (outcome_of p) = it.3.there ∙ ap Some it.3.performed in
    let stands : StandsAt job owner (engine.laid + (number - engine.laid)) it.1.phase (outcome_of p) =
    subst (λ (o : Option OutcomeView). IfSome o (λ x. StandsAt job owner (engine.laid + (number - engine.laid)) it.1.phase x)) outcome_is (h.entries (number - engine.laid) it.1 it.2).outcome in
    let number_is = stands.number_is in
    let entry_is : it.1 ≡ back (outcome_of p) = (λ i. record { phase = sym stands.phase_is i; outcome = outcome_is i; committed = it.3.left i }) in
    record {
      laid = from;
      node_is = stands.node_is ∙ sym h.set_up.number_is;
      number_is = omega (arith, number_is, from);
      there = it.2 ∙ ap Some entry_is;
    }

found_out : {laws : Laws} (job : LoggedJob laws) (owner : ℕ) (engine engine_now : EngineView) (number : ℕ) (p : PerformedView) → LawfulEngine job (of_node owner) engine → shelf_at engine number ≡ Some p → Unshelves (Some p) engine engine_now number → IsOut engine_now p.work
found_out {laws} job owner engine engine_now number p h found now =
    let it = found_stands job owner engine number p h found in
    let number_is = it.number_is in
    let from = it.laid in
    let laid : engine_now.laid ≡ engine.laid = ap (λ (v : EngineView). v.laid) now in
    let place : p.work.number - engine_now.laid ≡ number - engine.laid = omega (arith, number_is, laid) in
    record {
      node_is = it.node_is ∙ sym (ap (λ (v : EngineView). v.node) now);
      laid = omega (arith, number_is, laid, from);
      entry = out_entry p.work.phase;
      there = ap (λ (i : ℕ). slice_get engine_now.window i) place ∙ ap (λ (v : EngineView). slice_get v.window (number - engine.laid)) now
          ∙ get_set engine.window (number - engine.laid) (back (outcome_of p)) (out_entry p.work.phase) it.there;
      out = refl;
      phase_is = refl;
    }

pub result_numbered : {laws : Laws} (job : LoggedJob laws) (owner : ℕ) (engine : EngineView) (number : ℕ) (r : Option PerformedView) → r ≡ shelf_at engine number → LawfulEngine job (of_node owner) engine → IfSome r (λ p. p.work.number ≡ number)
result_numbered {laws} job owner engine number None found h = tt
result_numbered {laws} job owner engine number (Some p) found h = (found_stands job owner engine number p h (sym found)).number_is

pub result_out : {laws : Laws} (job : LoggedJob laws) (owner : ℕ) (engine engine_now : EngineView) (number : ℕ) (r : Option PerformedView) → r ≡ shelf_at engine number → Unshelves r engine engine_now number → LawfulEngine job (of_node owner) engine → IfSome r (λ p. IsOut engine_now p.work)
result_out {laws} job owner engine engine_now number None found now h = tt
result_out {laws} job owner engine engine_now number (Some p) found now h = found_out job owner engine engine_now number p h (sym found) now

pub back_in_place : {laws : Laws} (job : LoggedJob laws) (owner : ℕ) (engine engine_now : EngineView) (number : ℕ) (p : PerformedView) → LawfulEngine job (of_node owner) engine → shelf_at engine number ≡ Some p → Unshelves (Some p) engine engine_now number → shelved engine_now (outcome_of p) ≡ engine
back_in_place {laws} job owner engine engine_now number p h found now =
    let it = found_stands job owner engine number p h found in
    let place = number - engine.laid in
    let taken : List EntryView = set engine.window place (out_entry p.work.phase) in
    ap (λ (v : EngineView). shelved v (outcome_of p)) now
    ∙ ap (λ (n : ℕ). (let v : EngineView = record engine { window = set taken (n - engine.laid) (back (outcome_of p)) } in v)) it.number_is
    ∙ ap (λ (w : List EntryView). (let v : EngineView = record engine { window = w } in v)) (set_back engine.window place (back (outcome_of p)) (out_entry p.work.phase) it.there)
