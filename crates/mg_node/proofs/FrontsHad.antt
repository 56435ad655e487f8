-- The calls that a user-supplied calculator has had at any time: a prefix of those that its node's calculator has, and perhaps Close after
-- them.
use Rattle.std.proofs.Common.{◌≡◌, ℕ, zero, suc, ◌+◌, ◌-◌, ◌<◌, ◌≤◌, Bool, true, false, List, [], ◌∷◌, ◌++◌, length, map, take, append-nil, Option, Some, None, IfSome, option_map, is_some, Result, slice_get, inl, inr, refl, ap, ap₂, sym, subst, ◌∙◌, arith, if◌then◌else◌}
use Rattle.std.specs.List.{filter_map}
use Rattle.std.proofs.lemmas.Bool.{cases_Bool}
use Rattle.std.proofs.lemmas.List.{take-map}
use Rattle.std.proofs.lemmas.Option.{slice_get_within}
use Rattle.mg_value.specs.Payload.{Plain}
use Rattle.mg_value.specs.Packet.{Stamped}
use Rattle.mg_settled.specs.Prefix.{StreamPrefix}
use Rattle.mg_calc.specs.Rules.{Laws}
use Rattle.mg_calc.specs.declared.call.Call.{Call}
use Rattle.mg_calc.specs.declared.call.Call.TheVariants.{Begun}
use Rattle.mg_calc.specs.declared.cause.Cause.{Cause}
use Rattle.mg_calc.specs.declared.emission.Laid.{Laid}
use Rattle.mg_calc.specs.declared.law.Law.{Law}
use Rattle.mg_calc.specs.declared.law.Law.TheVariants.{Count, SideOnce}
use Rattle.mg_calc.specs.declared.node_fault.Phase.{Phase}
use Rattle.mg_calc.specs.declared.node_fault.Phase.TheVariants.{Open, Call as SourceCall, Process, Close}
use Rattle.mg_calc.specs.declared.plan_node.PlanNode.{PlanNode}
use Rattle.mg_calc.specs.Shape.{IsOuter, IsSource}
use Rattle.mg_calc.specs.Equations.{Job, rules_at}
use Rattle.mg_calc.specs.Meaning.{count_of}
use Rattle.mg_calc.specs.Told.{BoxTold, with_call}
use Rattle.mg_calc.proofs.Solutions.{one_solution}
use Rattle.mg_route.specs.HolderView.{HolderView, FitsHolder, told_by}
use Rattle.mg_node.specs.Views.{ContextView, WorkView, OutcomeView, EntryView, EngineView}
use Rattle.mg_node.specs.Job.{LoggedJob, Solves, sets_of, count_of_all, stage, IsTask, first_log, log_after, calls_before, calls_in}
use Rattle.mg_node.specs.Lawful.{of_node, HasAnswered, answer_in, come_to, IsAtWork, IsWorkOf, LawfulOutcome, LawfulWork, StandsAt, IsEntry, IsEngineOf, LawfulEngine}
use Rattle.mg_node.specs.Begun.{LawfulUnbegun}
use Rattle.mg_node.specs.Claims.{has_ended}
use Rattle.mg_node.specs.Shelves.{IsOut}
use Rattle.mg_node.specs.Leaving.{calculator_in, calculators_in, handed_told, first_handed, HasHanded}
use Rattle.mg_node.specs.Had.{front_calls, HadFront, state_by}
use Rattle.mg_node.proofs.CallsHad.{finish_if, boxed_one, context_is, first_of, none_more}
use Rattle.mg_node.proofs.Closing.{no_fault, second_not}
use Rattle.mg_node.proofs.Making.{some_same}
use Rattle.mg_node.proofs.OneCalculator.{one_handed, one_context, handed_there}
use Rattle.mg_node.proofs.RestingEnds.{of_these}
use Rattle.mg_node.proofs.StageCounts.{one_more_counted}
use Rattle.mg_node.proofs.StatesKept.{next_state, answered_state, come_state, opened_state}
use Rattle.mg_node.proofs.TaskLogs.{shown_calls, shown_call, set_logged, task_within}
use Rattle.mg_node.proofs.HeldRules.{rules_fit}

-- The calls before a number of sets are a prefix, if so many are counted.

take_front : {X : Type 0} (n count : ℕ) (xs : List X) → n ≤ count → take n (take count xs) ≡ take n xs
take_front zero count xs le = refl
take_front (suc n) zero xs le = absurd (omega (arith, le))
take_front (suc n) (suc count) [] le = refl
take_front {X} (suc n) (suc count) (x ∷ xs) le = ap (λ (ys : List X). x ∷ ys) (take_front n count xs (omega (arith, le)))

pub calls_front : {laws : Laws} (job : LoggedJob laws) (streams : List (StreamPrefix Plain)) (node : PlanNode) (n : ℕ) (close : Bool) → IsOuter node.law → n ≤ count_of job.job streams node → calls_before streams node n ++ finish_if close ≡ front_calls job streams node (suc n) close
calls_front {laws} job streams node n close outer le =
    let sets = sets_of streams node in
    let count = count_of job.job streams node in
    let same : take n (map shown_call (take count sets)) ≡ map shown_call (take n sets) = take-map shown_call n (take count sets) ∙ ap (map shown_call) (take_front n count sets le) in
    ap (λ (calls : List Call). calls ++ finish_if close) (shown_calls node.law streams node n (λ e. subst IsOuter e outer) ∙ ap (λ (calls : List Call). Begun ∷ calls) (sym same))

-- A calculator with such calls.
pub stage_at : (job : Job) (streams : List (StreamPrefix Plain)) (node : PlanNode) (n shown : ℕ) (close : Bool) → suc n ≡ suc shown → state_by job streams node n close ≡ state_by job streams node shown close
stage_at job streams node n shown close is = (let same : n ≡ shown = omega (arith, is) in ap (λ (m : ℕ). state_by job streams node m close) same)

abbrev pub front_by : {laws : Laws} (job : LoggedJob laws) (streams : List (StreamPrefix Plain)) (node : PlanNode) (held : HolderView) (n : ℕ) (close : Bool) → IsOuter node.law → FitsHolder node held → n ≤ count_of job.job streams node → held.log ≡ log_after job node (calls_before streams node n ++ finish_if close)
    → held.state ≡ state_by job.job streams node n close → HadFront job streams node (told_by held)
front_by {laws} job streams node held n close outer fits le log state = record {
  count = suc n;
  close = close;
  opened = λ closed. omega arith;
  log = log ∙ ap (log_after job node) (calls_front job streams node n close outer le);
  unopened = λ none. absurd (omega (arith, none));
  state = λ shown is. state ∙ stage_at job.job streams node n shown close is;
  fits = record { same_law = fits.same_law; same_shape = fits.same_shape };
}

-- One at work, perhaps with its answer.

pub never_called : (law : Law) → IsOuter law → IsSource law → ⊥
never_called (Count count start apart) outer source = outer
never_called (SideOnce at) outer source = outer
never_called law outer source = source

phase_front : {laws : Laws} (job : LoggedJob laws) (streams : List (StreamPrefix Plain)) (number : ℕ) (node : PlanNode) (held : HolderView) (n : ℕ) (phase : Phase) (set : List (Option (Stamped Plain))) (answer : Result (List Laid) Cause) → Solves job streams
    → slice_get job.job.plan.nodes number ≡ Some node → IsOuter node.law → FitsHolder node held → IsTask job.job streams node n phase set → n ≤ count_of job.job streams node
    → (n < count_of_all streams node → n + 1 ≤ count_of job.job streams node) → (stage job.job streams node n).fault ≡ None
    → HasAnswered answer (stage job.job streams node n).state held.state (answer_in (rules_at job.job node) node.law (stage job.job streams node n).state phase set)
    → held.log ≡ log_after job node (calls_before streams node n ++ calls_in phase set) → HadFront job streams node (told_by held)
phase_front {laws} job streams number node held n Open set answer solves there outer fits task le more good answered log = absurd task
phase_front {laws} job streams number node held n (SourceCall call) set answer solves there outer fits task le more good answered log = absurd (never_called node.law outer task.0)
phase_front {laws} job streams number node held n (Process at) set answer solves there outer fits task le more good answered log =
    front_by job streams node held (n + 1) false outer fits (more (task_within job streams node n (Process at) set refl task))
    (log ∙ ap (log_after job node) (set_logged streams node n (record { at = at; set = set }) outer task.1))
    (next_state job streams number node n at set answer held.state solves there task good answered)
phase_front {laws} job streams number node held n Close set answer solves there outer fits task le more good answered log =
    front_by job streams node held n true outer fits le log (answered_state (stage job.job streams node n).state held.state answer ((rules_at job.job node).finish (stage job.job streams node n).state) answered)

abbrev pub AtWork : {laws : Laws} → LoggedJob laws → OutcomeView → List (StreamPrefix Plain) → PlanNode → Type 0
AtWork {laws} job o streams node = FitsHolder node o.work.context.told × IsTask job.job streams node o.work.number o.work.phase o.work.context.set × IsAtWork job streams node o.work o.answer

pub at_work : {laws : Laws} (job : LoggedJob laws) (streams : List (StreamPrefix Plain)) (number : ℕ) (node : PlanNode) (o : OutcomeView) → Solves job streams → slice_get job.job.plan.nodes number ≡ Some node → IsWorkOf job o → o.work.node ≡ number → AtWork job o streams node
at_work {laws} job streams number node o solves there w at =
    let same : w.streams ≡ streams = one_solution job.job w.streams streams w.solves.solution solves.solution in
    let node_is : w.node ≡ node = some_same (slice_get job.job.plan.nodes o.work.node) w.node node w.there (ap (λ (k : ℕ). slice_get job.job.plan.nodes k) at ∙ there) in
    subst (AtWork job o streams) node_is (subst (λ (ss : List (StreamPrefix Plain)). AtWork job o ss w.node) same (w.fits, w.task, w.at_work))

work_front : {laws : Laws} (job : LoggedJob laws) (streams : List (StreamPrefix Plain)) (number : ℕ) (node : PlanNode) (work : WorkView) (answer : Option (Result (List Laid) Cause)) → Solves job streams → slice_get job.job.plan.nodes number ≡ Some node → IsOuter node.law
    → AtWork job (record { work = work; answer = answer }) streams node → work.number ≤ count_of job.job streams node
    → (work.number < count_of_all streams node → work.number + 1 ≤ count_of job.job streams node) → (stage job.job streams node work.number).fault ≡ None → HadFront job streams node (told_by work.context.told)
work_front {laws} job streams number node work None solves there outer w le more good =
    front_by job streams node work.context.told work.number false outer w.0 le (w.2.1 ∙ ap (log_after job node) (sym (append-nil (calls_before streams node work.number)))) w.2.0
work_front {laws} job streams number node work (Some answer) solves there outer w le more good =
    phase_front job streams number node work.context.told work.number work.phase work.context.set answer solves there outer w.0 w.1 le more good w.2.0 w.2.1

-- One in the engine of a node.

pub found_is : (engine : EngineView) (held : HolderView) (told : BoxTold) → first_handed engine ≡ Some (told_by held) → first_handed engine ≡ Some told → told_by held ≡ told
found_is engine held told here found = (let same : Some (told_by held) ≡ Some told = sym here ∙ found in cc)

idle_front : {laws : Laws} (job : LoggedJob laws) (number : ℕ) (engine : EngineView) (h : IsEngineOf job number engine) (told : BoxTold) (context : ContextView) → is_some h.node.box_number ≡ true → IsOuter h.node.law → engine.idle ≡ context ∷ [] → engine.window ≡ []
    → first_handed engine ≡ Some told → HadFront job h.streams h.node told
idle_front {laws} job number engine h told context boxed outer idle window found =
    let one = context_is job number engine h context idle window in
    subst (HadFront job h.streams h.node) (found_is engine one.context.told told (first_of engine one.context one.idle one.window (one.is.fits.same_handed ∙ boxed)) found)
    (front_by job h.streams h.node one.context.told engine.laid engine.closed outer one.is.fits h.taken one.is.log
    (one.is.state ∙ come_state job h.streams h.node engine.laid engine.closed outer h.closed))

-- an engine whose one context is with a work hasn't failed, and goes on
pub goes_well : {laws : Laws} (job : LoggedJob laws) (number : ℕ) (engine : EngineView) (h : IsEngineOf job number engine) → engine.idle ≡ [] → (stage job.job h.streams h.node engine.laid).fault ≡ None
goes_well {laws} job number engine h idle = elim (cases_Bool (has_ended engine)) [
  | inl ended ↦ absurd (let some = h.ended ended in let none = ap length idle in omega (arith, some, none))
  | inr goes ↦
      (let on = second_not engine.closed (is_some engine.fault) goes in
      no_fault engine.fault (stage job.job h.streams h.node engine.laid).fault number on.1
      (h.fault ∙ ap (λ (b : Bool). option_map (λ f. record { node = number; phase = f.phase; cause = f.cause }) (come_to job h.streams h.node engine.laid b).fault) on.0))
]

pub goes_on : {laws : Laws} (job : LoggedJob laws) (number : ℕ) (engine : EngineView) (h : IsEngineOf job number engine) → engine.idle ≡ [] → engine.laid < count_of_all h.streams h.node → engine.laid + 1 ≤ count_of job.job h.streams h.node
goes_on {laws} job number engine h idle less = one_more_counted job.job h.streams h.node engine.laid less (goes_well job number engine h idle)

window_front : {laws : Laws} (job : LoggedJob laws) (number : ℕ) (engine : EngineView) (h : IsEngineOf job number engine) (told : BoxTold) (entry : EntryView) (o : Option OutcomeView) → is_some h.node.box_number ≡ true → IsOuter h.node.law → engine.idle ≡ [] → engine.window ≡ entry ∷ []
    → entry.outcome ≡ o → first_handed engine ≡ Some told → HadFront job h.streams h.node told
unfolding LawfulOutcome
window_front {laws} job number engine h told entry None boxed outer idle window out found =
    let only : calculators_in engine ≡ [] =
    ap₂ (λ (bs : List ContextView) (es : List EntryView). map (λ b. b.told) bs ++ filter_map calculator_in es) idle window
    ∙ ap (λ (x : Option OutcomeView). filter_map calculator_in (record { phase = entry.phase; outcome = x; committed = entry.committed } ∷ [])) out in
    absurd (let clash : None ≡ Some told = ap (λ (hs : List HolderView). slice_get (filter_map handed_told hs) 0) (sym only) ∙ found in cc)
window_front {laws} job number engine h told entry (Some o) boxed outer idle window out found =
    let held = o.work.context.told in
    let only : calculators_in engine ≡ held ∷ [] =
    ap₂ (λ (bs : List ContextView) (es : List EntryView). map (λ b. b.told) bs ++ filter_map calculator_in es) idle window
    ∙ ap (λ (x : Option OutcomeView). filter_map calculator_in (record { phase = entry.phase; outcome = x; committed = entry.committed } ∷ [])) out in
    let e : IsEntry job h.streams h.node engine.laid (engine.laid + 0) number entry = h.entries 0 entry (ap (λ (es : List EntryView). slice_get es 0) window) in
    let stands : StandsAt job number (engine.laid + 0) entry.phase o = subst (λ (x : Option OutcomeView). IfSome x (λ y. StandsAt job number (engine.laid + 0) entry.phase y)) out e.outcome in
    let w : AtWork job o h.streams h.node = at_work job h.streams number h.node o h.solves h.there stands.lawful stands.node_is in
    let at = stands.number_is in
    let taken = h.taken in
    let more : o.work.number < count_of_all h.streams h.node → o.work.number + 1 ≤ count_of job.job h.streams h.node = λ less. (let one = goes_on job number engine h idle (omega (arith, less, at)) in omega (arith, one, at)) in
    let here : first_handed engine ≡ Some (told_by held) = ap (λ (hs : List HolderView). slice_get (filter_map handed_told hs) 0) only ∙ ap (λ (ts : List BoxTold). slice_get ts 0) (one_handed held (w.0.same_handed ∙ boxed)) in
    subst (HadFront job h.streams h.node) (found_is engine held told here found)
    (work_front job h.streams number h.node o.work o.answer h.solves h.there outer w (omega (arith, taken, at)) more
    (let there : engine.laid ≡ o.work.number = omega (arith, at) in subst (λ (m : ℕ). (stage job.job h.streams h.node m).fault ≡ None) there (goes_well job number engine h idle)))

engine_by : {laws : Laws} (job : LoggedJob laws) (number : ℕ) (engine : EngineView) (h : IsEngineOf job number engine) (told : BoxTold) → is_some h.node.box_number ≡ true → IsOuter h.node.law → first_handed engine ≡ Some told → HadFront job h.streams h.node told
engine_by {laws} job number engine h told boxed outer found = elim (one_context engine.idle engine.window (boxed_one job number engine h boxed)) [
  | inl b ↦ idle_front job number engine h told b.0 boxed outer b.1 b.2 found
  | inr e ↦ window_front job number engine h told e.0 e.0.outcome boxed outer e.1 e.2 refl found
]

abbrev IfBoxed : {laws : Laws} → LoggedJob laws → BoxTold → List (StreamPrefix Plain) → PlanNode → Type 0
IfBoxed {laws} job told solution node = is_some node.box_number ≡ true → IsOuter node.law → HadFront job solution node told

pub engine_front : {laws : Laws} (job : LoggedJob laws) (number : ℕ) (node : PlanNode) (engine : EngineView) (solution : List (StreamPrefix Plain)) (told : BoxTold) → Solves job solution → slice_get job.job.plan.nodes number ≡ Some node → is_some node.box_number ≡ true → IsOuter node.law
    → LawfulEngine job (of_node number) engine → first_handed engine ≡ Some told → HadFront job solution node told
unfolding LawfulEngine
engine_front {laws} job number node engine solution told solves there boxed outer h found =
    of_these (IfBoxed job told) job number node engine solution h solves there (λ b o. engine_by job number engine h told b o found) boxed outer

-- One that isn't begun.

pub unbegun_front : {laws : Laws} (job : LoggedJob laws) (number : ℕ) (node : PlanNode) (engine : EngineView) (solution : List (StreamPrefix Plain)) (told : BoxTold) → Solves job solution → slice_get job.job.plan.nodes number ≡ Some node → is_some node.box_number ≡ true → IsOuter node.law
    → LawfulUnbegun job number engine → first_handed engine ≡ Some told → HadFront job solution node told
unbegun_front {laws} job number node engine solution told solves there boxed outer unbegun found =
    let h : HasHanded job number node engine = handed_there job number node engine unbegun there boxed in
    let same : told_by h.held ≡ told = found_is engine h.held told (ap (λ (ts : List BoxTold). slice_get ts 0) h.found) found in
    subst (HadFront job solution node) same
    (elim h.stands [
      | inl is ↦ record {
        count = 0;
        close = false;
        opened = λ closed. absurd cc;
        log = ap (λ (x : HolderView). x.log) is ∙ h.handed.log ∙ none_more (first_log job node);
        unopened = λ none number box takes there. ap (λ (x : HolderView). x.state) is ∙ h.handed.kept number box takes there;
        state = λ shown none. absurd (omega (arith, none));
        fits = record { same_law = ap (λ (x : HolderView). x.law) is ∙ h.handed.fits.same_law; same_shape = ap (λ (x : HolderView). x.shape) is ∙ h.handed.fits.same_shape };
      }
      | inr o ↦ record {
        count = 1;
        close = false;
        opened = λ closed. absurd cc;
        log = o.opened.log ∙ ap (λ (l : Option (List Call)). with_call l Begun) h.handed.log;
        unopened = λ none. absurd (omega (arith, none));
        state = λ shown one. opened_state job solution node h.told h.held o.answer outer (rules_fit job number node h.told solves.is_job.plan there h.handed.fits) o.opened ∙ stage_at job.job solution node 0 shown false one;
        fits = record { same_law = o.opened.law ∙ h.handed.fits.same_law; same_shape = o.opened.shape ∙ h.handed.fits.same_shape };
      }
    ])

-- One whose work is out.

out_front : {laws : Laws} (job : LoggedJob laws) (number : ℕ) (engine : EngineView) (work : WorkView) (h : IsEngineOf job number engine) (told : BoxTold) → is_some h.node.box_number ≡ true → IsOuter h.node.law → IsWorkOf job (record { work = work; answer = None }) → work.node ≡ number
    → IsOut engine work → handed_told work.context.told ≡ Some told → HadFront job h.streams h.node told
out_front {laws} job number engine work h told boxed outer w at out found =
    let held = work.context.told in
    let is : AtWork job (record { work = work; answer = None }) h.streams h.node = at_work job h.streams number h.node (record { work = work; answer = None }) h.solves h.there w at in
    let laid = out.laid in
    let taken = h.taken in
    let one = boxed_one job number engine h boxed in
    let within = slice_get_within engine.window (work.number - engine.laid) out.entry out.there in
    let here : Some (told_by held) ≡ Some told = sym (ap (λ (b : Bool). if b then Some (told_by held) else None) (is.0.same_handed ∙ boxed)) ∙ found in
    let same : told_by held ≡ told = cc in
    let le : work.number ≤ count_of job.job h.streams h.node = omega (arith, laid, taken, one, within) in
    subst (HadFront job h.streams h.node) same (front_by job h.streams h.node held work.number false outer is.0 le (is.2.1 ∙ ap (log_after job h.node) (sym (append-nil (calls_before h.streams h.node work.number)))) is.2.0)

pub work_out_front : {laws : Laws} (job : LoggedJob laws) (number : ℕ) (node : PlanNode) (engine : EngineView) (work : WorkView) (solution : List (StreamPrefix Plain)) (told : BoxTold) → Solves job solution → slice_get job.job.plan.nodes number ≡ Some node → is_some node.box_number ≡ true → IsOuter node.law
    → LawfulEngine job (of_node number) engine → LawfulWork job work → work.node ≡ number → IsOut engine work → handed_told work.context.told ≡ Some told → HadFront job solution node told
unfolding LawfulEngine LawfulWork
work_out_front {laws} job number node engine work solution told solves there boxed outer h w at out found =
    of_these (IfBoxed job told) job number node engine solution h solves there (λ b o. out_front job number engine work h told b o w at out found) boxed outer
