-- The calculator of a node whose engine was wound up isn't left open.
use Rattle.std.proofs.Common.{◌≡◌, ℕ, suc, ◌+◌, ◌<◌, ◌≤◌, Bool, true, false, not, List, [], ◌∷◌, ◌++◌, length, map, take, drop, append-nil, Option, Some, None, IfSome, option_map, is_some, Result, slice_get, ◌⊎◌, inl, inr, refl, ap, ap₂, sym, subst, ◌∙◌, arith}
use Rattle.std.specs.Prelude.{◌&&◌, ◌==◌, ℤ, Ok, Err, if◌then◌else◌}
use Rattle.std.specs.List.{filter_map}
use Rattle.std.proofs.lemmas.Bool.{cases_Bool}
use Rattle.mg_value.specs.Payload.{Plain}
use Rattle.mg_time.specs.Time.{done}
use Rattle.mg_value.specs.Packet.{Stamped}
use Rattle.mg_settled.specs.Prefix.{StreamPrefix}
use Rattle.mg_settled.specs.Settled.{reach}
use Rattle.mg_calc.specs.declared.call.Call.{Call}
use Rattle.mg_calc.specs.declared.call.Call.TheVariants.{Finished}
use Rattle.mg_calc.specs.declared.cause.Cause.{Cause}
use Rattle.mg_calc.specs.declared.emission.Laid.{Laid}
use Rattle.mg_calc.specs.declared.node_fault.NodeFault.{NodeFault}
use Rattle.mg_calc.specs.declared.node_fault.Phase.{Phase}
use Rattle.mg_calc.specs.declared.node_fault.Phase.TheVariants.{Open, Call as SourceCall, Process, Close}
use Rattle.mg_calc.specs.declared.plan_node.PlanNode.{PlanNode}
use Rattle.mg_calc.specs.Laying.{after, laid_behind, all_raised}
use Rattle.mg_calc.specs.Law.{finish}
use Rattle.mg_calc.specs.Equations.{Job, sides_of, inputs_of, outcome_of, rules_at}
use Rattle.mg_calc.specs.Outcome.{Failure, Outcome, after_close, closed_with, shown_all, finished, with_reach}
use Rattle.mg_calc.specs.Shape.{IsOuter}
use Rattle.mg_calc.specs.Meaning.{count_of}
use Rattle.mg_calc.specs.Told.{BoxTold, with_call}
use Rattle.mg_route.specs.HolderView.{HolderView, FitsHolder, told_by, held_rules}
use Rattle.mg_node.specs.Views.{ContextView, WorkView, OutcomeView, EntryView, EngineView}
use Rattle.mg_node.specs.Job.{LoggedJob, Solves, sets_of, count_of_all, stage, IsTask, first_log, log_after, calls_before, calls_in}
use Rattle.mg_node.specs.Lawful.{of_node, HasAnswered, answer_in, come_to, is_close, LawfulOutcome, StandsAt, IsEntry, IsEngineOf, LawfulEngine, kept_after}
use Rattle.mg_node.specs.Claims.{has_ended}
use Rattle.mg_node.specs.WindingUp.{closes_after, closes_despite, lacks_close, was_closed, ClosesWork, FinishesWork, FinishesBack, FinishesEntry, FinishesFirst, FinishesFront, WindsUp}
use Rattle.mg_node.specs.Leaving.{calculator_in, calculators_in, handed_told, first_handed}
use Rattle.mg_node.specs.Had.{HadFront, FailsToOpen, HadClose, state_by}
use Rattle.mg_node.proofs.CallsHad.{IsNotIn, unless_not_in, sets_not_in, stage_earlier, finish_if, boxed_one, context_is, first_of, more_calls, EndsAs, ends_as}
use Rattle.mg_node.proofs.Closing.{second_not}
use Rattle.mg_node.proofs.OneCalculator.{one_handed, one_context}
use Rattle.mg_node.proofs.RestingEnds.{most_counted, of_these}
use Rattle.mg_node.proofs.Stages.{failed_is_all, outer_stage, outer_outcome, sets_in_parts}
use Rattle.mg_node.proofs.StatesKept.{next_state, answered_state, come_state}
use Rattle.mg_node.proofs.TaskLogs.{set_logged, task_within}
use Rattle.mg_node.proofs.FrontsHad.{front_by, calls_front, stage_at, never_called, AtWork, at_work, goes_well, goes_on, found_is}
use Rattle.mg_node.proofs.HeldRules.{rules_fit}
use Rattle.mg_calc.specs.Rules.{Rules, Laws}
use Rattle.mg_calc.specs.Answer.{Answer}

-- A node that hasn't failed in Open after some of its sets doesn't fail there.

closed_past : (o : Outcome) (r : Result (List (StreamPrefix Plain)) Cause) → IsNotIn Open o.fault → IsNotIn Open (after_close o r).fault
closed_past o (Ok outputs) past = past
closed_past o (Err cause) past = λ is. absurd cc

closing_past : (offset : Option ℤ) (o : Outcome) (answer : Answer) → IsNotIn Open o.fault → IsNotIn Open (closed_with offset o answer).fault
closing_past offset o (Err cause) past = λ is. absurd cc
closing_past offset o (Ok given) past = closed_past (record o { state = given.0 }) (laid_behind offset Close o.outputs given.1) past

reach_past : (rules : Rules) (offset : Option ℤ) (reached : ℕ) (o : Outcome) (at_end : Bool) → IsNotIn Open o.fault
    → IsNotIn Open (if at_end then finished rules offset (record o { outputs = all_raised offset reached o.outputs }) else record o { outputs = all_raised offset reached o.outputs }).fault
reach_past rules offset reached o true past = (let up : Outcome = record o { outputs = all_raised offset reached o.outputs } in
    closing_past offset up (rules.finish up.state) past)
reach_past rules offset reached o false past = past

past_open : (job : Job) (streams : List (StreamPrefix Plain)) (node : PlanNode) (n : ℕ) → IsOuter node.law → IsNotIn Open (stage job streams node n).fault → ¬ FailsToOpen job streams node
past_open job streams node n outer past fails =
    let offset = node.shape.offset in
    let reached = reach node.policy (inputs_of streams node) in
    let sets = sets_of streams node in
    let first = shown_all (rules_at job node) offset (length node.outputs) (sides_of job node) (take n sets) in
    let all = shown_all (rules_at job node) offset (length node.outputs) (sides_of job node) sets in
    let here : IsNotIn Open first.fault = subst (λ (o : Outcome). IsNotIn Open o.fault) (outer_stage node.law job streams node n outer) past in
    let sets_past : IsNotIn Open all.fault = subst (λ (o : Outcome). IsNotIn Open o.fault) (sym (sets_in_parts (rules_at job node) offset (length node.outputs) (sides_of job node) sets n))
    (sets_not_in Open (rules_at job node) offset first (drop n sets) (λ at e. absurd cc) here) in
    let whole : IsNotIn Open (outcome_of job streams node).fault = subst (λ (o : Outcome). IsNotIn Open o.fault) (sym (outer_outcome node.law job streams node outer))
    (unless_not_in Open all.fault all (with_reach (rules_at job node) offset reached all) sets_past (reach_past (rules_at job node) offset reached all (reached == done) sets_past)) in
    subst (IsNotIn Open) fails.fails whole fails.in_open

good_open : (job : Job) (streams : List (StreamPrefix Plain)) (node : PlanNode) (n : ℕ) → IsOuter node.law → (stage job streams node n).fault ≡ None → ¬ FailsToOpen job streams node
good_open job streams node n outer good = past_open job streams node n outer (subst (IsNotIn Open) (sym good) tt)

close_by : {laws : Laws} (job : LoggedJob laws) (streams : List (StreamPrefix Plain)) (node : PlanNode) (held : HolderView) (n : ℕ) → IsOuter node.law → FitsHolder node held → n ≤ count_of job.job streams node → held.log ≡ log_after job node (calls_before streams node n ++ finish_if true)
    → held.state ≡ state_by job.job streams node n true → ¬ FailsToOpen job.job streams node → HadClose job streams node (told_by held)
close_by {laws} job streams node held n outer fits le log state well = record { front = front_by job streams node held n true outer fits le log state; begun = omega arith; closed = inl (refl, well) }

-- a calculator was closed
record Closes (laws : Laws) (before now : HolderView) : Type 0 where
  log : now.log ≡ with_call before.log Finished
  state : now.state ≡ kept_after ((held_rules laws before).finish before.state) before.state
  law : now.law ≡ before.law
  shape : now.shape ≡ before.shape
  same_handed : now.handed ≡ before.handed

-- what Close leaves of the state that the node has reached
closed_of : {laws : Laws} (job : LoggedJob laws) (streams : List (StreamPrefix Plain)) (node : PlanNode) (held : HolderView) (n : ℕ) → held_rules laws held ≡ rules_at job.job node → held.state ≡ (stage job.job streams node n).state
    → kept_after ((held_rules laws held).finish held.state) held.state ≡ state_by job.job streams node n true
closed_of {laws} job streams node held n same state =
    ap (λ (r : Rules). kept_after (r.finish held.state) held.state) same ∙ ap (λ (s : List Plain). kept_after ((rules_at job.job node).finish s) s) state

closed_after : {laws : Laws} (job : LoggedJob laws) (streams : List (StreamPrefix Plain)) (node : PlanNode) (held now : HolderView) (n : ℕ) → IsOuter node.law → FitsHolder node held → n ≤ count_of job.job streams node → held.log ≡ log_after job node (calls_before streams node n)
    → held.state ≡ (stage job.job streams node n).state → ¬ FailsToOpen job.job streams node → held_rules laws held ≡ rules_at job.job node → Closes laws held now → HadClose job streams node (told_by now)
closed_after {laws} job streams node held now n outer fits le log state well rules c =
    close_by job streams node now n outer (record { same_law = c.law ∙ fits.same_law; same_shape = c.shape ∙ fits.same_shape; same_handed = c.same_handed ∙ fits.same_handed }) le
    (c.log ∙ ap (λ (l : Option (List Call)). with_call l Finished) log ∙ more_calls (first_log job node) (calls_before streams node n) (finish_if true)) (c.state ∙ closed_of job streams node held n rules state) well

same_closed : {laws : Laws} (job : LoggedJob laws) (streams : List (StreamPrefix Plain)) (node : PlanNode) (held now : HolderView) → now ≡ held → HadClose job streams node (told_by held) → HadClose job streams node (told_by now)
same_closed {laws} job streams node held now same had = subst (λ (h : HolderView). HadClose job streams node (told_by h)) (sym same) had

phase_closed : {laws : Laws} (job : LoggedJob laws) (streams : List (StreamPrefix Plain)) (number : ℕ) (node : PlanNode) (held now : HolderView) (n : ℕ) (phase : Phase) (set : List (Option (Stamped Plain))) (answer : Result (List Laid) Cause) → Solves job streams
    → slice_get job.job.plan.nodes number ≡ Some node → IsOuter node.law → FitsHolder node held → IsTask job.job streams node n phase set → n ≤ count_of job.job streams node
    → (n < count_of_all streams node → n + 1 ≤ count_of job.job streams node) → (stage job.job streams node n).fault ≡ None
    → HasAnswered answer (stage job.job streams node n).state held.state (answer_in (rules_at job.job node) node.law (stage job.job streams node n).state phase set)
    → held.log ≡ log_after job node (calls_before streams node n ++ calls_in phase set) → (is_close phase && true ≡ false → Closes laws held now) → (is_close phase && true ≡ true → now ≡ held)
    → HadClose job streams node (told_by now)
phase_closed {laws} job streams number node held now n Open set answer solves there outer fits task le more good answered log closes had = absurd task
phase_closed {laws} job streams number node held now n (SourceCall call) set answer solves there outer fits task le more good answered log closes had = absurd (never_called node.law outer task.0)
phase_closed {laws} job streams number node held now n (Process at) set answer solves there outer fits task le more good answered log closes had =
    closed_after job streams node held now (n + 1) outer fits (more (task_within job streams node n (Process at) set refl task))
    (log ∙ ap (log_after job node) (set_logged streams node n (record { at = at; set = set }) outer task.1 ∙ append-nil (calls_before streams node (n + 1))))
    (next_state job streams number node n at set answer held.state solves there task good answered) (good_open job.job streams node n outer good) (rules_fit job number node held solves.is_job.plan there fits) (closes refl)
phase_closed {laws} job streams number node held now n Close set answer solves there outer fits task le more good answered log closes had =
    same_closed job streams node held now (had refl) (close_by job streams node held n outer fits le log (answered_state (stage job.job streams node n).state held.state answer ((rules_at job.job node).finish (stage job.job streams node n).state) answered) (good_open job.job streams node n outer good))

never_both : (b : Bool) → (b && false) ≡ false
never_both true = refl
never_both false = refl

closes_of : {laws : Laws} (before now : OutcomeView) → ClosesWork laws before now → Closes laws before.work.context.told now.work.context.told
closes_of {laws} before now c =
    let f = c.is_finished in
    let is : now.work.context.told ≡ c.finished.told = ap (λ (o : OutcomeView). o.work.context.told) c.is in
    record {
      log = ap (λ (h : HolderView). h.log) is ∙ f.log;
      state = ap (λ (h : HolderView). h.state) is ∙ f.state;
      law = ap (λ (h : HolderView). h.law) is ∙ f.law;
      shape = ap (λ (h : HolderView). h.shape) is ∙ f.shape;
      same_handed = ap (λ (h : HolderView). h.handed) is ∙ f.same_handed;
    }

told_same : (before now : OutcomeView) → now ≡ before → now.work.context.told ≡ before.work.context.told
told_same before now is = ap (λ (o : OutcomeView). o.work.context.told) is

work_closed : {laws : Laws} (job : LoggedJob laws) (streams : List (StreamPrefix Plain)) (number : ℕ) (node : PlanNode) (work : WorkView) (answer : Option (Result (List Laid) Cause)) (now : OutcomeView) → Solves job streams → slice_get job.job.plan.nodes number ≡ Some node → IsOuter node.law
    → AtWork job (record { work = work; answer = answer }) streams node → work.number ≤ count_of job.job streams node → (work.number < count_of_all streams node → work.number + 1 ≤ count_of job.job streams node) → (stage job.job streams node work.number).fault ≡ None
    → FinishesWork laws (record { work = work; answer = answer }) now → HadClose job streams node (told_by now.work.context.told)
work_closed {laws} job streams number node work None now solves there outer w le more good f =
    closed_after job streams node work.context.told now.work.context.told work.number outer w.0 le w.2.1 w.2.0 (good_open job.job streams node work.number outer good) (rules_fit job number node work.context.told solves.is_job.plan there w.0) (closes_of (record { work = work; answer = None }) now (f.closes (never_both (is_close work.phase))))
work_closed {laws} job streams number node work (Some answer) now solves there outer w le more good f =
    phase_closed job streams number node work.context.told now.work.context.told work.number work.phase work.context.set answer solves there outer w.0 w.1 le more good w.2.0 w.2.1 (λ is. closes_of (record { work = work; answer = Some answer }) now (f.closes is))
    (λ is. told_same (record { work = work; answer = Some answer }) now (f.had is))

-- that of the one work in a window
pub held_after : {laws : Laws} (before now : OutcomeView) → FinishesWork laws before now → now.work.context.told.handed ≡ before.work.context.told.handed
held_after {laws} before now f = elim (cases_Bool (was_closed before)) [
  | inl is ↦ ap (λ (h : HolderView). h.handed) (told_same before now (f.had is))
  | inr is ↦ (closes_of before now (f.closes is)).same_handed
]

only_one : (engine : EngineView) (entry : EntryView) (o : Option OutcomeView) → engine.idle ≡ [] → engine.window ≡ entry ∷ [] → entry.outcome ≡ o → calculators_in engine ≡ filter_map calculator_in (record { phase = entry.phase; outcome = o; committed = entry.committed } ∷ [])
only_one engine entry o idle window out =
    ap₂ (λ (bs : List ContextView) (es : List EntryView). map (λ b. b.told) bs ++ filter_map calculator_in es) idle window
    ∙ ap (λ (x : Option OutcomeView). filter_map calculator_in (record { phase = entry.phase; outcome = x; committed = entry.committed } ∷ [])) out

-- an engine whose one entry may have been finished
record HasFront (laws : Laws) (now : EngineView) (outcome : Option OutcomeView) : Type 0 where
  entry : EntryView
  idle : now.idle ≡ []
  window : now.window ≡ entry ∷ []
  back : FinishesBack laws outcome entry.outcome

has_front : {laws : Laws} (engine engine_now : EngineView) (entry : EntryView) → engine.idle ≡ [] → engine.window ≡ entry ∷ [] → FinishesFront laws engine engine_now → HasFront laws engine_now entry.outcome
has_front {laws} engine engine_now entry idle window f =
    let first : FinishesFirst laws (entry ∷ []) f.window = subst (λ (es : List EntryView). FinishesFirst laws es f.window) window f.finishes in
    let e : FinishesEntry laws entry first.0 = first.1 in
    record {
      entry = first.0;
      idle = ap (λ (v : EngineView). v.idle) f.is ∙ idle;
      window = ap (λ (v : EngineView). v.window) f.is ∙ first.2;
      back = subst (FinishesBack laws entry.outcome) (sym (ap (λ (x : EntryView). x.outcome) e.is)) e.finishes;
    }

window_closed : {laws : Laws} (job : LoggedJob laws) (number : ℕ) (engine engine_now : EngineView) (h : IsEngineOf job number engine) (told : BoxTold) (entry : EntryView) (o : Option OutcomeView) → is_some h.node.box_number ≡ true → IsOuter h.node.law → engine.idle ≡ [] → engine.window ≡ entry ∷ []
    → entry.outcome ≡ o → HasFront laws engine_now o → first_handed engine_now ≡ Some told → HadClose job h.streams h.node told
unfolding LawfulOutcome
window_closed {laws} job number engine engine_now h told entry None boxed outer idle window out f found =
    absurd (let clash : None ≡ Some told = ap (λ (hs : List HolderView). slice_get (filter_map handed_told hs) 0) (sym (only_one engine_now f.entry None f.idle f.window f.back)) ∙ found in cc)
window_closed {laws} job number engine engine_now h told entry (Some o) boxed outer idle window out f found =
    let now : OutcomeView = f.back.0 in
    let held = now.work.context.told in
    let only : calculators_in engine_now ≡ held ∷ [] = only_one engine_now f.entry (Some now) f.idle f.window f.back.2 in
    let e : IsEntry job h.streams h.node engine.laid (engine.laid + 0) number entry = h.entries 0 entry (ap (λ (es : List EntryView). slice_get es 0) window) in
    let stands : StandsAt job number (engine.laid + 0) entry.phase o = subst (λ (x : Option OutcomeView). IfSome x (λ y. StandsAt job number (engine.laid + 0) entry.phase y)) out e.outcome in
    let w : AtWork job o h.streams h.node = at_work job h.streams number h.node o h.solves h.there stands.lawful stands.node_is in
    let at = stands.number_is in
    let taken = h.taken in
    let more : o.work.number < count_of_all h.streams h.node → o.work.number + 1 ≤ count_of job.job h.streams h.node = λ less. (let one = goes_on job number engine h idle (omega (arith, less, at)) in omega (arith, one, at)) in
    let handed : held.handed ≡ true = held_after o now f.back.1 ∙ w.0.same_handed ∙ boxed in
    let here : first_handed engine_now ≡ Some (told_by held) = ap (λ (hs : List HolderView). slice_get (filter_map handed_told hs) 0) only ∙ ap (λ (ts : List BoxTold). slice_get ts 0) (one_handed held handed) in
    subst (HadClose job h.streams h.node) (found_is engine_now held told here found)
    (work_closed job h.streams number h.node o.work o.answer now h.solves h.there outer w (omega (arith, taken, at)) more
    (let there : engine.laid ≡ o.work.number = omega (arith, at) in subst (λ (m : ℕ). (stage job.job h.streams h.node m).fault ≡ None) there (goes_well job number engine h idle)) f.back.1)

-- an engine lacks Close while it goes on
none_if : {X : Type 0} (o : Option X) → is_some o ≡ false → o ≡ None
none_if None none = refl
none_if (Some x) none = absurd cc

lacks_going : {laws : Laws} (job : LoggedJob laws) (number : ℕ) (engine : EngineView) (h : IsEngineOf job number engine) → engine.idle ≡ [] → lacks_close engine ≡ true
lacks_going {laws} job number engine h idle = elim (cases_Bool (has_ended engine)) [
  | inl ended ↦ absurd (let some = h.ended ended in let none = ap length idle in omega (arith, some, none))
  | inr goes ↦
      (let on = second_not engine.closed (is_some engine.fault) goes in
      ap (λ (b : Bool). b && not engine.closed && closes_despite engine.fault) h.begun ∙ ap₂ (λ (b : Bool) (f : Option NodeFault). true && not b && closes_despite f) on.0 (none_if engine.fault on.1))
]

-- the one idle context, if Close was lacking

lacks_not : (begun closed other : Bool) → (begun && not closed && other) ≡ true → closed ≡ false
lacks_not begun false other lacks = refl
lacks_not true true other lacks = absurd cc
lacks_not false true other lacks = absurd cc

lacks_despite : (begun closed other : Bool) → (begun && not closed && other) ≡ true → other ≡ true
lacks_despite true false other lacks = lacks
lacks_despite true true other lacks = absurd cc
lacks_despite false false other lacks = absurd cc
lacks_despite false true other lacks = absurd cc

despite_past : (number : ℕ) (fault : Option Failure) → closes_despite (option_map (λ f. record { node = number; phase = f.phase; cause = f.cause }) fault) ≡ true → IsNotIn Open fault
despite_past number None closes = tt
despite_past number (Some failure) closes = λ is. absurd (let clash : true ≡ false = sym closes ∙ ap closes_after is in cc)

ended_closed : {laws : Laws} (job : LoggedJob laws) (number : ℕ) (engine engine_now : EngineView) (h : IsEngineOf job number engine) (told : BoxTold) (context : ContextView) → is_some h.node.box_number ≡ true → IsOuter h.node.law → engine.idle ≡ context ∷ [] → engine.window ≡ [] → lacks_close engine ≡ true
    → WindsUp laws engine engine_now → first_handed engine_now ≡ Some told → HadClose job h.streams h.node told
ended_closed {laws} job number engine engine_now h told context boxed outer idle window lacks winds found =
    let one = context_is job number engine h context idle window in
    let end : EndsAs laws one.context true engine_now = ends_as engine engine_now one.context true lacks one.idle one.window (one.is.fits.same_handed ∙ boxed) winds in
    let going : engine.closed ≡ false = lacks_not engine.begun engine.closed (closes_despite engine.fault) lacks in
    let fault = h.fault ∙ ap (λ (b : Bool). option_map (λ f. record { node = number; phase = f.phase; cause = f.cause }) (come_to job h.streams h.node engine.laid b).fault) going in
    let state : one.context.told.state ≡ (stage job.job h.streams h.node engine.laid).state = one.is.state ∙ ap (λ (b : Bool). (come_to job h.streams h.node engine.laid b).state) going in
    let past = despite_past number (stage job.job h.streams h.node engine.laid).fault (sym (ap closes_despite fault) ∙ lacks_despite engine.begun engine.closed (closes_despite engine.fault) lacks) in
    let before : one.context.told.log ≡ log_after job h.node (calls_before h.streams h.node engine.laid) =
    one.is.log ∙ ap (λ (b : Bool). log_after job h.node (calls_before h.streams h.node engine.laid ++ finish_if b)) going ∙ ap (log_after job h.node) (append-nil (calls_before h.streams h.node engine.laid)) in
    let log : end.told.log ≡ log_after job h.node (calls_before h.streams h.node engine.laid ++ finish_if true) =
    end.log ∙ ap (option_map (λ calls. calls ++ finish_if true)) before ∙ more_calls (first_log job h.node) (calls_before h.streams h.node engine.laid) (finish_if true) in
    subst (HadClose job h.streams h.node) (found_is engine_now end.told told end.found found)
    (record {
      front = record {
        count = suc engine.laid;
        close = true;
        opened = λ closed. omega arith;
        log = log ∙ ap (log_after job h.node) (calls_front job h.streams h.node engine.laid true outer h.taken);
        unopened = λ none. absurd (omega (arith, none));
        state = λ shown is. end.state ∙ closed_of job h.streams h.node one.context.told engine.laid (rules_fit job number h.node one.context.told h.solves.is_job.plan h.there one.is.fits) state ∙ stage_at job.job h.streams h.node engine.laid shown true is;
        fits = record { same_law = end.law ∙ one.is.fits.same_law; same_shape = end.shape ∙ one.is.fits.same_shape };
      };
      begun = omega arith;
      closed = inl (refl, past_open job.job h.streams h.node engine.laid outer past);
    })

-- and if Close wasn't lacking: Close is laid, or Open failed

lacks_why : (closed : Bool) (fault : Option NodeFault) → (not closed && closes_despite fault) ≡ false → (closed ≡ true) ⊎ ((closed ≡ false) × ((f : NodeFault) × (fault ≡ Some f) × (closes_after f.phase ≡ false)))
lacks_why true fault is = inl refl
lacks_why false None is = absurd cc
lacks_why false (Some f) is = inr (refl, (f, refl, is))

open_phase : (phase : Phase) → closes_after phase ≡ false → (phase ≡ Close → ⊥) → phase ≡ Open
open_phase Open is earlier = refl
open_phase (SourceCall k) is earlier = absurd cc
open_phase (Process at) is earlier = absurd cc
open_phase Close is earlier = absurd (earlier refl)

open_failed : {laws : Laws} (job : LoggedJob laws) (streams : List (StreamPrefix Plain)) (node : PlanNode) (number n : ℕ) (f : NodeFault) (g : Option Failure) → IsOuter node.law → n ≤ count_of job.job streams node → (stage job.job streams node n).fault ≡ g
    → Some f ≡ option_map (λ x. record { node = number; phase = x.phase; cause = x.cause }) g → closes_after f.phase ≡ false → FailsToOpen job.job streams node
open_failed {laws} job streams node number n f None outer le stage_is is after = absurd cc
open_failed {laws} job streams node number n f (Some g) outer le stage_is is after =
    let most = most_counted job.job streams node in
    let same : f.phase ≡ g.phase = (let both : Some f.phase ≡ Some g.phase = ap (option_map (λ (x : NodeFault). x.phase)) is in cc) in
    let earlier : IsNotIn Close (Some g) = subst (IsNotIn Close) stage_is (stage_earlier job.job streams node n outer) in
    record {
      failure = g;
      fails = ap (λ (o : Outcome). o.fault) (failed_is_all job.job streams node n g (omega (arith, le, most)) stage_is) ∙ stage_is;
      in_open = open_phase g.phase (ap closes_after (sym same) ∙ after) earlier;
    }

idle_closed : {laws : Laws} (job : LoggedJob laws) (number : ℕ) (engine : EngineView) (h : IsEngineOf job number engine) (told : BoxTold) (context : ContextView) → is_some h.node.box_number ≡ true → IsOuter h.node.law → engine.idle ≡ context ∷ [] → engine.window ≡ [] → lacks_close engine ≡ false
    → first_handed engine ≡ Some told → HadClose job h.streams h.node told
idle_closed {laws} job number engine h told context boxed outer idle window lacks found =
    let one = context_is job number engine h context idle window in
    let held = one.context.told in
    let state : held.state ≡ state_by job.job h.streams h.node engine.laid engine.closed = one.is.state ∙ come_state job h.streams h.node engine.laid engine.closed outer h.closed in
    let why = lacks_why engine.closed engine.fault (sym (ap (λ (b : Bool). b && not engine.closed && closes_despite engine.fault) h.begun) ∙ lacks) in
    subst (HadClose job h.streams h.node) (found_is engine held told (first_of engine one.context one.idle one.window (one.is.fits.same_handed ∙ boxed)) found)
    (elim why [
      | inl is ↦
          close_by job h.streams h.node held engine.laid outer one.is.fits h.taken (one.is.log ∙ ap (λ (b : Bool). log_after job h.node (calls_before h.streams h.node engine.laid ++ finish_if b)) is) (state ∙ ap (λ (b : Bool). state_by job.job h.streams h.node engine.laid b) is)
          (good_open job.job h.streams h.node engine.laid outer (h.closed is).good)
      | inr f ↦
          record {
            front = front_by job h.streams h.node held engine.laid engine.closed outer one.is.fits h.taken one.is.log state;
            begun = omega arith;
            closed = inr (
              f.0,
              open_failed job h.streams h.node number engine.laid f.1.0 (stage job.job h.streams h.node engine.laid).fault outer h.taken refl
                  (sym f.1.1 ∙ h.fault ∙ ap (λ (b : Bool). option_map (λ x. record { node = number; phase = x.phase; cause = x.cause }) (come_to job h.streams h.node engine.laid b).fault) f.0) f.1.2,
            );
          }
    ])

closed_by : {laws : Laws} (job : LoggedJob laws) (number : ℕ) (engine engine_now : EngineView) (h : IsEngineOf job number engine) (told : BoxTold) → is_some h.node.box_number ≡ true → IsOuter h.node.law → WindsUp laws engine engine_now → first_handed engine_now ≡ Some told → HadClose job h.streams h.node told
closed_by {laws} job number engine engine_now h told boxed outer winds found = elim (one_context engine.idle engine.window (boxed_one job number engine h boxed)) [
  | inl b ↦ elim (cases_Bool (lacks_close engine)) [
    | inr had ↦ idle_closed job number engine h told b.0 boxed outer b.1 b.2 had (sym (ap first_handed (winds.had_close had)) ∙ found)
    | inl lacks ↦ ended_closed job number engine engine_now h told b.0 boxed outer b.1 b.2 lacks winds found
  ]
  | inr e ↦
      window_closed job number engine engine_now h told e.0 e.0.outcome boxed outer e.1 e.2 refl
      (has_front engine engine_now e.0 e.1 e.2 (winds.none_idle (lacks_going job number engine h e.1) e.1)) found
]

abbrev ClosedIfBoxed : {laws : Laws} → LoggedJob laws → BoxTold → List (StreamPrefix Plain) → PlanNode → Type 0
ClosedIfBoxed {laws} job told solution node = is_some node.box_number ≡ true → IsOuter node.law → HadClose job solution node told

pub wound_closed : {laws : Laws} (job : LoggedJob laws) (number : ℕ) (node : PlanNode) (engine engine_now : EngineView) (solution : List (StreamPrefix Plain)) (told : BoxTold) → Solves job solution → slice_get job.job.plan.nodes number ≡ Some node → is_some node.box_number ≡ true → IsOuter node.law
    → LawfulEngine job (of_node number) engine → WindsUp laws engine engine_now → first_handed engine_now ≡ Some told → HadClose job solution node told
unfolding LawfulEngine
wound_closed {laws} job number node engine engine_now solution told solves there boxed outer h winds found =
    of_these (ClosedIfBoxed job told) job number node engine solution h solves there (λ b o. closed_by job number engine engine_now h told b o winds found) boxed outer

pub wound_front : {laws : Laws} (job : LoggedJob laws) (number : ℕ) (node : PlanNode) (engine engine_now : EngineView) (solution : List (StreamPrefix Plain)) (told : BoxTold) → Solves job solution → slice_get job.job.plan.nodes number ≡ Some node → is_some node.box_number ≡ true → IsOuter node.law
    → LawfulEngine job (of_node number) engine → WindsUp laws engine engine_now → first_handed engine_now ≡ Some told → HadFront job solution node told
wound_front {laws} job number node engine engine_now solution told solves there boxed outer h winds found = (wound_closed job number node engine engine_now solution told solves there boxed outer h winds found).front
