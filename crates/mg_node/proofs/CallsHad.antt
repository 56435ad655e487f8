-- The calls that a user-supplied calculator has had, once its cell has come to rest and is wound up: all that its node has.
use Rattle.std.proofs.Common.{◌≡◌, ℕ, ℤ, ◌+◌, ◌<◌, Bool, true, false, not, List, [], ◌∷◌, ◌++◌, length, map, take, append-nil, Option, Some, None, option_map, is_some, Result, Ok, Err, slice_get, ◌⊎◌, inl, inr, refl, ap, ap₂, sym, subst, ◌∙◌, arith, if◌then◌else◌}
use Rattle.std.specs.Prelude.{◌&&◌, ⊤}
use Rattle.std.specs.List.{AllByRecursion, fold, filter_map}
use Rattle.std.proofs.lemmas.List.{append_assoc, same_from_push}
use Rattle.std.proofs.lemmas.List.Elements.{recursion_from_All}
use Rattle.mg_time.specs.Time.{done}
use Rattle.mg_value.specs.Payload.{Plain}
use Rattle.mg_settled.specs.Prefix.{StreamPrefix}
use Rattle.mg_settled.specs.Settled.{TimedSet}
use Rattle.mg_calc.specs.declared.call.Call.{Call}
use Rattle.mg_calc.specs.declared.call.Call.TheVariants.{Begun, Shown, Finished}
use Rattle.mg_calc.specs.declared.cause.Cause.{Cause}
use Rattle.mg_calc.specs.declared.node_fault.NodeFault.{NodeFault}
use Rattle.mg_calc.specs.declared.node_fault.Phase.{Phase}
use Rattle.mg_calc.specs.declared.node_fault.Phase.TheVariants.{Open, Call as SourceCall, Process, Close}
use Rattle.mg_calc.specs.declared.plan_node.PlanNode.{PlanNode}
use Rattle.mg_calc.specs.Answer.{Answer}
use Rattle.mg_calc.specs.Law.{opening, step, finish}
use Rattle.mg_calc.specs.Laying.{laid_behind, all_raised}
use Rattle.mg_calc.specs.Outcome.{Failure, Outcome, after_laying, after_call, unopened, opened, unless_failed, shown, after_close, closed_with}
use Rattle.mg_calc.specs.Shape.{IsOuter}
use Rattle.mg_calc.specs.Equations.{Job, sides_of, inputs_of, outcome_of, rules_at}
use Rattle.mg_calc.specs.Meaning.{last_call, log_of}
use Rattle.mg_calc.specs.Plan.{FlightFits}
use Rattle.mg_calc.specs.Told.{BoxTold, with_call}
use Rattle.mg_calc.specs.Rules.{Rules, Laws}
use Rattle.mg_route.specs.HolderView.{HolderView, told_by, held_rules}
use Rattle.mg_node.specs.Views.{IntakeView, ContextView, EntryView, EngineView}
use Rattle.mg_node.specs.Job.{LoggedJob, Solves, sets_of, stage, IsLastWork, first_log, log_after, calls_before}
use Rattle.mg_node.specs.Lawful.{of_node, come_to, calls_by, IsIdle, IsEngineOf, LawfulEngine, LawfulIntake, Agree, kept_after}
use Rattle.mg_node.specs.Claims.{has_ended}
use Rattle.mg_node.specs.WindingUp.{closes_despite, lacks_close, FinishesLast, WindsUp, closes_after}
use Rattle.mg_node.specs.Leaving.{calculators_in, handed_told, first_handed}
use Rattle.mg_node.specs.Resting.{IsResting, HasCome}
use Rattle.mg_node.specs.Had.{HadCalls, opens_well, had_close, state_by}
use Rattle.mg_node.proofs.HeldRules.{of_node as at_node, rules_fit}
use Rattle.mg_node.proofs.OneCalculator.{one_handed, boxed_some, one_context}
use Rattle.mg_node.proofs.RestingCounts.{HasBecome, rests_become}
use Rattle.mg_node.proofs.RestingEnds.{of_these}
use Rattle.mg_node.proofs.Stages.{outer_stage, outer_last}
use Rattle.mg_node.proofs.TaskLogs.{shown_calls}
use Rattle.mg_node.proofs.StatesKept.{come_state}

-- In which phase a node fails: at a set or in Open it is before Close, and once it is closed in Close.

-- it doesn't fail in some phase
abbrev pub IsNotIn : Phase → Option Failure → Type 0
IsNotIn other None = ⊤
IsNotIn other (Some failure) = failure.phase ≡ other → ⊥

abbrev IsOfClose : Option Failure → Type 0
IsOfClose None = ⊤
IsOfClose (Some failure) = failure.phase ≡ Close

laid_not_in : (other phase : Phase) (o : Outcome) (r : Result (List (StreamPrefix Plain)) Cause) → (phase ≡ other → ⊥) → IsNotIn other o.fault → IsNotIn other (after_laying phase o r).fault
laid_not_in other phase o (Ok outputs) differs before = before
laid_not_in other phase o (Err cause) differs before = differs

call_not_in : (other : Phase) (offset : Option ℤ) (phase : Phase) (o : Outcome) (answer : Answer) → (phase ≡ other → ⊥) → IsNotIn other o.fault → IsNotIn other (after_call offset phase o answer).fault
call_not_in other offset phase o (Err cause) differs before = differs
call_not_in other offset phase o (Ok given) differs before = laid_not_in other phase (record o { state = given.0 }) (laid_behind offset phase o.outputs given.1) differs before

pub unless_not_in : (other : Phase) (fault : Option Failure) (o next : Outcome) → IsNotIn other o.fault → IsNotIn other next.fault → IsNotIn other (unless_failed fault o next).fault
unless_not_in other (Some failure) o next before later = before
unless_not_in other None o next before later = later

set_not_in : (other : Phase) (rules : Rules) (offset : Option ℤ) (o : Outcome) (set : TimedSet Plain) → ((at : ℕ) → Process at ≡ other → ⊥) → IsNotIn other o.fault → IsNotIn other (shown rules offset o set).fault
set_not_in other rules offset o set differs earlier =
    let before : Outcome = record o { outputs = all_raised offset set.at o.outputs; taken = o.taken + 1 } in
    let answer = rules.step o.state set.at set.set in
    unless_not_in other o.fault o (after_call offset (Process set.at) before answer) earlier (call_not_in other offset (Process set.at) before answer (differs set.at) earlier)

pub sets_not_in : (other : Phase) (rules : Rules) (offset : Option ℤ) (o : Outcome) (sets : List (TimedSet Plain)) → ((at : ℕ) → Process at ≡ other → ⊥) → IsNotIn other o.fault → IsNotIn other (fold (shown rules offset) o sets).fault
sets_not_in other rules offset o [] differs before = before
sets_not_in other rules offset o (set ∷ sets) differs before = sets_not_in other rules offset (shown rules offset o set) sets differs (set_not_in other rules offset o set differs before)

pub stage_earlier : (job : Job) (streams : List (StreamPrefix Plain)) (node : PlanNode) (n : ℕ) → IsOuter node.law → IsNotIn Close (stage job streams node n).fault
stage_earlier job streams node n is =
    let offset = node.shape.offset in
    let sides = sides_of job node in
    let begun = opened (rules_at job node) offset (length node.outputs) sides in
    subst (λ (o : Outcome). IsNotIn Close o.fault) (sym (outer_stage node.law job streams node n is))
    (sets_not_in Close (rules_at job node) offset begun (take n (sets_of streams node)) (λ at e. absurd cc) (call_not_in Close offset Open (unopened (length node.outputs)) ((rules_at job node).opening sides) (λ e. absurd cc) tt))

close_fails : (o : Outcome) (r : Result (List (StreamPrefix Plain)) Cause) → o.fault ≡ None → IsOfClose (after_close o r).fault
close_fails o (Ok outputs) good = subst IsOfClose (sym good) tt
close_fails o (Err cause) good = refl

closing_fails : (offset : Option ℤ) (o : Outcome) (answer : Answer) → o.fault ≡ None → IsOfClose (closed_with offset o answer).fault
closing_fails offset o (Err cause) good = refl
closing_fails offset o (Ok given) good = close_fails (record o { state = given.0 }) (laid_behind offset Close o.outputs given.1) good

last_of_close : (job : Job) (streams : List (StreamPrefix Plain)) (node : PlanNode) (n : ℕ) → IsOuter node.law → IsLastWork job streams node n → IsOfClose (outcome_of job streams node).fault
last_of_close job streams node n is last =
    let offset = node.shape.offset in
    let before = stage job streams node n in
    let up : Outcome = record before { outputs = all_raised offset done before.outputs } in
    subst (λ (o : Outcome). IsOfClose o.fault) (sym (outer_last job streams node n is last))
    (closing_fails offset up ((rules_at job node).finish up.state) last.good)

-- So the calculator had Close once, in the run or by winding up, unless Open fails.

abbrev fault_with : ℕ → Failure → NodeFault
fault_with number f = record { node = number; phase = f.phase; cause = f.cause }

same_not_in : (number : ℕ) (f g : Option Failure) → option_map (fault_with number) f ≡ option_map (fault_with number) g → IsNotIn Close f → IsNotIn Close g
same_not_in number f None e earlier = tt
same_not_in number None (Some g) e earlier = absurd cc
same_not_in number (Some f) (Some g) e earlier =
    let both : Some f.phase ≡ Some g.phase = ap (option_map (λ (x : NodeFault). x.phase)) e in
    λ close. earlier (let same : f.phase ≡ g.phase = cc in same ∙ close)

abbrev pub finish_if : Bool → List Call
finish_if b = if b then Finished ∷ [] else []

at_phase : (closed : Bool) (phase : Phase) (number : ℕ) (cause : Cause) → (closed ≡ true → phase ≡ Close) → (closed ≡ false → phase ≡ Close → ⊥)
    → finish_if closed ++ finish_if (not closed && closes_despite (Some (record { node = number; phase = phase; cause = cause }))) ≡ last_call (Some (record { phase = phase; cause = cause }))
at_phase true Open number cause close earlier = absurd (let e = close refl in cc)
at_phase true (SourceCall k) number cause close earlier = refl
at_phase true (Process at) number cause close earlier = refl
at_phase true Close number cause close earlier = refl
at_phase false Open number cause close earlier = refl
at_phase false (SourceCall k) number cause close earlier = refl
at_phase false (Process at) number cause close earlier = refl
at_phase false Close number cause close earlier = absurd (earlier refl refl)

close_had : (closed : Bool) (number : ℕ) (f : Option Failure) → (closed ≡ true → IsOfClose f) → (closed ≡ false → IsNotIn Close f)
    → finish_if closed ++ finish_if (not closed && closes_despite (option_map (fault_with number) f)) ≡ last_call f
close_had true number None close earlier = refl
close_had false number None close earlier = refl
close_had closed number (Some f) close earlier = at_phase closed f.phase number f.cause close earlier

-- The one context of such a node is idle at rest.

pub record HasOneContext {laws : Laws} (job : LoggedJob laws) (streams : List (StreamPrefix Plain)) (node : PlanNode) (engine : EngineView) : Type 0 where
  pub context : ContextView
  pub idle : engine.idle ≡ context ∷ []
  pub window : engine.window ≡ []
  pub is : IsIdle job streams node engine.laid engine.closed context

pub boxed_one : {laws : Laws} (job : LoggedJob laws) (number : ℕ) (engine : EngineView) (h : IsEngineOf job number engine) → is_some h.node.box_number ≡ true → length engine.idle + length engine.window ≡ 1
boxed_one {laws} job number engine h boxed =
    let flight : FlightFits h.node = at_node FlightFits job.job.plan.nodes number h.node h.solves.is_job.plan.flights h.there in
    h.contexts ∙ h.set_up.in_flight ∙ flight.boxed (boxed_some h.node.box_number boxed)

pub context_is : {laws : Laws} (job : LoggedJob laws) (number : ℕ) (engine : EngineView) (h : IsEngineOf job number engine) (context : ContextView) → engine.idle ≡ context ∷ [] → engine.window ≡ [] → HasOneContext job h.streams h.node engine
context_is {laws} job number engine h context idle window =
    let P : ContextView → Type 0 = IsIdle job h.streams h.node engine.laid engine.closed in
    let all : AllByRecursion P (context ∷ []) = subst (AllByRecursion P) idle (recursion_from_All P engine.idle h.idle) in
    record { context = context; idle = idle; window = window; is = all.0 }

pub one_idle : {laws : Laws} (job : LoggedJob laws) (number : ℕ) (engine : EngineView) (h : IsEngineOf job number engine) → is_some h.node.box_number ≡ true → (has_ended engine ≡ true) ⊎ (engine.window ≡ []) → HasOneContext job h.streams h.node engine
one_idle {laws} job number engine h boxed rests = elim (one_context engine.idle engine.window (boxed_one job number engine h boxed)) [
  | inl b ↦ context_is job number engine h b.0 b.1 b.2
  | inr e ↦ elim rests [
    | inl ended ↦ absurd (let some = h.ended ended in let none = ap length e.1 in omega (arith, some, none))
    | inr empty ↦ absurd (let clash : [] ≡ e.0 ∷ [] = sym empty ∙ e.2 in cc)
  ]
]

-- The engine is wound up.

pub record EndsAs (laws : Laws) (context : ContextView) (lacks : Bool) (now : EngineView) : Type 0 where
  pub told : HolderView
  pub found : first_handed now ≡ Some (told_by told)
  pub log : told.log ≡ option_map (λ calls. calls ++ finish_if lacks) context.told.log
  pub state : told.state ≡ (if lacks then kept_after ((held_rules laws context.told).finish context.told.state) context.told.state else context.told.state)
  pub law : told.law ≡ context.told.law
  pub shape : told.shape ≡ context.told.shape

pub first_of : (engine : EngineView) (context : ContextView) → engine.idle ≡ context ∷ [] → engine.window ≡ [] → context.told.handed ≡ true → first_handed engine ≡ Some (told_by context.told)
first_of engine context idle window handed =
    let only : calculators_in engine ≡ context.told ∷ [] = ap₂ (λ (bs : List ContextView) (es : List EntryView). calculators_in (record engine { idle = bs; window = es })) idle window in
    ap (λ (hs : List HolderView). slice_get (filter_map handed_told hs) 0) only ∙ ap (λ (ts : List BoxTold). slice_get ts 0) (one_handed context.told handed)

pub none_more : (log : Option (List Call)) → log ≡ option_map (λ calls. calls ++ []) log
none_more None = refl
none_more (Some calls) = ap Some (sym (append-nil calls))

pub ends_as : {laws : Laws} (engine now : EngineView) (context : ContextView) (lacks : Bool) → lacks_close engine ≡ lacks → engine.idle ≡ context ∷ [] → engine.window ≡ [] → context.told.handed ≡ true → WindsUp laws engine now → EndsAs laws context lacks now
ends_as {laws} engine now context false lacks idle window handed winds = record {
  told = context.told;
  found = ap first_handed (winds.had_close lacks) ∙ first_of engine context idle window handed;
  log = none_more context.told.log;
  state = refl;
  law = refl;
  shape = refl;
}
ends_as {laws} engine now context true lacks idle window handed winds =
    let some : 0 < length engine.idle = (let one = ap length idle in omega (arith, one)) in
    let f : FinishesLast laws engine now = winds.finishes lacks some in
    let cut = same_from_push f.others [] f.context context (sym f.idle ∙ idle) in
    let last : f.finished.told.handed ≡ true = f.is_finished.same_handed ∙ ap (λ (b : ContextView). b.told.handed) cut.1 ∙ handed in
    let is : now ≡ record engine { idle = f.finished ∷ [] } = f.is ∙ ap (λ (bs : List ContextView). (let e : EngineView = record engine { idle = bs ++ f.finished ∷ [] } in e)) cut.0 in
    record {
      told = f.finished.told;
      found = ap first_handed is ∙ first_of (record engine { idle = f.finished ∷ [] }) f.finished refl window last;
      log = f.is_finished.log ∙ ap (λ (b : ContextView). with_call b.told.log Finished) cut.1;
      state = f.is_finished.state ∙ ap (λ (b : ContextView). kept_after ((held_rules laws b.told).finish b.told.state) b.told.state) cut.1;
      law = f.is_finished.law ∙ ap (λ (b : ContextView). b.told.law) cut.1;
      shape = f.is_finished.shape ∙ ap (λ (b : ContextView). b.told.shape) cut.1;
    }

-- All calls are had.

-- what is kept in the end is what Close left, whether the node was closed or is wound up
phase_state : (phase : Phase) (now kept before : List Plain) (rules : Rules) → (phase ≡ Close → ⊥) → now ≡ (if closes_after phase then kept_after (rules.finish kept) kept else kept) → kept ≡ before
    → now ≡ (if opens_well phase then kept_after (rules.finish before) before else before)
phase_state Open now kept before rules early is from = is ∙ from
phase_state (SourceCall k) now kept before rules early is from = is ∙ ap (λ (s : List Plain). kept_after (rules.finish s) s) from
phase_state (Process at) now kept before rules early is from = is ∙ ap (λ (s : List Plain). kept_after (rules.finish s) s) from
phase_state Close now kept before rules early is from = absurd (early refl)

had_state : (closed : Bool) (number : ℕ) (f : Option Failure) (now kept before : List Plain) (rules : Rules) → (closed ≡ true → IsOfClose f) → (closed ≡ false → IsNotIn Close f)
    → now ≡ (if not closed && closes_despite (option_map (fault_with number) f) then kept_after (rules.finish kept) kept else kept) → kept ≡ (if closed then kept_after (rules.finish before) before else before)
    → now ≡ (if had_close f then kept_after (rules.finish before) before else before)
had_state true number None now kept before rules close early is from = is ∙ from
had_state true number (Some f) now kept before rules close early is from = is ∙ from ∙ ap (λ (b : Bool). if b then kept_after (rules.finish before) before else before) (sym (ap opens_well (close refl)))
had_state false number None now kept before rules close early is from = is ∙ ap (λ (s : List Plain). kept_after (rules.finish s) s) from
had_state false number (Some f) now kept before rules close early is from = phase_state f.phase now kept before rules (early refl) is from

pub more_calls : (log : Option (List Call)) (xs ys : List Call) → option_map (λ calls. calls ++ ys) (option_map (λ calls. calls ++ xs) log) ≡ option_map (λ calls. calls ++ (xs ++ ys)) log
more_calls None xs ys = refl
more_calls (Some calls) xs ys = ap Some (append_assoc calls xs ys)

abbrev Holds : {laws : Laws} → LoggedJob laws → List (StreamPrefix Plain) → PlanNode → EngineView → Type 0
Holds {laws} job solution node now = (told : BoxTold) × (first_handed now ≡ Some told) × HadCalls job solution node told

had_by : {laws : Laws} (job : LoggedJob laws) (number : ℕ) (engine now : EngineView) (h : IsEngineOf job number engine) → is_some h.node.box_number ≡ true → IsOuter h.node.law → (has_ended engine ≡ true) ⊎ (engine.window ≡ [])
    → HasBecome job h.streams number engine h.node → WindsUp laws engine now → Holds job h.streams h.node now
had_by {laws} job number engine now h boxed outer rests become winds =
    let node = h.node in
    let streams = h.streams in
    let laid = engine.laid in
    let closed = engine.closed in
    let fault = (outcome_of job.job streams node).fault in
    let lacks = not closed && closes_despite engine.fault in
    let one = one_idle job number engine h boxed rests in
    let rules = rules_fit job number node one.context.told h.solves.is_job.plan h.there one.is.fits in
    let end = ends_as engine now one.context lacks (ap (λ (b : Bool). b && not closed && closes_despite engine.fault) h.begun) one.idle one.window (one.is.fits.same_handed ∙ boxed) winds in
    let early : closed ≡ false → IsNotIn Close fault = λ goes.
    same_not_in number (come_to job streams node laid closed).fault fault (sym h.fault ∙ become.fault) (subst (λ (b : Bool). IsNotIn Close (come_to job streams node laid b).fault) (sym goes) (stage_earlier job.job streams node laid outer)) in
    let last : finish_if closed ++ finish_if lacks ≡ last_call fault =
    ap (λ (x : Option NodeFault). finish_if closed ++ finish_if (not closed && closes_despite x)) become.fault
    ∙ close_had closed number fault (λ is. last_of_close job.job streams node laid outer (h.closed is)) early in
    let before : calls_before streams node laid ≡ Begun ∷ map (λ e. Shown e.at e.set) (take (outcome_of job.job streams node).taken (sets_of streams node)) =
    shown_calls node.law streams node laid (λ e. subst IsOuter e outer) ∙ ap (λ (n : ℕ). Begun ∷ map (λ (e : TimedSet Plain). Shown e.at e.set) (take n (sets_of streams node))) become.count in
    let all : calls_by streams node laid closed ++ finish_if lacks ≡ log_of job.job streams node =
    append_assoc (calls_before streams node laid) (finish_if closed) (finish_if lacks) ∙ ap₂ (λ (xs ys : List Call). xs ++ ys) before last in (
      told_by end.told,
      end.found,
      record {
        state = had_state closed number fault end.told.state one.context.told.state (stage job.job streams node laid).state (rules_at job.job node) (λ is. last_of_close job.job streams node laid outer (h.closed is)) early
            (end.state ∙ ap (λ (r : Rules). if lacks then kept_after (r.finish one.context.told.state) one.context.told.state else one.context.told.state) rules
            ∙ ap (λ (x : Option NodeFault). if not closed && closes_despite x then kept_after ((rules_at job.job node).finish one.context.told.state) one.context.told.state else one.context.told.state) become.fault)
            (one.is.state ∙ come_state job streams node laid closed outer h.closed)
            ∙ ap (λ (k : ℕ). state_by job.job streams node k (had_close fault)) become.count;
        log = end.log ∙ ap (option_map (λ calls. calls ++ finish_if lacks)) one.is.log ∙ more_calls (first_log job node) (calls_by streams node laid closed) (finish_if lacks) ∙ ap (log_after job node) all;
        fits = record { same_law = end.law ∙ one.is.fits.same_law; same_shape = end.shape ∙ one.is.fits.same_shape };
      },
    )

resting_one : (engine : EngineView) (intake : IntakeView) → IsResting engine intake → (has_ended engine ≡ true) ⊎ (engine.window ≡ [])
resting_one engine intake rests = elim rests.claims [
  | inl ended ↦ inl ended
  | inr goes ↦ inr goes.0
]

pub had_calls : {laws : Laws} (job : LoggedJob laws) (number : ℕ) (node : PlanNode) (engine engine_now : EngineView) (intake : IntakeView) (solution : List (StreamPrefix Plain)) → Solves job solution → slice_get job.job.plan.nodes number ≡ Some node → is_some node.box_number ≡ true → IsOuter node.law
    → LawfulEngine job (of_node number) engine → LawfulIntake job number intake → Agree engine intake → IsResting engine intake → HasCome intake (inputs_of solution node) → WindsUp laws engine engine_now
    → (told : BoxTold) × (first_handed engine_now ≡ Some told) × HadCalls job solution node told
unfolding LawfulEngine
had_calls {laws} job number node engine engine_now intake solution solves there boxed outer h i agree rests came winds =
    let become = rests_become job number node engine intake solution solves there h i agree rests came in
    of_these (λ ss m. is_some m.box_number ≡ true → IsOuter m.law → HasBecome job ss number engine m → Holds job ss m engine_now) job number node engine solution h solves there
    (λ b o become_too. had_by job number engine engine_now h b o (resting_one engine intake rests) become_too winds) boxed outer become
