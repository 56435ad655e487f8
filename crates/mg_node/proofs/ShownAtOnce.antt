-- A set that is shown to a calculator where that lies: its work is claimed, performed and committed.
use Rattle.std.proofs.Common.{◌≡◌, ℕ, ◌+◌, ◌-◌, ◌<◌, ◌≤◌, ◌^◌, Bool, false, List, [], ◌∷◌, ◌++◌, length, length-append, drop, set, map, Option, Some, None, option_map, count_by as number_of, Result, Ok, Err, inr, ap, ap₂, sym, refl, subst, ◌∙◌, arith}
use Rattle.std.specs.Prelude.{⊤}
use Rattle.mg_time.specs.Time.{done}
use Rattle.mg_value.specs.Payload.{Plain}
use Rattle.mg_settled.specs.Prefix.{StreamPrefix}
use Rattle.mg_stream.specs.Queue.{Waiting}
use Rattle.mg_stream.specs.Pool.{Backlog, backlog_of, queues_of}
use Rattle.mg_policy.specs.declared.readiness.Readiness.{Readiness}
use Rattle.mg_policy.specs.declared.readiness.Readiness.TheVariants.{Ready, Close, NotReady as NoneYet}
use Rattle.mg_policy.proofs.Readinesses.{one_readiness}
use Rattle.mg_calc.specs.Rules.{Laws}
use Rattle.mg_calc.specs.declared.cause.Cause.{Cause}
use Rattle.mg_calc.specs.declared.cause.CalcFault.TheVariants.{Fault, OutOfMemory}
use Rattle.mg_calc.specs.declared.emission.Laid.{Laid}
use Rattle.mg_calc.specs.declared.node_fault.NodeFault.{NodeFault}
use Rattle.mg_calc.specs.declared.node_fault.Phase.TheVariants.{Process}
use Rattle.mg_calc.specs.Outcome.{Failure}
use Rattle.mg_node.specs.declared.role.Role.{Role}
use Rattle.mg_node.specs.declared.claimed.Claimed.TheVariants.{Work, NotReady}
use Rattle.mg_node.specs.declared.pending.Pending.{Pending}
use Rattle.mg_node.specs.declared.pending.Pending.TheVariants.{Sets, Loop}
use Rattle.mg_node.specs.Intakes.{HasSets}
use Rattle.mg_node.specs.Views.{IntakeView, ContextView, WorkView, PerformedView, OutcomeView, EntryView, EngineView}
use Rattle.mg_node.specs.Ports.{IsNext}
use Rattle.mg_node.specs.Job.{LoggedJob}
use Rattle.mg_node.specs.Lawful.{StandForAll, LawfulEngine, of_node, is_close, AreCell}
use Rattle.mg_node.specs.Shelves.{IsOut, shelved, outcome_of}
use Rattle.mg_node.specs.Running.{MayRun, HasRun}
use Rattle.mg_node.specs.Claims.{first_unrun, IsEarly, Takes, Hands, work_of, Claims}
use Rattle.mg_node.specs.Commits.{raised_before, laid_by, Front, answer_laid, front_laid, front_of, HasFront, committed_entry, window_with}
use Rattle.mg_node.specs.AtOnce.{MayShow, IsDoneBetween, IsLeftPerformed, IsLeftCommitted}
use Rattle.mg_node.specs.Code.QueueLaying.{IsLaid}
use Rattle.mg_node.specs.Code.FrontLaying.{front_end_of, HasWhole}
use Rattle.mg_node.specs.Code.Showing.{work_at, HasShown, Shows, LaysAnswer, HandsShown}
use Rattle.mg_node.proofs.Performing.{may_run, performed_well, performed_fault, unchanged}
use Rattle.mg_node.proofs.Claimable.{cell_sets, cell_fits}
use Rattle.mg_node.proofs.Cells.{claim_lawful}
use Rattle.mg_node.proofs.WorksOut.{claim_out}
use Rattle.mg_node.proofs.FrontSteps.{fault_is}
use Rattle.mg_node.proofs.EngineFronts.{queues_stand, backlogs_stand, seen_gone, not_ended, whole_by}

-- two lists with one element at the end of each
snoc_same : {X : Type 0} (xs ys : List X) (x y : X) → xs ++ x ∷ [] ≡ ys ++ y ∷ [] → (xs ≡ ys) × (x ≡ y)
snoc_same [] [] x y e = (refl, cc)
snoc_same [] (z ∷ ys) x y e = absurd (let long = ap length e in let more = length-append ys (y ∷ []) in omega (arith, long, more))
snoc_same (z ∷ xs) [] x y e = absurd (let long = ap length e in let more = length-append xs (x ∷ []) in omega (arith, long, more))
snoc_same {X} (z ∷ xs) (w ∷ ys) x y e =
    let first : z ≡ w = cc in
    let it = snoc_same xs ys x y (ap (λ (l : List X). drop 1 l) e) in (ap₂ (λ (h : X) (t : List X). h ∷ t) first it.0, it.1)

-- What an engine has before.

room_by : {laws : Laws} (job : LoggedJob laws) (number : ℕ) (e : EngineView) → LawfulEngine job (of_node number) e → 0 < length e.idle → length e.window < e.in_flight
unfolding LawfulEngine
room_by {laws} job number e h some = (let contexts = h.contexts in omega (arith, contexts, some))

show_room : {laws : Laws} (e : EngineView) (i : IntakeView) → AreCell laws e i → MayShow e → length e.window < e.in_flight
show_room {laws} e i cell may = room_by cell.job cell.number e cell.lawful_engine may.context

all_laid : {laws : Laws} (job : LoggedJob laws) (number : ℕ) (e : EngineView) → LawfulEngine job (of_node number) e → e.window ≡ [] → e.laid ≡ e.claimed
unfolding LawfulEngine
all_laid {laws} job number e h none =
    let order = h.order in
    let long : length e.window ≡ 0 = ap length none in
    let closes : number_of (λ (x : EntryView). is_close x.phase) e.window ≡ 0 = ap (number_of (λ (x : EntryView). is_close x.phase)) none in
    omega (arith, order, long, closes)

-- Once the set is shown.

-- an engine whose idle contexts are the rest, and another context at the end
abbrev pub with_context : EngineView → List ContextView → ContextView → EngineView
with_context e rest context = record e { idle = rest ++ context ∷ [] }

pub shown_whole : {laws : Laws} (e e1 : EngineView) (i : IntakeView) (rest : List ContextView) (context : ContextView) → AreCell laws e i → e1 ≡ with_context e rest context → HasWhole e1
shown_whole {laws} e e1 i rest context cell is =
    let has = (whole_by cell.job cell.number e e.window cell.lawful_engine).1 in
    let here : HasWhole (with_context e rest context) = record { whole = has.whole; stand = has.stand; own = has.own } in
    subst HasWhole (sym is) here

pub shown_goes : (e e1 : EngineView) (rest : List ContextView) (context : ContextView) → MayShow e → e1 ≡ with_context e rest context → e1.fault ≡ None
shown_goes e e1 rest context may is = ap (λ (v : EngineView). v.fault) is ∙ (not_ended e.closed e.fault may.goes).1

pub shown_laid : {laws : Laws} (e e1 : EngineView) (i : IntakeView) (rest : List ContextView) (context : ContextView) → AreCell laws e i → MayShow e → e1 ≡ with_context e rest context → e1.laid ≤ e1.claimed
shown_laid {laws} e e1 i rest context cell may is =
    let all = all_laid cell.job cell.number e cell.lawful_engine may.none in
    let laid : e1.laid ≡ e.laid = ap (λ (v : EngineView). v.laid) is in
    let claimed : e1.claimed ≡ e.claimed = ap (λ (v : EngineView). v.claimed) is in
    omega (arith, all, laid, claimed)

pub shown_few : {laws : Laws} (e e1 : EngineView) (i : IntakeView) (at : ℕ) (rest : List ContextView) (context : ContextView) → AreCell laws e i → MayShow e → IsNext i.waits (Ready at) → e1 ≡ with_context e rest context → e1.claimed + 1 < 2 ^ 64
shown_few {laws} e e1 i at rest context cell may next is =
    let few : e.claimed + 1 ≤ done = cell_fits e i at cell may.role next in
    let claimed : e1.claimed ≡ e.claimed = ap (λ (v : EngineView). v.claimed) is in
    omega (arith, few, claimed)

pub shown_context : (e e1 : EngineView) (rest : List ContextView) (context : ContextView) → e1 ≡ with_context e rest context → 0 < length e1.idle
shown_context e e1 rest context is =
    let long : length e1.idle ≡ length (rest ++ context ∷ []) = ap (λ (v : EngineView). length v.idle) is in
    let more = length-append rest (context ∷ []) in
    omega (arith, long, more)

pub shown_room : {laws : Laws} (e e1 : EngineView) (i : IntakeView) (rest : List ContextView) (context : ContextView) → AreCell laws e i → MayShow e → e1 ≡ with_context e rest context → length e1.window < e1.in_flight
shown_room {laws} e e1 i rest context cell may is = subst (λ (v : EngineView). length v.window < v.in_flight) (sym is) (show_room e i cell may)

-- The claim.

abbrev out_entry : ℕ → EntryView
out_entry at = record { phase = Process at; outcome = None; committed = false }

-- an engine once the set is claimed
abbrev pub between_of : EngineView → ℕ → List ContextView → EngineView
between_of e at rest = record e { claimed = e.claimed + 1; window = e.window ++ out_entry at ∷ []; idle = rest }

module _ {laws : Laws} (C : Type 0) (e : EngineView) (i i1 : IntakeView) (at : ℕ) (rest : List ContextView) (context filled : ContextView) (cell : AreCell laws e i) (may : MayShow e) (next : IsNext i.waits (Ready at)) (idle : e.idle ≡ rest ++ context ∷ [])
    (told : filled.told ≡ context.told) (takes : Takes i i1 filled.set) where
  abbrev claimed_work : WorkView
  claimed_work = work_at e.node e.claimed at filled

  hands_last : Hands e (between_of e at rest) (Process at) 1 context
  hands_last = record { idle = idle; now = refl }

  pub shown_claims : Claims {C = C} (Work claimed_work) e (between_of e at rest) i i1
  shown_claims =
      inr (
        record { goes = may.goes; none = ap (first_unrun 0) may.none; room = show_room e i cell may },
        inr (inr (record {
          role = may.role;
          at = at;
          next = next;
          context = context;
          hands = hands_last;
          work_is = ap (λ t. work_at e.node e.claimed at (let b : ContextView = record { told = t; set = filled.set } in b)) told;
          takes = takes;
        })),
      )

  pub shown_may_run : MayRun (Process at) filled
  shown_may_run =
      let lawful = claim_lawful {C = C} cell.job cell.number (Work claimed_work) e (between_of e at rest) i i1 cell.lawful_engine cell.lawful_intake cell.agree shown_claims in
      may_run claimed_work (record { job = cell.job; lawful = lawful.work })

  shown_out : IsOut (between_of e at rest) claimed_work
  shown_out = claim_out {C = C} (Work claimed_work) e (between_of e at rest) i i1 cell shown_claims

-- The work of the set is handed out.

handed : (e e1 e2 : EngineView) (at : ℕ) (rest : List ContextView) (context : ContextView) (work : WorkView) → e1 ≡ with_context e rest context → HandsShown at work e1 e2 → (e2 ≡ between_of e at rest) × (work ≡ work_at e.node e.claimed at context)
handed e e1 e2 at rest context work is h =
    let idle : rest ++ context ∷ [] ≡ e2.idle ++ work.context ∷ [] = sym (ap (λ (v : EngineView). v.idle) is) ∙ h.hands.idle in
    let ends = snoc_same rest e2.idle context work.context idle in (
      h.hands.now
          ∙ ap (λ (v : EngineView). (let w : EngineView = record v { claimed = v.claimed + 1; window = v.window ++ out_entry at ∷ []; idle = e2.idle } in w)) is
          ∙ ap (between_of e at) (sym ends.0),
      h.work_is ∙ ap (λ (v : EngineView). work_of v (Process at) work.context) is ∙ ap (work_at e.node e.claimed at) (sym ends.1),
    )

pub handed_claims : {laws : Laws} (C : Type 0) (e e1 e2 : EngineView) (i i1 : IntakeView) (at : ℕ) (work : WorkView) → AreCell laws e i → MayShow e → IsNext i.waits (Ready at) → Shows laws None at e e1 i i1 → HandsShown at work e1 e2 → Claims {C = C} (Work work) e e2 i i1
handed_claims {laws} C e e1 e2 i i1 at work cell may next s h =
    let is = handed e e1 e2 at s.rest s.context_now work s.now_is h in
    let claims = shown_claims C e i i1 at s.rest s.context s.filled cell may next s.idle s.told s.takes in
    subst (λ (w : WorkView). Claims {C = C} (Work w) e e2 i i1) (sym (is.1 ∙ ap (work_at e.node e.claimed at) s.unchanged))
    (subst (λ (v : EngineView). Claims {C = C} (Work (work_at e.node e.claimed at s.filled)) e v i i1) (sym is.0) claims)

module _ {laws : Laws} (C : Type 0) (answer : Result (List Laid) Cause) (e e1 : EngineView) (i i1 : IntakeView) (at : ℕ) (cell : AreCell laws e i) (may : MayShow e) (next : IsNext i.waits (Ready at)) (s : Shows laws (Some answer) at e e1 i i1) where
  abbrev done_work : WorkView
  done_work = work_at e.node e.claimed at s.context_now

  abbrev done_of : PerformedView
  done_of = record { work = done_work; answer = answer }

  abbrev done_between : (number : ℕ) → number ≡ e.claimed → IsDoneBetween laws C number e (between_of e at s.rest) i i1
  done_between number is = record {
    work = work_at e.node e.claimed at s.filled;
    claims = shown_claims C e i i1 at s.rest s.context s.filled cell may next s.idle s.told s.takes;
    performed = done_of;
    done = s.shown e.node e.claimed;
    number_is = is;
  }

  out_at : IsOut (between_of e at s.rest) done_work
  out_at = (let o = shown_out C e i i1 at s.rest s.context s.filled cell may next s.idle s.told s.takes in record { node_is = o.node_is; laid = o.laid; entry = o.entry; there = o.there; out = o.out; phase_is = o.phase_is })

  -- it is out, and put back as performed
  pub handed_out_at : (v e2 : EngineView) (work : WorkView) (outcome : OutcomeView) → v ≡ e1 → HandsShown at work v e2 → outcome.work ≡ work → IsOut e2 outcome.work
  handed_out_at v e2 work outcome same h is =
      let it = handed e v e2 at s.rest s.context_now work (same ∙ s.now_is) h in
      subst (λ (w : WorkView). IsOut e2 w) (sym (is ∙ it.1)) (subst (λ (x : EngineView). IsOut x done_work) (sym it.0) out_at)

  pub left_performed : (v e2 e3 : EngineView) (work : WorkView) (outcome : OutcomeView) (number : ℕ) → number ≡ e.claimed → v ≡ e1 → HandsShown at work v e2 → outcome ≡ outcome_of (record { work = work; answer = answer }) → e3 ≡ shelved e2 outcome
      → IsLeftPerformed laws C number e e3 i i1
  left_performed v e2 e3 work outcome number number_is same h is e3_is =
      let it = handed e v e2 at s.rest s.context_now work (same ∙ s.now_is) h in
      let outcome_is : outcome ≡ outcome_of done_of = is ∙ ap (λ (w : WorkView). outcome_of (record { work = w; answer = answer })) it.1 in
      record {
        between = between_of e at s.rest;
        done = done_between number number_is;
        left = e3_is ∙ ap (shelved e2) outcome_is ∙ ap (λ (x : EngineView). shelved x (outcome_of done_of)) it.0;
      }

  -- The commit.

  abbrev ready : EntryView
  ready = committed_entry (outcome_of done_of)

  window_is : window_with (between_of e at s.rest) (outcome_of done_of) ≡ ready ∷ []
  window_is =
      let none : e.claimed - e.laid ≡ 0 = (let all = all_laid cell.job cell.number e cell.lawful_engine may.none in omega (arith, all)) in
      ap₂ (λ (w : List EntryView) (n : ℕ). set (w ++ out_entry at ∷ []) n ready) may.none none

  abbrev start : List (StreamPrefix Plain) → Bool → Option Failure → Front
  start whole closed fault = record { outputs = whole; laid = e.laid; window = ready ∷ []; idle = s.rest; closed = closed; fault = fault }

  goes_on : (e.closed ≡ false) × (e.fault ≡ None)
  goes_on = not_ended e.closed e.fault may.goes

  front_is : (whole : List (StreamPrefix Plain)) → front_laid e.offset (window_with (between_of e at s.rest) (outcome_of done_of)) (front_of (between_of e at s.rest) (window_with (between_of e at s.rest) (outcome_of done_of)) whole)
      ≡ answer_laid e.offset (Process at) s.context_now answer [] (start whole false None)
  front_is whole =
      ap (λ (w : List EntryView). front_laid e.offset w (front_of (between_of e at s.rest) w whole)) window_is
      ∙ ap₂ (λ (c : Bool) (f : Option NodeFault). front_laid e.offset (ready ∷ []) (start whole c (option_map (λ g. (let h : Failure = record { phase = g.phase; cause = g.cause } in h)) f))) goes_on.0 goes_on.1

  pub left_committed : (e3 : EngineView) (number : ℕ) → number ≡ e.claimed → LaysAnswer at answer e1 e3 → IsLeftCommitted laws C number e e3 i i1
  left_committed e3 number number_is lays =
      let l : LaysAnswer at answer (with_context e s.rest s.context_now) e3 = subst (λ (v : EngineView). LaysAnswer at answer v e3) s.now_is lays in
      let mid = between_of e at s.rest in
      let full : e3 ≡ record e { outputs = e3.outputs; laid = e.laid + 1; claimed = e.claimed + 1; idle = s.rest ++ s.context_now ∷ []; fault = e3.fault } = l.now_is in
      record {
        between = mid;
        done = done_between number number_is;
        laid = 1;
        commits = record {
          counted = ap (λ (v : EngineView). v.laid) full;
          given_up = l.given_up;
          others = full ∙ (λ k. record e {
            outputs = e3.outputs;
            laid = sym (ap (λ (v : EngineView). v.laid) full) k;
            claimed = e.claimed + 1;
            window = sym (ap (λ (v : EngineView). v.window) full) k;
            idle = sym (ap (λ (v : EngineView). v.idle) full) k;
            closed = sym (ap (λ (v : EngineView). v.closed) full) k;
            fault = e3.fault;
          });
          front = λ whole stand.
              let it = l.laid whole stand in
              subst (λ (f : Front). HasFront mid e3 f) (sym (front_is whole))
              (record {
                outputs = it.0;
                given_up = l.given_up;
                others = full ∙ (λ k. record e {
                  outputs = e3.outputs;
                  laid = e.laid + 1;
                  claimed = e.claimed + 1;
                  window = may.none k;
                  idle = s.rest ++ s.context_now ∷ [];
                  closed = goes_on.0 k;
                  fault = it.1 k;
                });
              });
        };
      }

-- An answer is laid.

abbrev pub with_answer_laid : EngineView → List (Backlog Plain) → Option NodeFault → EngineView
with_answer_laid e outputs fault = record e { outputs = outputs; laid = e.laid + 1; claimed = e.claimed + 1; fault = fault }

pub lays_answer : (e : EngineView) (before now : List (Waiting Plain)) (at : ℕ) (answer : Result (List Laid) Cause) (cause : Option Cause) (fault : Option NodeFault) → map backlog_of before ≡ e.outputs
    → IsLaid e.offset (Process at) (raised_before e.offset (Process at)) answer before now cause → fault ≡ (front_end_of e.node (Process at) cause).fault → LaysAnswer at answer e (with_answer_laid e (map backlog_of now) fault)
lays_answer e before now at answer cause fault is h fault_same = record {
  now_is = refl;
  given_up = seen_gone now ∙ h.gone ∙ sym (seen_gone before) ∙ ap (map (λ (b : Backlog Plain). b.gone)) is;
  laid = λ whole stand.
      let it = h.laid whole (queues_stand before whole (subst (λ (os : List (Backlog Plain)). StandForAll os whole) (sym is) stand)) in (
        backlogs_stand now _ it.1,
        fault_same ∙ fault_is e.node (Process at) (laid_by e.offset (Process at) (raised_before e.offset (Process at) whole) answer) cause it.0,
      );
}

-- the answer is laid or comes back
pub answered_by : (work : WorkView) (a b : Result (List Laid) Cause) → a ≡ b → outcome_of (record { work = work; answer = a }) ≡ outcome_of (record { work = work; answer = b })
answered_by work a b same = ap (λ (x : Result (List Laid) Cause). outcome_of (record { work = work; answer = x })) same

-- No set can be told yet.
pub none_shown : {laws : Laws} (C : Type 0) (e : EngineView) (i : IntakeView) → AreCell laws e i → MayShow e → IsNext i.waits NoneYet → Claims {C = C} NotReady e e i i
none_shown {laws} C e i cell may next = (
  record { goes = may.goes; none = ap (first_unrun 0) may.none; room = show_room e i cell may },
  subst (λ (r : Role). IsEarly r i.waits) (sym may.role) next,
  record { same_engine = refl; same_intake = refl },
)

-- what may be claimed next is one thing
one_next : (w : Pending) (a b : Readiness) → HasSets w → IsNext w a → IsNext w b → a ≡ b
one_next (Sets inbox) a b has h k = one_readiness inbox.policy a b (queues_of inbox.pool) h k
one_next (Loop held) a b has h k = absurd has

abbrev IsOfNone : Readiness → Type 0
IsOfNone (Ready at) = ⊥
IsOfNone Close = ⊤
IsOfNone NoneYet = ⊤

-- if there is no set, none is next
pub no_next : {laws : Laws} (e : EngineView) (i : IntakeView) (at : ℕ) (readiness : Readiness) → AreCell laws e i → MayShow e → IsNext i.waits readiness → IsNext i.waits (Ready at) → IsOfNone readiness → ⊥
no_next {laws} e i at readiness cell may is next none = subst IsOfNone (one_next i.waits readiness (Ready at) (cell_sets e i cell may.role) is next) none

-- A context's calculator is shown the set that lies there.
pub shown_well : {laws : Laws} (at : ℕ) (emission : List Laid) (before now : ContextView) → MayRun (Process at) before → HasRun laws (Ok emission) (Process at) before now → HasShown laws at (Ok emission) before now
shown_well {laws} at emission before now may run = λ node number. performed_well (work_at node number at before) (work_at node number at now) emission may run refl

pub shown_fault : {laws : Laws} (at : ℕ) (cause : Cause) (before now : ContextView) → MayRun (Process at) before → HasRun laws (Err (Fault cause)) (Process at) before now → HasShown laws at (Err cause) before now
shown_fault {laws} at cause before now may run = λ node number. performed_fault (work_at node number at before) (work_at node number at now) cause may run refl

pub shown_none : {laws : Laws} (at : ℕ) (before now : ContextView) → MayRun (Process at) before → HasRun laws (Err OutOfMemory) (Process at) before now → now ≡ before
shown_none {laws} at before now may run = ap (λ (w : WorkView). w.context) (unchanged (work_at 0 0 at before) (work_at 0 0 at now) may run refl)
