-- Laying the front of an engine's window: from its queues to what contracts see of it.
use Rattle.std.proofs.Common.{◌≡◌, ℕ, zero, suc, ◌+◌, ◌-◌, ◌<◌, ◌≤◌, ◌^◌, ◌||◌, Bool, true, false, List, [], ◌∷◌, length, set, map, Option, Some, None, IfSome, IsSome, IsSomeAnd, OnErr, option_map, option_and_then, Result, Ok, Err, slice_get, is_some, cond, refl, ap, sym, subst, ◌∙◌, arith}
use Rattle.std.proofs.lemmas.List.Sums.{sum_by-cons}
use Rattle.std.proofs.lemmas.Option.{slice_get_within}
use Rattle.std.specs.Prelude.{count_by as number_of}
use Rattle.mg_value.specs.Payload.{Plain}
use Rattle.mg_settled.specs.Prefix.{StreamPrefix}
use Rattle.mg_stream.specs.Queue.{Waiting, StandsFor}
use Rattle.mg_stream.specs.Pool.{Backlog, backlog_of, queue_of}
use Rattle.mg_calc.specs.Rules.{Laws}
use Rattle.mg_calc.specs.declared.node_fault.NodeFault.{NodeFault}
use Rattle.mg_calc.specs.declared.node_fault.Phase.{Phase}
use Rattle.mg_calc.specs.declared.node_fault.Phase.TheVariants.{Open, Call, Process, Close}
use Rattle.mg_calc.specs.Outcome.{Failure}
use Rattle.mg_node.specs.declared.fronts.FrontEnd.{FrontEnd}
use Rattle.mg_node.specs.Views.{ContextView, WorkView, OutcomeView, EntryView, EngineView}
use Rattle.mg_node.specs.Job.{LoggedJob}
use Rattle.mg_node.specs.Windows.{has_ended}
use Rattle.mg_node.specs.Shelves.{IsOut}
use Rattle.mg_node.specs.Lawful.{StandForAll, is_close, come_to, IsEngineOf, LawfulEngine, of_node}
use Rattle.mg_node.specs.Commits.{calls_in_phase, Front, front_laid, front_of, fault_at, HasFront, committed_entry, window_with, Commits, SomeJobHasEngine}
use Rattle.mg_node.specs.Code.QueueLaying.{Stand, StandForSome}
use Rattle.mg_node.specs.Code.FrontLaying.{counted_in, start_of, HasCome, IsFrontLaid, LaysFront, HasWhole}
use Rattle.mg_node.proofs.FrontSteps.{front_stays}
use Rattle.mg_node.proofs.ShelfLaws.{get_set}

pub on_err : {A E : Type 0} (r : Result A E) (P : Type 0) → P → OnErr r P
on_err (Ok a) P p = tt
on_err (Err e) P p = p

-- Queues, and what contracts see of them.

same_stands : (q : Waiting Plain) (s : StreamPrefix Plain) → StandsFor (queue_of 0 (backlog_of q)) s → StandsFor q s
same_stands q s h = record { prefix = h.prefix; gone = h.gone; waiting = h.waiting; bound = h.bound }

seen_stands : (q : Waiting Plain) (s : StreamPrefix Plain) → StandsFor q s → StandsFor (queue_of 0 (backlog_of q)) s
seen_stands q s h = record { prefix = h.prefix; gone = h.gone; waiting = h.waiting; bound = h.bound }

pub queues_stand : (qs : List (Waiting Plain)) (whole : List (StreamPrefix Plain)) → StandForAll (map backlog_of qs) whole → Stand qs whole
queues_stand [] [] z = z
queues_stand [] (s ∷ whole) z = z
queues_stand (q ∷ qs) [] z = z
queues_stand (q ∷ qs) (s ∷ whole) z = (same_stands q s z.0, queues_stand qs whole z.1)

pub backlogs_stand : (qs : List (Waiting Plain)) (whole : List (StreamPrefix Plain)) → Stand qs whole → StandForAll (map backlog_of qs) whole
backlogs_stand [] [] z = z
backlogs_stand [] (s ∷ whole) z = z
backlogs_stand (q ∷ qs) [] z = z
backlogs_stand (q ∷ qs) (s ∷ whole) z = (seen_stands q s z.0, backlogs_stand qs whole z.1)

pub seen_gone : (qs : List (Waiting Plain)) → map (λ b. b.gone) (map backlog_of qs) ≡ map (λ q. q.gone) qs
seen_gone [] = refl
seen_gone (q ∷ qs) = ap (λ (ns : List ℕ). q.gone ∷ ns) (seen_gone qs)

pub some_stand : (e : EngineView) (qs : List (Waiting Plain)) → map backlog_of qs ≡ e.outputs → HasWhole e → StandForSome qs
some_stand e qs is h = record { whole = h.whole; stand = queues_stand qs h.whole (subst (λ (os : List (Backlog Plain)). StandForAll os h.whole) (sym is) h.stand) }

-- A node that has ended lays nothing.

-- what is made of a value is there if the value is
pub is_some_map : {A B : Type 0} (f : A → B) (o : Option A) → is_some (option_map f o) ≡ is_some o
is_some_map f None = refl
is_some_map f (Some x) = refl

own_fault : (node : ℕ) (fault : Option NodeFault) → IfSome fault (λ f. f.node ≡ node) → fault ≡ option_map (fault_at node) (option_map (λ f. (let g : Failure = record { phase = f.phase; cause = f.cause } in g)) fault)
own_fault node None own = refl
own_fault node (Some f) own = ap (λ (n : ℕ). Some (let g : NodeFault = record { node = n; phase = f.phase; cause = f.cause } in g)) own

pub lays_none : (e : EngineView) → HasWhole e → has_ended e ≡ true → LaysFront 0 e e
lays_none e h ended = record {
  counted = omega arith;
  front = λ whole stand.
      let stays = front_stays e.offset e.window (front_of e e.window whole) (ap (λ (b : Bool). e.closed || b) (is_some_map (λ f. (let g : Failure = record { phase = f.phase; cause = f.cause } in g)) e.fault) ∙ ended) in
      subst (λ (f : Front). HasFront e e f) (sym stays) (record { outputs = stand; given_up = refl; others = ap (λ (o : Option NodeFault). record e { fault = o }) (own_fault e.node e.fault h.own) });
}

-- Any other lays what is ready.

pub not_ended : (closed : Bool) (fault : Option NodeFault) → (closed || is_some fault) ≡ false → (closed ≡ false) × (fault ≡ None)
not_ended true fault e = absurd cc
not_ended false None e = (refl, refl)
not_ended false (Some f) e = absurd cc

-- what the code leaves of an engine
abbrev pub with_front : EngineView → List (Backlog Plain) → ℕ → List EntryView → List ContextView → FrontEnd → EngineView
with_front e outputs laid window idle end = record e { outputs = outputs; laid = laid; window = window; idle = idle; closed = end.closed; fault = end.fault }

starts_so : (e : EngineView) (whole : List (StreamPrefix Plain)) → has_ended e ≡ false → start_of whole e.laid e.window e.idle ≡ front_of e e.window whole
starts_so e whole goes = λ i. record {
  outputs = whole;
  laid = e.laid;
  window = e.window;
  idle = e.idle;
  closed = sym (not_ended e.closed e.fault goes).0 i;
  fault = sym (ap (option_map (λ f. (let g : Failure = record { phase = f.phase; cause = f.cause } in g))) (not_ended e.closed e.fault goes).1) i;
}

come_front : (e : EngineView) (before now : List (Waiting Plain)) (window : List EntryView) (idle : List ContextView) (end : FrontEnd) (front : Front) → map backlog_of before ≡ e.outputs → map (λ q. q.gone) now ≡ map (λ q. q.gone) before
    → HasCome front e.node e.laid now window idle end → HasFront e (with_front e (map backlog_of now) (e.laid + end.laid) window idle end) front
come_front e before now window idle end front is gone h = record {
  outputs = backlogs_stand now front.outputs h.outputs;
  given_up = seen_gone now ∙ gone ∙ sym (seen_gone before) ∙ ap (map (λ (b : Backlog Plain). b.gone)) is;
  others = λ i. record e { outputs = map backlog_of now; laid = h.laid_is i; window = h.window i; idle = h.idle i; closed = h.closed i; fault = h.fault i };
}

pub lays_some : (e : EngineView) (before now : List (Waiting Plain)) (window : List EntryView) (idle : List ContextView) (end : FrontEnd) → map backlog_of before ≡ e.outputs → has_ended e ≡ false
    → IsFrontLaid e.offset e.node before now e.window window e.idle idle end → LaysFront end.laid e (with_front e (map backlog_of now) (e.laid + end.laid) window idle end)
lays_some e before now window idle end is goes h = record {
  counted = refl;
  front = λ whole stand.
      come_front e before now window idle end (front_laid e.offset e.window (front_of e e.window whole)) is h.gone
      (subst (λ (f : Front). HasCome (front_laid e.offset e.window f) e.node e.laid now window idle end) (starts_so e whole goes)
      (h.front whole e.laid (queues_stand before whole (subst (λ (os : List (Backlog Plain)). StandForAll os whole) (sym is) stand))));
}

-- What a commit needs of a lawful engine.

counted_most : (p : Phase) → calls_in_phase p + cond {A = ℕ} (is_close p) 1 0 ≤ 1
counted_most Open = omega arith
counted_most (Call n) = omega arith
counted_most (Process at) = omega arith
counted_most Close = omega arith

counted_all : (window : List EntryView) → counted_in window + number_of (λ e. is_close e.phase) window ≤ length window
counted_all [] = omega arith
counted_all (e ∷ window) =
    let first = counted_most e.phase in
    let later = counted_all window in
    let step = sum_by-cons (λ (x : EntryView). cond {A = ℕ} (is_close x.phase) 1 0) e window in
    omega (arith, first, later, step)

pub set_back : {X : Type 0} (xs : List X) (i : ℕ) (x y : X) → slice_get xs i ≡ Some x → set (set xs i y) i x ≡ xs
set_back [] i x y is = refl
set_back {X} (z ∷ xs) zero x y is = (let same : z ≡ x = cc in ap (λ (u : X). u ∷ xs) (sym same))
set_back {X} (z ∷ xs) (suc i) x y is = ap (λ (l : List X). z ∷ l) (set_back xs i x y is)

counted_set : (window : List EntryView) (i : ℕ) (old new : EntryView) → slice_get window i ≡ Some old → new.phase ≡ old.phase → counted_in (set window i new) ≡ counted_in window
counted_set [] i old new is phase = refl
counted_set (e ∷ window) zero old new is phase = (let same : e ≡ old = cc in ap (λ (p : Phase). calls_in_phase p + counted_in window) (phase ∙ ap (λ (x : EntryView). x.phase) (sym same)))
counted_set (e ∷ window) (suc i) old new is phase = ap (λ (n : ℕ). calls_in_phase e.phase + n) (counted_set window i old new is phase)

few_by : {laws : Laws} (job : LoggedJob laws) (number : ℕ) (e : EngineView) → IsEngineOf job number e → e.laid + counted_in e.window ≤ e.claimed
few_by {laws} job number e h = (let order = h.order in let all = counted_all e.window in omega (arith, order, all))

pub whole_by : {laws : Laws} (job : LoggedJob laws) (number : ℕ) (e : EngineView) (window : List EntryView) → LawfulEngine job (of_node number) e → (e.laid + counted_in e.window ≤ e.claimed) × HasWhole (record e { window = window })
unfolding LawfulEngine
whole_by {laws} job number e window h = (
  few_by job number e h,
  record { whole = h.whole; stand = h.kept; own = subst (λ (o : Option NodeFault). IfSome o (λ f. f.node ≡ e.node)) (sym h.fault) (named (come_to job h.streams h.node e.laid e.closed).fault (sym h.set_up.number_is)) },
)
  where
    named : (o : Option Failure) → number ≡ e.node → IfSome (option_map (λ f. (let g : NodeFault = record { node = number; phase = f.phase; cause = f.cause } in g)) o) (λ f. f.node ≡ e.node)
    named None same = tt
    named (Some f) same = same

pub committed_whole : {laws : Laws} (e now : EngineView) (outcome : OutcomeView) → now ≡ record e { window = window_with e outcome } → SomeJobHasEngine laws e → HasWhole now
committed_whole {laws} e now outcome is h = subst HasWhole (sym is) (whole_by h.job h.number e (window_with e outcome) h.lawful).1

pub committed_few : {laws : Laws} (e now : EngineView) (outcome : OutcomeView) → now ≡ record e { window = window_with e outcome } → SomeJobHasEngine laws e → IsOut e outcome.work → now.claimed < 2 ^ 64 → now.laid + counted_in now.window < 2 ^ 64
committed_few {laws} e now outcome is h out few =
    let all = (whole_by h.job h.number e (window_with e outcome) h.lawful).0 in
    let same : counted_in now.window ≡ counted_in e.window = ap (λ (v : EngineView). counted_in v.window) is ∙ counted_set e.window (outcome.work.number - e.laid) out.entry (committed_entry outcome) out.there (sym out.phase_is) in
    let laid : now.laid ≡ e.laid = ap (λ (v : EngineView). v.laid) is in
    let claimed : now.claimed ≡ e.claimed = ap (λ (v : EngineView). v.claimed) is in
    omega (arith, all, same, laid, claimed, few)

-- Taking it back.

-- what stands at a work's place once it came back
committed_at : (e now : EngineView) (outcome : OutcomeView) (number : ℕ) → now ≡ record e { window = window_with e outcome } → IsOut e outcome.work → number ≡ outcome.work.number → slice_get now.window (number - now.laid) ≡ Some (committed_entry outcome)
committed_at e now outcome number is out number_is =
    ap (λ (v : EngineView). slice_get v.window (number - v.laid)) is ∙ ap (λ (n : ℕ). slice_get (window_with e outcome) (n - e.laid)) number_is
    ∙ get_set e.window (outcome.work.number - e.laid) out.entry (committed_entry outcome) out.there

pub committed_there : (e now : EngineView) (outcome : OutcomeView) (number : ℕ) → now ≡ record e { window = window_with e outcome } → IsOut e outcome.work → number ≡ outcome.work.number → IsSomeAnd (slice_get now.window (number - now.laid)) (λ x. is_some x.outcome ≡ true)
committed_there e now outcome number is out number_is = subst (λ (o : Option EntryView). IsSomeAnd o (λ x. is_some x.outcome ≡ true)) (sym (committed_at e now outcome number is out number_is)) refl

pub taken_back : (e now : EngineView) (outcome taken : OutcomeView) (number : ℕ) → now ≡ record e { window = window_with e outcome } → IsOut e outcome.work → number ≡ outcome.work.number
    → option_and_then (λ x. x.outcome) (slice_get now.window (number - now.laid)) ≡ Some taken → taken ≡ outcome
taken_back e now outcome taken number is out number_is found =
    let same : Some outcome ≡ Some taken = sym (ap (option_and_then (λ (x : EntryView). x.outcome)) (committed_at e now outcome number is out number_is)) ∙ found in
    sym cc

out_entry : {laws : Laws} (job : LoggedJob laws) (number : ℕ) (e : EngineView) (work : WorkView) (out : IsOut e work) → LawfulEngine job (of_node number) e → out.entry ≡ record { phase = work.phase; outcome = None; committed = false }
unfolding LawfulEngine
out_entry {laws} job number e work out h = by_committed out.entry.committed refl
  where
    by_committed : (b : Bool) → out.entry.committed ≡ b → out.entry ≡ record { phase = work.phase; outcome = None; committed = false }
    by_committed false is = λ i. record { phase = out.phase_is i; outcome = out.out i; committed = is i }
    by_committed true is = absurd (
        let some : IsSome out.entry.outcome = ((h.entries (work.number - e.laid) out.entry out.there).committed is).0 in
        let none : IsSome (let o : Option OutcomeView = None in o) = subst IsSome out.out some in
        cc)

pub back_again : {laws : Laws} (e now back : EngineView) (outcome : OutcomeView) (number : ℕ) (phase : Phase) → now ≡ record e { window = window_with e outcome } → SomeJobHasEngine laws e → IsOut e outcome.work → number ≡ outcome.work.number → phase ≡ outcome.work.phase
    → back ≡ record now { window = set now.window (number - now.laid) (record { phase = phase; outcome = None; committed = false }) } → back ≡ e
back_again {laws} e now back outcome number phase is h out number_is phase_is back_is =
    let place = outcome.work.number - e.laid in
    let entry : EntryView = record { phase = outcome.work.phase; outcome = None; committed = false } in
    let there : slice_get e.window place ≡ Some entry = out.there ∙ ap Some (out_entry h.job h.number e outcome.work out h.lawful) in
    back_is
    ∙ ap (λ (v : EngineView). (let w : EngineView = record v { window = set v.window (number - v.laid) (record { phase = phase; outcome = None; committed = false }) } in w)) is
    ∙ ap (λ (n : ℕ). (let w : EngineView = record e { window = set (window_with e outcome) (n - e.laid) (record { phase = phase; outcome = None; committed = false }) } in w)) number_is
    ∙ ap (λ (p : Phase). (let w : EngineView = record e { window = set (window_with e outcome) place (record { phase = p; outcome = None; committed = false }) } in w)) phase_is
    ∙ ap (λ (w : List EntryView). (let v : EngineView = record e { window = w } in v)) (set_back e.window place entry (committed_entry outcome) there)

-- A commit.

-- what a front changes of an engine
front_others : (e now : EngineView) (front : Front) → HasFront e now front → now ≡ record e { outputs = now.outputs; laid = now.laid; window = now.window; idle = now.idle; closed = now.closed; fault = now.fault }
front_others e now front h =
    h.others ∙ (λ i. record e {
      outputs = now.outputs;
      laid = sym (ap (λ (v : EngineView). v.laid) h.others) i;
      window = sym (ap (λ (v : EngineView). v.window) h.others) i;
      idle = sym (ap (λ (v : EngineView). v.idle) h.others) i;
      closed = sym (ap (λ (v : EngineView). v.closed) h.others) i;
      fault = sym (ap (λ (v : EngineView). v.fault) h.others) i;
    })

pub commits_by : {laws : Laws} (e mid now : EngineView) (outcome : OutcomeView) (n : ℕ) → mid ≡ record e { window = window_with e outcome } → SomeJobHasEngine laws e → LaysFront n mid now → Commits outcome n e now
commits_by {laws} e mid now outcome n is some h =
    let middle : EngineView = record e { window = window_with e outcome } in
    let lays : LaysFront n middle now = subst (λ (v : EngineView). LaysFront n v now) is h in
    let has = (whole_by some.job some.number e (window_with e outcome) some.lawful).1 in
    let come = lays.front has.whole has.stand in
    record {
      counted = lays.counted;
      given_up = come.given_up;
      others = front_others middle now (front_laid e.offset (window_with e outcome) (front_of middle (window_with e outcome) has.whole)) come;
      front = λ whole stand. (let f = lays.front whole stand in record { outputs = f.outputs; given_up = f.given_up; others = f.others });
    }

-- the place of a work that is out
pub out_place : (e v : EngineView) (work : WorkView) (number : ℕ) → v ≡ e → IsOut e work → number ≡ work.number → number - v.laid < length v.window
out_place e v work number is out number_is =
    let within = slice_get_within e.window (work.number - e.laid) out.entry out.there in
    let laid = ap (λ (x : EngineView). x.laid) is in
    let long = ap (λ (x : EngineView). length x.window) is in
    omega (arith, within, number_is, laid, long)

pub some_place : (window : List EntryView) (i : ℕ) → IsSomeAnd (slice_get window i) (λ x. is_some x.outcome ≡ true) → i < length window
some_place [] i some = absurd some
some_place (x ∷ window) zero some = omega arith
some_place (x ∷ window) (suc i) some = (let later = some_place window i some in omega (arith, later))
