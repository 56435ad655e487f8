-- How many works are committed, and what is laid if one is.
use Rattle.std.proofs.Common.{◌≡◌, ◌≢◌, ℕ, zero, suc, ℤ, ◌+◌, ◌-◌, ◌≤◌, ◌⊎◌, ◌||◌, cond, Bool, true, false, List, [], ◌∷◌, ◌++◌, set, Option, Some, None, Result, option_map, is_some, IsSome, IfSome, slice_get, inl, inr, refl, ap, sym, subst, ◌∙◌, arith, if◌then◌else◌}
use Rattle.std.proofs.lemmas.Bool.{cases_Bool, false≢true}
use Rattle.std.proofs.lemmas.Option.{none-some}
use mathlib.Core.Logic.{dite}
use native.Mathlib.Decide.{ℕ_discrete}
use Rattle.mg_value.specs.Payload.{Plain}
use Rattle.mg_settled.specs.Prefix.{StreamPrefix}
use Rattle.mg_calc.specs.Rules.{Laws}
use Rattle.mg_calc.specs.declared.cause.Cause.{Cause}
use Rattle.mg_calc.specs.declared.emission.Laid.{Laid}
use Rattle.mg_calc.specs.declared.node_fault.Phase.{Phase}
use Rattle.mg_calc.specs.declared.node_fault.Phase.TheVariants.{Open, Call, Process, Close}
use Rattle.mg_node.specs.Views.{IntakeView, ContextView, WorkView, PerformedView, OutcomeView, EntryView, EngineView}
use Rattle.mg_node.specs.declared.claimed.Claimed.{Claimed}
use Rattle.mg_node.specs.declared.claimed.Claimed.TheVariants.{Work, Answered, NotReady, InFlightFull, Draining, Ended, OutOfMemory}
use Rattle.mg_node.specs.Job.{LoggedJob, IsTask}
use Rattle.mg_node.specs.Lawful.{of_node, LawfulEngine, is_close}
use Rattle.mg_node.specs.Windows.{has_ended, ready_of}
use Rattle.mg_node.specs.Shelves.{IsOut, back, shelved}
use Rattle.mg_node.specs.Claims.{AreSame, Hands, TakesUnrun, Claims}
use Rattle.mg_node.specs.Commits.{calls_in_phase, Front, with_ready, front_laid, answer_laid, has_stopped, committed_entry, window_with, front_of, fault_at, Commits}
use Rattle.mg_node.proofs.FrontSteps.{front_stays}
use Rattle.mg_node.proofs.EngineFronts.{is_some_map, committed_whole}
use Rattle.mg_node.proofs.Frames.{get_other, put_there}
use Rattle.mg_node.proofs.Making.{some_same}
use Rattle.mg_turns.specs.Told.{count_committed, committed_in, StandsBack, RunEnds}
use Rattle.mg_turns.specs.Code.Running.{NoneCommitted}

-- Entries of a window.

-- no entry is for Open
abbrev pub AreWorks : List EntryView → Type 0
AreWorks window = (i : ℕ) (x : EntryView) → slice_get window i ≡ Some x → x.phase ≡ Open → ⊥

put_gives : {X : Type 0} (xs : List X) (i : ℕ) (x y : X) → slice_get xs i ≡ Some x → slice_get (set xs i y) i ≡ Some y
put_gives [] i x y at = absurd cc
put_gives (z ∷ zs) zero x y at = refl
put_gives (z ∷ zs) (suc i) x y at = put_gives zs i x y at

works_put : (window : List EntryView) (i : ℕ) (x y : EntryView) → AreWorks window → slice_get window i ≡ Some x → y.phase ≡ x.phase → AreWorks (set window i y)
works_put window i x y works at phase j z at-z opens = dite (ℕ_discrete j i)
    (λ same.
    let here : slice_get (set window i y) i ≡ Some z = subst (λ (n : ℕ). slice_get (set window i y) n ≡ Some z) same at-z in
    let is : z ≡ y = put_there window i y z here in
    works i x at (sym phase ∙ (ap (λ (e : EntryView). e.phase) (sym is) ∙ opens)))
    (λ other. works j z (sym (get_other window i j y other) ∙ at-z) opens)

abbrev one : Bool → ℕ
one b = cond {A = ℕ} b 1 0

put_counts : (window : List EntryView) (i : ℕ) (x y : EntryView) → slice_get window i ≡ Some x → x.committed ≡ false → count_committed (set window i y) ≡ count_committed window + one y.committed
put_counts [] i x y at not = absurd cc
put_counts (z ∷ zs) zero x y at not =
    let same : z ≡ x = some_same (Some z) z x refl at in
    let none : one z.committed ≡ 0 = ap (λ (e : EntryView). one e.committed) same ∙ ap one not in
    omega (arith, none)
put_counts (z ∷ zs) (suc i) x y at not =
    let later = put_counts zs i x y at not in omega (arith, later)

push_counts : (window : List EntryView) (y : EntryView) → y.committed ≡ false → count_committed (window ++ y ∷ []) ≡ count_committed window
push_counts [] y not = (let none : one y.committed ≡ 0 = ap one not in omega (arith, none))
push_counts (x ∷ xs) y not = (let later = push_counts xs y not in omega (arith, later))

-- Laying.

abbrev front_count : Front → ℕ
front_count f = f.laid + one f.closed + count_committed f.window

ready_committed : (entry : EntryView) (p : PerformedView) → ready_of entry ≡ Some p → entry.committed ≡ true
ready_committed entry p ready = elim (cases_Bool entry.committed) [
  | inl is ↦ is
  | inr not ↦ absurd (none-some p (sym (ap (λ (b : Bool). ready_of (record entry { committed = b })) not) ∙ ready))
]

one_work : (phase : Phase) → (phase ≡ Open → ⊥) → calls_in_phase phase + one (is_close phase) ≡ 1
one_work Open works = absurd (works refl)
one_work (Call n) works = refl
one_work (Process at) works = refl
one_work Close works = refl

goes_closed : (f : Front) → has_stopped f ≡ false → f.closed ≡ false
goes_closed f goes = by f.closed (is_some f.fault) goes
  where
    by : (a b : Bool) → (a || b) ≡ false → a ≡ false
    by true b e = e
    by false b e = refl

-- if the first entry isn't ready, nothing is laid. If it is ready, it is laid, and then what follows
abbrev next_front : Option ℤ → EntryView → List EntryView → PerformedView → Front → Front
next_front offset entry entries p front = answer_laid offset entry.phase p.work.context p.answer entries front

first_by : (offset : Option ℤ) (entry : EntryView) (entries : List EntryView) (front : Front) (o : Option PerformedView) → has_stopped front ≡ false → ready_of entry ≡ o
    → front_laid offset (entry ∷ entries) front ≡ with_ready o front (λ q. front_laid offset entries (next_front offset entry entries q front))
first_by offset entry entries front o goes ready =
    ap (λ (b : Bool). if b then front else with_ready (ready_of entry) front (λ q. front_laid offset entries (next_front offset entry entries q front))) goes
    ∙ ap (λ (x : Option PerformedView). with_ready x front (λ q. front_laid offset entries (next_front offset entry entries q front))) ready

-- how the front of a window is laid, if its first entry isn't ready, and if it is
abbrev Steps : Option ℤ → EntryView → List EntryView → Front → Option PerformedView → Type 0
Steps offset entry entries front o = front_laid offset (entry ∷ entries) front ≡ with_ready o front (λ q. front_laid offset entries (next_front offset entry entries q front))

more_by : (offset : Option ℤ) (entry : EntryView) (entries : List EntryView) (front : Front) (o : Option PerformedView) → ((f : Front) → f.laid ≤ (front_laid offset entries f).laid) → Steps offset entry entries front o → front.laid ≤ (front_laid offset (entry ∷ entries) front).laid
more_by offset entry entries front None later is = (let same = ap (λ (f : Front). f.laid) is in omega (arith, same))
more_by offset entry entries front (Some p) later is = (let same = ap (λ (f : Front). f.laid) is in let more = later (next_front offset entry entries p front) in omega (arith, same, more))

laid_more : (offset : Option ℤ) (entries : List EntryView) (front : Front) → front.laid ≤ (front_laid offset entries front).laid
laid_more offset [] front = omega arith
laid_more offset (entry ∷ entries) front = elim (cases_Bool (has_stopped front)) [
  | inl stopped ↦ (let same = ap (λ (f : Front). f.laid) (front_stays offset (entry ∷ entries) front stopped) in omega (arith, same))
  | inr goes ↦ more_by offset entry entries front (ready_of entry) (λ f. laid_more offset entries f) (first_by offset entry entries front (ready_of entry) goes refl)
]

-- each work that is laid was committed, and stays so
counts_by : (offset : Option ℤ) (entry : EntryView) (entries : List EntryView) (front : Front) (o : Option PerformedView) → ((f : Front) → f.window ≡ entries → front_count (front_laid offset entries f) ≡ front_count f)
    → front.window ≡ entry ∷ entries → (entry.phase ≡ Open → ⊥) → ready_of entry ≡ o → has_stopped front ≡ false → front_count (front_laid offset (entry ∷ entries) front) ≡ front_count front
counts_by offset entry entries front None later is works ready goes = ap front_count (first_by offset entry entries front None goes ready)
counts_by offset entry entries front (Some p) later is works ready goes =
    let next = next_front offset entry entries p front in
    let rest : front_count (front_laid offset entries next) ≡ front.laid + calls_in_phase entry.phase + one (is_close entry.phase) + count_committed entries = later next refl in
    let step : front_count (front_laid offset (entry ∷ entries) front) ≡ front_count (front_laid offset entries next) = ap front_count (first_by offset entry entries front (Some p) goes ready) in
    let work = one_work entry.phase works in
    let here : one entry.committed ≡ 1 = ap one (ready_committed entry p ready) in
    let unclosed : one front.closed ≡ 0 = ap one (goes_closed front goes) in
    let all : count_committed front.window ≡ one entry.committed + count_committed entries = ap count_committed is in
    let before : front_count front ≡ front.laid + one front.closed + count_committed front.window = refl in
    omega (arith, step, rest, work, here, unclosed, all, before)

front_counts : (offset : Option ℤ) (entries : List EntryView) (front : Front) → front.window ≡ entries → AreWorks entries → front_count (front_laid offset entries front) ≡ front_count front
front_counts offset [] front is works = refl
front_counts offset (entry ∷ entries) front is works = elim (cases_Bool (has_stopped front)) [
  | inl stopped ↦ ap front_count (front_stays offset (entry ∷ entries) front stopped)
  | inr goes ↦ counts_by offset entry entries front (ready_of entry) (λ f same. front_counts offset entries f same (λ i x at opens. works (suc i) x at opens)) is (works 0 entry refl) refl goes
]

-- an entry that is ready is laid, if all before it are, unless the node ends
abbrev IsPast : Front → ℕ → Type 0
IsPast f n = (has_stopped f ≡ true) ⊎ (f.laid ≡ n → ⊥)

closes_stop : (offset : Option ℤ) (entry : EntryView) (entries : List EntryView) (p : PerformedView) (front : Front) → is_close entry.phase ≡ true → has_stopped (next_front offset entry entries p front) ≡ true
closes_stop offset entry entries p front close = ap (λ (b : Bool). b || is_some (next_front offset entry entries p front).fault) close

further_past : (offset : Option ℤ) (entry : EntryView) (entries : List EntryView) (next : Front) (x : EntryView) (laid k : ℕ) → ((f : Front) (n : ℕ) → slice_get entries n ≡ Some x → IsPast (front_laid offset entries f) (f.laid + n))
    → slice_get (entry ∷ entries) k ≡ Some x → next.laid ≡ laid + 1 → IsPast (front_laid offset entries next) (laid + k)
further_past offset entry entries next x laid zero later at one_more = (let more = laid_more offset entries next in inr (λ e. omega (arith, one_more, more, e)))
further_past offset entry entries next x laid (suc n) later at one_more = elim (later next n at) [
  | inl stopped ↦ inl stopped
  | inr past ↦ inr (λ e. past (omega (arith, one_more, e)))
]

past_by : (offset : Option ℤ) (entry : EntryView) (entries : List EntryView) (front : Front) (x : EntryView) (p : PerformedView) (k : ℕ) (o : Option PerformedView)
    → ((f : Front) (n : ℕ) → slice_get entries n ≡ Some x → IsPast (front_laid offset entries f) (f.laid + n)) → slice_get (entry ∷ entries) k ≡ Some x → ready_of x ≡ Some p → (entry.phase ≡ Open → ⊥) → ready_of entry ≡ o
    → has_stopped front ≡ false → IsPast (front_laid offset (entry ∷ entries) front) (front.laid + k)
past_by offset entry entries front x p zero None later at ready works first goes =
    let same : entry ≡ x = some_same (Some entry) entry x refl at in
    absurd (none-some p (sym first ∙ (ap ready_of same ∙ ready)))
past_by offset entry entries front x p (suc n) None later at ready works first goes =
    (let is = ap (λ (f : Front). f.laid) (first_by offset entry entries front None goes first) in inr (λ e. omega (arith, is, e)))
past_by offset entry entries front x p k (Some q) later at ready works first goes =
    let next = next_front offset entry entries q front in
    let is : front_laid offset (entry ∷ entries) front ≡ front_laid offset entries next = first_by offset entry entries front (Some q) goes first in
    elim (cases_Bool (is_close entry.phase)) [
      | inl close ↦ inl (ap has_stopped (is ∙ front_stays offset entries next (closes_stop offset entry entries q front close)) ∙ closes_stop offset entry entries q front close)
      | inr further ↦ (
          let work = one_work entry.phase works in
          let none : one (is_close entry.phase) ≡ 0 = ap one further in
          let laid : front.laid + calls_in_phase entry.phase ≡ front.laid + 1 = omega (arith, work, none) in
          subst (λ (f : Front). IsPast f (front.laid + k)) (sym is) (further_past offset entry entries next x front.laid k later at laid))
    ]

front_past : (offset : Option ℤ) (entries : List EntryView) (front : Front) (k : ℕ) (x : EntryView) (p : PerformedView) → AreWorks entries → slice_get entries k ≡ Some x → ready_of x ≡ Some p → IsPast (front_laid offset entries front) (front.laid + k)
front_past offset [] front k x p works at ready = absurd cc
front_past offset (entry ∷ entries) front k x p works at ready = elim (cases_Bool (has_stopped front)) [
  | inl stopped ↦ inl (ap has_stopped (front_stays offset (entry ∷ entries) front stopped) ∙ stopped)
  | inr goes ↦ past_by offset entry entries front x p k (ready_of entry) (λ f n there. front_past offset entries f n x p (λ i y at-y opens. works (suc i) y at-y opens) there ready) at ready (works 0 entry refl) refl goes
]

-- Engines.

entries_work : {laws : Laws} (job : LoggedJob laws) (n : ℕ) (e : EngineView) → LawfulEngine job (of_node n) e → AreWorks e.window
unfolding LawfulEngine
entries_work {laws} job n e h i x at opens = (let entry = h.entries i x at in subst (λ (p : Phase). IsTask job.job h.streams h.node (e.laid + i) p entry.set) opens entry.task)

-- an entry that is out, or that came back unrun, isn't committed
out_not_committed : {laws : Laws} (job : LoggedJob laws) (n : ℕ) (e : EngineView) (i : ℕ) (x : EntryView) → LawfulEngine job (of_node n) e → slice_get e.window i ≡ Some x → x.outcome ≡ None → x.committed ≡ false
unfolding LawfulEngine
out_not_committed {laws} job n e i x h at out = elim (cases_Bool x.committed) [
  | inl is ↦ absurd (false≢true (subst IsSome out ((h.entries i x at).committed is).0))
  | inr not ↦ not
]

unrun_not_committed : {laws : Laws} (job : LoggedJob laws) (n : ℕ) (e : EngineView) (i : ℕ) (x : EntryView) (work : WorkView) → LawfulEngine job (of_node n) e → slice_get e.window i ≡ Some x → x.outcome ≡ Some (record { work = work; answer = None }) → x.committed ≡ false
unfolding LawfulEngine
unrun_not_committed {laws} job n e i x work h at unrun = elim (cases_Bool x.committed) [
  | inl is ↦ absurd (false≢true (subst (λ (o : Option OutcomeView). IfSome o (λ r. IsSome r.answer)) unrun ((h.entries i x at).committed is).1))
  | inr not ↦ not
]

-- the front that a commit makes
module _ {laws : Laws} (job : LoggedJob laws) (n : ℕ) (outcome : OutcomeView) (laid : ℕ) (e f : EngineView) (h : LawfulEngine job (of_node n) e) (out : IsOut e outcome.work) (commits : Commits outcome laid e f) where
  abbrev whole : List (StreamPrefix Plain)
  whole = (committed_whole e (record e { window = window_with e outcome }) outcome refl (record { job = job; number = n; lawful = h })).whole

  abbrev came : Front
  came = front_laid e.offset (window_with e outcome) (front_of e (window_with e outcome) whole)

  has_front : f ≡ record e { outputs = f.outputs; laid = came.laid; window = came.window; idle = came.idle; closed = came.closed; fault = option_map (fault_at e.node) came.fault }
  has_front = (commits.front whole (committed_whole e (record e { window = window_with e outcome }) outcome refl (record { job = job; number = n; lawful = h })).stand).others

  works : AreWorks (window_with e outcome)
  works = works_put e.window (outcome.work.number - e.laid) out.entry (committed_entry outcome) (entries_work job n e h) out.there (sym out.phase_is)

  pub commit_counts : committed_in f ≡ committed_in e + one (is_some outcome.answer)
  commit_counts =
      let step : committed_in f ≡ front_count came = ap committed_in has_front in
      let same = front_counts e.offset (window_with e outcome) (front_of e (window_with e outcome) whole) refl works in
      let put = put_counts e.window (outcome.work.number - e.laid) out.entry (committed_entry outcome) out.there (out_not_committed job n e (outcome.work.number - e.laid) out.entry h out.there out.out) in
      omega (arith, step, same, put)

  ready_at : (a : Option (Result (List Laid) Cause)) → outcome.answer ≡ a → is_some a ≡ true → (p : PerformedView) × (ready_of (committed_entry outcome) ≡ Some p)
  ready_at None is some = absurd (false≢true some)
  ready_at (Some a) is some = (record { work = outcome.work; answer = a }, ap (λ y. if is_some y then option_map (λ answer. (let q : PerformedView = record { work = outcome.work; answer = answer } in q)) y else None) is)

  pub commit_past : is_some outcome.answer ≡ true → (has_ended f ≡ true) ⊎ (f.laid ≢ outcome.work.number)
  commit_past some =
      let ready = ready_at outcome.answer refl some in
      let there = put_gives e.window (outcome.work.number - e.laid) out.entry (committed_entry outcome) out.there in
      let low = out.laid in
      let at : f.laid ≡ came.laid = ap (λ (v : EngineView). v.laid) has_front in
      elim (front_past e.offset (window_with e outcome) (front_of e (window_with e outcome) whole) (outcome.work.number - e.laid) (committed_entry outcome) ready.0 works there ready.1) [
        | inl stopped ↦ inl (ap has_ended has_front ∙ (ap (λ (b : Bool). came.closed || b) (is_some_map (fault_at e.node) came.fault) ∙ stopped))
        | inr past ↦ inr (λ same. past (omega (arith, at, same, low)))
      ]

-- a work that comes back as it is
pub shelve_counts : {laws : Laws} (job : LoggedJob laws) (n : ℕ) (outcome : OutcomeView) (e f : EngineView) → LawfulEngine job (of_node n) e → IsOut e outcome.work → f ≡ shelved e outcome → committed_in f ≡ committed_in e
shelve_counts {laws} job n outcome e f h out is =
    let step : committed_in f ≡ committed_in (shelved e outcome) = ap committed_in is in
    let put = put_counts e.window (outcome.work.number - e.laid) out.entry (back outcome) out.there (out_not_committed job n e (outcome.work.number - e.laid) out.entry h out.there out.out) in
    omega (arith, step, put)

pub stands_back : (outcome : OutcomeView) (e f : EngineView) → IsOut e outcome.work → f ≡ shelved e outcome → StandsBack f
stands_back outcome e f out is = subst StandsBack (sym is) (record { outcome = outcome; place = outcome.work.number - e.laid; there = put_gives e.window (outcome.work.number - e.laid) out.entry (back outcome) out.there })

-- Claims.

unrun_counts : {laws : Laws} (job : LoggedJob laws) (n : ℕ) (e f : EngineView) (w : WorkView) → LawfulEngine job (of_node n) e → TakesUnrun e f w → committed_in f ≡ committed_in e
unrun_counts {laws} job n e f w h t =
    let entry = t.hands.entry in
    let step : committed_in f ≡ committed_in (record e { window = f.window }) = ap committed_in t.now in
    let left = ap count_committed t.hands.left in
    let put = put_counts e.window t.place entry (record { phase = entry.phase; outcome = None; committed = false }) t.hands.there (unrun_not_committed job n e t.place entry w h t.hands.there t.hands.outcome) in
    omega (arith, step, left, put)

hands_counts : (e f : EngineView) (phase : Phase) (more : ℕ) (b : ContextView) → Hands e f phase more b → committed_in f ≡ committed_in e
hands_counts e f phase more b t =
    let step = ap committed_in t.now in
    let push = push_counts e.window (record { phase = phase; outcome = None; committed = false }) refl in
    omega (arith, step, push)

pub work_counts : {laws : Laws} (X : Type 0) (job : LoggedJob laws) (n : ℕ) (w : WorkView) (e f : EngineView) (i k : IntakeView) → LawfulEngine job (of_node n) e → Claims {C = X} (Work w) e f i k → committed_in f ≡ committed_in e
work_counts {laws} X job n w e f i k h claims = elim claims [
  | inl unrun ↦ unrun_counts job n e f w h unrun.1
  | inr further ↦ elim further.1 [
    | inl called ↦ (let t = called.0 in hands_counts e f (Call e.claimed) 1 t.context t.hands)
    | inr other ↦ elim other [
      | inl closes ↦ (let t = closes.0 in hands_counts e f Close 0 t.context t.hands)
      | inr t ↦ hands_counts e f (Process t.at) 1 t.context t.hands
    ]
  ]
]

pub answer_counts : (X : Type 0) (e f : EngineView) (i k : IntakeView) → Claims {C = X} Answered e f i k → committed_in f ≡ committed_in e + 1
answer_counts X e f i k claims = (let step = ap committed_in claims.1.now in omega (arith, step))

-- a claim that gives nothing gives nothing again
pub none_again : (X : Type 0) (r : Claimed X) (e f : EngineView) (i k : IntakeView) → Claims {C = X} r e f i k → AreSame e i f k → Claims {C = X} r f f k k
none_again X r e f i k c same =
    let a = subst (λ (x : EngineView). Claims {C = X} r e x i k) same.same_engine c in
    let b = subst (λ (x : IntakeView). Claims {C = X} r e e i x) same.same_intake a in
    subst (λ (x : EngineView). Claims {C = X} r x x k k) (sym same.same_engine) (subst (λ (x : IntakeView). Claims {C = X} r e e x x) (sym same.same_intake) b)

-- How rounds end.

pub none_committed : {laws : Laws} (job : LoggedJob laws) (n : ℕ) (outcome : OutcomeView) (e f : EngineView) → LawfulEngine job (of_node n) e → IsOut e outcome.work → f ≡ shelved e outcome → NoneCommitted e f
none_committed {laws} job n outcome e f h out is = (shelve_counts job n outcome e f h out is, stands_back outcome e f out is)

abbrev EndsRound : EngineView → EngineView → IntakeView → Type 0
EndsRound e f k = (committed_in f ≡ committed_in e) × RunEnds f k

pub not_ready_ends : (X : Type 0) (e f : EngineView) (i k : IntakeView) → Claims {C = X} NotReady e f i k → EndsRound e f k
not_ready_ends X e f i k c = (ap committed_in c.2.same_engine, inl (inl (none_again X NotReady e f i k c c.2)))

pub full_ends : (X : Type 0) (e f : EngineView) (i k : IntakeView) → Claims {C = X} InFlightFull e f i k → EndsRound e f k
full_ends X e f i k c = (ap committed_in c.3.same_engine, inl (inr (inl (none_again X InFlightFull e f i k c c.3))))

pub draining_ends : (X : Type 0) (e f : EngineView) (i k : IntakeView) → Claims {C = X} Draining e f i k → EndsRound e f k
draining_ends X e f i k c = (ap committed_in c.3.same_engine, inl (inr (inr (inl (none_again X Draining e f i k c c.3)))))

pub ended_ends : (X : Type 0) (e f : EngineView) (i k : IntakeView) → Claims {C = X} Ended e f i k → EndsRound e f k
ended_ends X e f i k c = (ap committed_in c.1.same_engine, inl (inr (inr (inr (inl (none_again X Ended e f i k c c.1))))))

pub no_memory_ends : (X : Type 0) (e f : EngineView) (i k : IntakeView) → Claims {C = X} OutOfMemory e f i k → EndsRound e f k
no_memory_ends X e f i k c = (ap committed_in c.2.same_engine, inl (inr (inr (inr (inr (none_again X OutOfMemory e f i k c c.2))))))
