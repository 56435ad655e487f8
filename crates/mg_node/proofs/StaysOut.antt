-- What is out at a node: a claim puts one more work out, and a work that comes back is out no more. All other works stay out, whatever is
-- laid.
use Rattle.std.proofs.Common.{◌≡◌, ◌≢◌, ℕ, ℤ, zero, suc, ◌+◌, ◌-◌, ◌<◌, ◌≤◌, Bool, true, false, List, [], ◌∷◌, ◌++◌, length, drop, set, Option, Some, None, IfSome, option_and_then, slice_get, count_by as number_of, inl, inr, ap, sym, refl, subst, ◌∙◌, arith, if◌then◌else◌}
use Rattle.std.proofs.lemmas.Bool.{true≢false, cases_eq, cases_lt}
use Rattle.std.proofs.lemmas.Option.{none-some, slice_get_within}
use Rattle.mg_value.specs.Payload.{Plain}
use Rattle.mg_value.specs.Packet.{Stamped}
use Rattle.mg_settled.specs.Prefix.{StreamPrefix}
use Rattle.mg_calc.specs.Rules.{Laws}
use Rattle.mg_calc.specs.declared.node_fault.Phase.{Phase}
use Rattle.mg_calc.specs.declared.node_fault.Phase.TheVariants.{Open, Call, Process, Close}
use Rattle.mg_calc.specs.declared.plan_node.PlanNode.{PlanNode}
use Rattle.mg_calc.proofs.Earlier.{behind}
use Rattle.mg_node.specs.Views.{ContextView, PerformedView, WorkView, OutcomeView, EntryView, EngineView}
use Rattle.mg_node.specs.Job.{LoggedJob, IsTask, count_of_all}
use Rattle.mg_node.specs.Lawful.{of_node, is_close, StandsAt, IsEngineOf, LawfulEngine}
use Rattle.mg_node.specs.Claims.{TakesUnrun, Hands}
use Rattle.mg_node.specs.Shelves.{IsOut, back, shelved, performed_of, shelf_at, Unshelves}
use Rattle.mg_node.specs.Out.{IsMissing, GoesOut, ComesBack}
use Rattle.mg_node.specs.Windows.{ready_of}
use Rattle.mg_node.specs.Commits.{Front, calls_in_phase, answer_laid, has_stopped, with_ready, front_laid, committed_entry, window_with, front_of, Commits}
use Rattle.mg_node.proofs.Handing.{none_number}
use Rattle.mg_node.proofs.Making.{some_same}
use Rattle.mg_node.proofs.Shelving.{found_at}
use Rattle.mg_node.proofs.TaskLogs.{task_most}
use Rattle.mg_node.proofs.WorksOut.{result_numbered, result_out}
use Rattle.mg_node.proofs.Frames.{get_other, put_there, get_first, get_push, get_drop}

no_outcome : (e : EntryView) (o : OutcomeView) → e.outcome ≡ None → e.outcome ≡ Some o → ⊥
no_outcome e o none some = none-some o (sym none ∙ some)

out_by : (before now : EngineView) (other : WorkView) → now.node ≡ before.node → now.laid ≡ before.laid → (o : IsOut before other) → slice_get now.window (other.number - before.laid) ≡ Some o.entry → IsOut now other
out_by before now other node laid o there = record {
  node_is = o.node_is ∙ sym node;
  laid = (let low = o.laid in omega (arith, low, laid));
  entry = o.entry;
  there = ap (λ (n : ℕ). slice_get now.window (other.number - n)) laid ∙ there;
  out = o.out;
  phase_is = o.phase_is;
}

missing_by : (before now : EngineView) (place : ℕ) (entry : EntryView) → now.laid ≡ before.laid → slice_get before.window place ≡ Some entry → entry.outcome ≡ None → IsMissing before (now.laid + place)
missing_by before now place entry laid there none = record { place = place; number_is = omega (arith, laid); entry = entry; there = there; missing = none }

-- A work that comes back to its window.
pub shelved_back : (engine : EngineView) (outcome : OutcomeView) → IsOut engine outcome.work → ComesBack engine (shelved engine outcome) outcome.work.number
shelved_back engine outcome out =
    let place = outcome.work.number - engine.laid in
    let laid = out.laid in
    record {
      stays = λ other o apart.
          let low = o.laid in
          out_by engine (shelved engine outcome) other refl refl o (get_other engine.window place (other.number - engine.laid) (back outcome) (λ e. apart (omega (arith, e, laid, low))) ∙ o.there);
      only = λ i entry at none. elim (cases_eq i place) [
        | inl here ↦
            (let is : entry ≡ back outcome = put_there engine.window place (back outcome) entry (ap (slice_get (set engine.window place (back outcome))) (sym here) ∙ at) in
            absurd (no_outcome entry outcome none (ap (λ (e : EntryView). e.outcome) is)))
        | inr other ↦ (
          missing_by engine (shelved engine outcome) i entry refl (sym (get_other engine.window place i (back outcome) other) ∙ at) none,
          λ e. other (omega (arith, e, laid)),
        )
      ];
    }

-- A work that is handed out of its entry again.
out_again : (before now : EngineView) (work : WorkView) (place : ℕ) (x y : EntryView) (o : OutcomeView) → now.node ≡ before.node → now.laid ≡ before.laid → now.window ≡ set before.window place y → slice_get before.window place ≡ Some x
    → x.outcome ≡ Some o → work.number ≡ before.laid + place → IsOut now work → GoesOut before now work
out_again before now work place x y o node laid window there some number_is out =
    let not_here : (other : WorkView) → IsOut before other → other.number ≢ work.number = λ other oo e.
    let low = oo.laid in
    let same : other.number - before.laid ≡ place = omega (arith, e, number_is, low) in
    let one : oo.entry ≡ x = some_same (slice_get before.window place) oo.entry x (ap (slice_get before.window) (sym same) ∙ oo.there) there in
    no_outcome x o (ap (λ (e : EntryView). e.outcome) (sym one) ∙ oo.out) some in
    record {
      out = out;
      apart = not_here;
      stays = λ other oo.
          let low = oo.laid in
          out_by before now other node laid oo
          (ap (λ (w : List EntryView). slice_get w (other.number - before.laid)) window
          ∙ get_other before.window place (other.number - before.laid) y (λ e. not_here other oo (omega (arith, e, number_is, low))) ∙ oo.there);
      only = λ i entry at none. elim (cases_eq i place) [
        | inl here ↦ inl (omega (arith, number_is, here, laid))
        | inr other ↦ inr (missing_by before now i entry laid (sym (get_other before.window place i y other) ∙ ap (λ (w : List EntryView). slice_get w i) (sym window) ∙ at) none)
      ];
    }

-- A further work, whose entry comes after the others.
out_behind : (before now : EngineView) (work : WorkView) (y : EntryView) → now.node ≡ before.node → now.laid ≡ before.laid → now.window ≡ before.window ++ y ∷ [] → work.number ≡ before.laid + length before.window
    → IsOut now work → GoesOut before now work
out_behind before now work y node laid window number_is out = record {
  out = out;
  apart = λ other oo e. let low = oo.laid in let within = slice_get_within before.window (other.number - before.laid) oo.entry oo.there in absurd (omega (arith, e, number_is, low, within));
  stays = λ other oo.
      out_by before now other node laid oo
      (ap (λ (w : List EntryView). slice_get w (other.number - before.laid)) window ∙ get_first before.window (y ∷ []) (other.number - before.laid) oo.entry oo.there);
  only = λ i entry at none. elim (get_push before.window y i entry (ap (λ (w : List EntryView). slice_get w i) (sym window) ∙ at)) [
    | inl first ↦ inr (missing_by before now i entry laid first none)
    | inr last ↦ inl (omega (arith, number_is, last, laid))
  ];
}

-- What is found in its window is out once it is taken.
pub unshelved_out : {laws : Laws} (job : LoggedJob laws) (owner : ℕ) (engine engine_now : EngineView) (number : ℕ) (p : PerformedView) → LawfulEngine job (of_node owner) engine → shelf_at engine number ≡ Some p → Unshelves (Some p) engine engine_now number
    → GoesOut engine engine_now p.work
unshelved_out {laws} job owner engine engine_now number p h found now =
    let it = found_at engine number p found in
    let from = it.0 in
    let number_is = result_numbered job owner engine number (Some p) (sym found) h in
    out_again engine engine_now p.work (number - engine.laid) it.1 (record { phase = p.work.phase; outcome = None; committed = false }) it.3.outcome
    (ap (λ (v : EngineView). v.node) now) (ap (λ (v : EngineView). v.laid) now) (ap (λ (v : EngineView). v.window) now) it.2 it.3.there (omega (arith, number_is, from))
    (result_out job owner engine engine_now number (Some p) (sym found) now h)

-- Close comes after all others, so each entry before another is counted.
by_phase : {laws : Laws} (job : LoggedJob laws) (streams : List (StreamPrefix Plain)) (node : PlanNode) (n m : ℕ) (phase : Phase) (set : List (Option (Stamped Plain))) → n < m → m ≤ count_of_all streams node → IsTask job.job streams node n phase set → calls_in_phase phase ≡ 1
by_phase {laws} job streams node n m Open set less most t = absurd t
by_phase {laws} job streams node n m (Call k) set less most t = refl
by_phase {laws} job streams node n m (Process at) set less most t = refl
by_phase {laws} job streams node n m Close set less most t = (let all = t.all in absurd (omega (arith, all, less, most)))

counted_before : {laws : Laws} (job : LoggedJob laws) (number : ℕ) (engine : EngineView) (i j : ℕ) (e f : EntryView) → IsEngineOf job number engine → slice_get engine.window i ≡ Some e → slice_get engine.window j ≡ Some f → i < j → calls_in_phase e.phase ≡ 1
counted_before {laws} job number engine i j e f h at at_j less =
    let one = h.entries i e at in
    let two = h.entries j f at_j in
    by_phase job h.streams h.node (engine.laid + i) (engine.laid + j) e.phase one.set (omega (arith, less)) (task_most job h.streams h.node (engine.laid + j) f.phase two.set two.task) one.task

-- an entry that is changed keeps its phase
abbrev phase_at : (window : List EntryView) (place i : ℕ) (x y e : EntryView) → slice_get window place ≡ Some x → y.phase ≡ x.phase → slice_get (set window place y) i ≡ Some e → (f : EntryView) × (slice_get window i ≡ Some f) × (f.phase ≡ e.phase)
phase_at window place i x y e there same at = elim (cases_eq i place) [
  | inl here ↦
      (let is : e ≡ y = put_there window place y e (ap (slice_get (set window place y)) (sym here) ∙ at) in
      (x, ap (slice_get window) here ∙ there, sym same ∙ ap (λ (f : EntryView). f.phase) (sym is)))
  | inr other ↦ (e, sym (get_other window place i y other) ∙ at, refl)
]

counted_in : {laws : Laws} (job : LoggedJob laws) (number : ℕ) (engine : EngineView) (place i j : ℕ) (x y e f : EntryView) → IsEngineOf job number engine → slice_get engine.window place ≡ Some x → y.phase ≡ x.phase
    → slice_get (set engine.window place y) i ≡ Some e → slice_get (set engine.window place y) j ≡ Some f → i < j → calls_in_phase e.phase ≡ 1
counted_in {laws} job number engine place i j x y e f h there same at at_j less =
    let one = phase_at engine.window place i x y e there same at in
    let two = phase_at engine.window place j x y f there same at_j in
    subst (λ (p : Phase). calls_in_phase p ≡ 1) one.2 (counted_before job number engine i j one.0 two.0 h one.1 two.1 less)

-- What is laid of a window are its first entries; none of them is out, and each that is counted is laid once.
record LaysFirst (entries : List EntryView) (front last : Front) : Type 0 where
  pub k : ℕ
  pub window : last.window ≡ drop k entries
  pub back_there : (i : ℕ) (entry : EntryView) → i < k → slice_get entries i ≡ Some entry → entry.outcome ≡ None → ⊥
  pub laid : ((i : ℕ) (entry : EntryView) → i < k → slice_get entries i ≡ Some entry → calls_in_phase entry.phase ≡ 1) → k ≤ length entries → last.laid ≡ front.laid + k
  pub few : k ≤ length entries

ready_none : (committed : Bool) (o : Option OutcomeView) (p : PerformedView) → o ≡ None → (if committed then option_and_then performed_of o else None) ≡ Some p → ⊥
ready_none committed (Some x) p none is = none-some x (sym none)
ready_none true None p none is = none-some p is
ready_none false None p none is = none-some p is

ready_at : (entry : EntryView) (entries : List EntryView) (p : PerformedView) (k i : ℕ) (e : EntryView) → ready_of entry ≡ Some p → ((j : ℕ) (f : EntryView) → j < k → slice_get entries j ≡ Some f → f.outcome ≡ None → ⊥)
    → i < suc k → slice_get (entry ∷ entries) i ≡ Some e → e.outcome ≡ None → ⊥
ready_at entry entries p k zero e is later less at none =
    (let same : Some entry ≡ Some e = at in
    let one : entry ≡ e = cc in
    ready_none entry.committed entry.outcome p (ap (λ (f : EntryView). f.outcome) one ∙ none) is)
ready_at entry entries p k (suc i) e is later less at none = later i e (omega (arith, less)) at none

lays_none : (entries : List EntryView) (front : Front) → front.window ≡ entries → LaysFirst entries front front
lays_none entries front window = record {
  k = 0;
  window = window;
  back_there = λ i e less at none. absurd (omega (arith, less));
  laid = λ ones few. omega arith;
  few = omega arith;
}

lays_next : (offset : Option ℤ) (entry : EntryView) (entries : List EntryView) (front : Front) → front.window ≡ entry ∷ entries → ((next : Front) → next.window ≡ entries → LaysFirst entries next (front_laid offset entries next))
    → (stops : Bool) (ready : Option PerformedView) → ready_of entry ≡ ready
    → LaysFirst (entry ∷ entries) front (if stops then front else with_ready ready front (λ p. front_laid offset entries (answer_laid offset entry.phase p.work.context p.answer entries front)))
lays_next offset entry entries front window go_on true ready is = lays_none (entry ∷ entries) front window
lays_next offset entry entries front window go_on false None is = lays_none (entry ∷ entries) front window
lays_next offset entry entries front window go_on false (Some p) is =
    let next = answer_laid offset entry.phase p.work.context p.answer entries front in
    let r = go_on next refl in
    let r_few = r.few in
    record {
      k = suc r.k;
      window = r.window;
      back_there = λ i e less at none. ready_at entry entries p r.k i e is r.back_there less at none;
      laid = λ ones few.
          (let more = r.laid (λ i e less at. ones (suc i) e (omega (arith, less)) at) r_few in
          let one = ones 0 entry (omega arith) refl in
          omega (arith, more, one));
      few = omega (arith, r_few);
    }

lays_first : (offset : Option ℤ) (entries : List EntryView) (front : Front) → front.window ≡ entries → LaysFirst entries front (front_laid offset entries front)
lays_first offset [] front window = lays_none [] front window
lays_first offset (entry ∷ entries) front window = lays_next offset entry entries front window (λ next w. lays_first offset entries next w) (has_stopped front) (ready_of entry) refl

-- A work that is committed: all others that are out stay out, whatever is laid.
pub committed_back : {laws : Laws} (job : LoggedJob laws) (number : ℕ) (outcome : OutcomeView) (n : ℕ) (before now : EngineView) → IsOut before outcome.work → LawfulEngine job (of_node number) before → Commits outcome n before now → ComesBack before now outcome.work.number
unfolding LawfulEngine
committed_back {laws} job number outcome n before now out h c =
    let place = outcome.work.number - before.laid in
    let low_own = out.laid in
    let entries = window_with before outcome in
    let front = front_of before entries h.whole in
    let last = front_laid before.offset entries front in
    let has = c.front h.whole h.kept in
    let f = lays_first before.offset entries front refl in
    let k = f.k in
    let window : now.window ≡ drop k entries = ap (λ (v : EngineView). v.window) has.others ∙ f.window in
    let laid : ((i : ℕ) (entry : EntryView) → i < k → slice_get entries i ≡ Some entry → calls_in_phase entry.phase ≡ 1) → now.laid ≡ before.laid + k = λ ones. ap (λ (v : EngineView). v.laid) has.others ∙ f.laid ones f.few in
    let ones : (j : ℕ) (x : EntryView) → slice_get entries j ≡ Some x → k ≤ j → (i : ℕ) (entry : EntryView) → i < k → slice_get entries i ≡ Some entry → calls_in_phase entry.phase ≡ 1 = λ j x at_j le i entry less at.
    counted_in job number before place i j out.entry (committed_entry outcome) entry x h out.there (sym out.phase_is) at at_j (omega (arith, less, le)) in
    record {
      stays = λ other o apart.
          let j = other.number - before.laid in
          let low = o.laid in
          let at : slice_get entries j ≡ Some o.entry = get_other before.window place j (committed_entry outcome) (λ e. apart (omega (arith, e, low_own, low))) ∙ o.there in
          elim (cases_lt j k) [
            | inl less ↦ absurd (f.back_there j o.entry less at o.out)
            | inr le ↦
                (let so_far = laid (ones j o.entry at le) in
                let there : k + (other.number - now.laid) ≡ j = omega (arith, so_far, low, le) in
                record {
                  node_is = o.node_is ∙ sym (ap (λ (v : EngineView). v.node) has.others);
                  laid = omega (arith, so_far, low, le);
                  entry = o.entry;
                  there = ap (λ (w : List EntryView). slice_get w (other.number - now.laid)) window ∙ get_drop k entries (other.number - now.laid) ∙ ap (slice_get entries) there ∙ at;
                  out = o.out;
                  phase_is = o.phase_is;
                })
          ];
      only = λ i entry at none.
          let there : slice_get entries (k + i) ≡ Some entry = sym (get_drop k entries i) ∙ ap (λ (w : List EntryView). slice_get w i) (sym window) ∙ at in
          let so_far = laid (ones (k + i) entry there (omega arith)) in
          let elsewhere : k + i ≢ place = λ here.
          let is : entry ≡ committed_entry outcome = put_there before.window place (committed_entry outcome) entry (ap (slice_get entries) (sym here) ∙ there) in
          no_outcome entry outcome none (ap (λ (e : EntryView). e.outcome) is) in (
            record {
              place = k + i;
              number_is = omega (arith, so_far);
              entry = entry;
              there = sym (get_other before.window place (k + i) (committed_entry outcome) elsewhere) ∙ there;
              missing = none;
            },
            λ e. elsewhere (omega (arith, e, so_far, low_own)),
          );
    }

-- What a claim hands out.
pub unrun_goes : {laws : Laws} (job : LoggedJob laws) (number : ℕ) (engine engine_now : EngineView) (work : WorkView) → LawfulEngine job (of_node number) engine → TakesUnrun engine engine_now work → IsOut engine_now work → GoesOut engine engine_now work
unfolding LawfulEngine
unrun_goes {laws} job number engine engine_now work h t out =
    let hands = t.hands in
    let o : OutcomeView = record { work = work; answer = None } in
    let stands : StandsAt job number (engine.laid + t.place) hands.entry.phase o =
    subst (λ (x : Option OutcomeView). IfSome x (λ p. StandsAt job number (engine.laid + t.place) hands.entry.phase p)) hands.outcome (h.entries t.place hands.entry hands.there).outcome in
    out_again engine engine_now work t.place hands.entry (record { phase = hands.entry.phase; outcome = None; committed = false }) o
    (ap (λ (v : EngineView). v.node) t.now) (ap (λ (v : EngineView). v.laid) t.now) hands.left hands.there hands.outcome stands.number_is out

counted_open : (phase : Phase) → calls_in_phase phase ≡ 1 → is_close phase ≡ false
counted_open Open is = refl
counted_open (Call n) is = refl
counted_open (Process at) is = refl
counted_open Close is = absurd (omega (arith, is))

pub further_goes : {laws : Laws} (job : LoggedJob laws) (number : ℕ) (engine engine_now : EngineView) (phase : Phase) (more : ℕ) (context : ContextView) (work : WorkView) → LawfulEngine job (of_node number) engine → LawfulEngine job (of_node number) engine_now
    → Hands engine engine_now phase more context → work.number ≡ engine.claimed → IsOut engine_now work → GoesOut engine engine_now work
unfolding LawfulEngine
further_goes {laws} job number engine engine_now phase more context work h now t number_is out =
    let y : EntryView = record { phase = phase; outcome = None; committed = false } in
    let window : engine_now.window ≡ engine.window ++ y ∷ [] = ap (λ (v : EngineView). v.window) t.now in
    let last : slice_get engine_now.window (length engine.window) ≡ Some y = ap (λ (w : List EntryView). slice_get w (length engine.window)) window ∙ behind engine.window [] y in
    let none : number_of (λ (e : EntryView). is_close e.phase) engine.window ≡ 0 = none_number (λ (e : EntryView). is_close e.phase) engine.window (λ k e at closes.
    let there : slice_get engine_now.window k ≡ Some e = ap (λ (w : List EntryView). slice_get w k) window ∙ get_first engine.window (y ∷ []) k e at in
    let counts = counted_before job number engine_now k (length engine.window) e y now there last (slice_get_within engine.window k e at) in
    true≢false (sym closes ∙ counted_open e.phase counts)) in
    let order = h.order in
    out_behind engine engine_now work y (ap (λ (v : EngineView). v.node) t.now) (ap (λ (v : EngineView). v.laid) t.now) window (omega (arith, number_is, order, none)) out
