-- Laying the front of a window, one entry further.
use Rattle.std.proofs.Common.{◌≡◌, ℕ, ℤ, zero, suc, ◌+◌, ◌<◌, ◌≤◌, ◌||◌, Bool, true, false, List, [], ◌∷◌, length, drop, get_or, set, map, inl, inr, Option, Some, None, option_map, Result, Ok, Err, refl, ap, sym, subst, ◌∙◌, arith, is_some, if◌then◌else◌}
use Rattle.std.proofs.Math.Nat.{eq-or-lt_of_le}
use Rattle.std.proofs.lemmas.List.{drop_more, drop_all, length-set}
use Rattle.mg_value.specs.Payload.{Plain}
use Rattle.mg_settled.specs.Prefix.{StreamPrefix}
use Rattle.mg_stream.specs.Queue.{Waiting, IsLike}
use Rattle.mg_stream.specs.Pool.{backlog_of}
use Rattle.mg_calc.specs.declared.cause.Cause.{Cause}
use Rattle.mg_calc.specs.declared.emission.Laid.{Laid}
use Rattle.mg_calc.specs.declared.node_fault.Phase.{Phase}
use Rattle.mg_calc.specs.declared.node_fault.NodeFault.{NodeFault}
use Rattle.mg_calc.specs.Outcome.{Failure}
use Rattle.mg_route.specs.Reasons.{reason_of}
use Rattle.mg_node.specs.declared.fronts.FrontEnd.{FrontEnd}
use Rattle.mg_node.specs.Views.{ContextView, PerformedView, EntryView}
use Rattle.mg_node.specs.Commits.{raised_before, laid_by, failure_by, Front, answer_laid, has_stopped, with_ready, front_laid, fault_at}
use Rattle.mg_node.specs.Windows.{ready_of, starts_ready}
use Rattle.mg_node.specs.Code.QueueLaying.{Stand, packets_by, room_at, HasRoomFor}
use Rattle.mg_node.specs.Code.FrontLaying.{needed, front_end_of, IsFirstLaid, start_of, HasCome, IsFrontLaid}
use Rattle.mg_node.proofs.Replying.{same_backlog}
use Rattle.mg_node.proofs.Zips.{map-set}

pub ready_first : (entries : List EntryView) (x : EntryView) → 0 < length entries → x ≡ get_or entries 0 x → starts_ready entries ≡ is_some (ready_of x)
ready_first [] x some is = absurd (omega (arith, some))
ready_first (e ∷ entries) x some is = ap (λ (y : EntryView). is_some (ready_of y)) (sym is)

pub ready_none : (entries : List EntryView) → entries ≡ [] → starts_ready entries ≡ false
ready_none entries none = ap starts_ready none

-- How many packets are needed.

some_is : {A : Type 0} (o : Option A) → is_some o ≡ true → (x : A) × (o ≡ Some x)
some_is None some = absurd cc
some_is (Some x) some = (x, refl)

none_is : {A : Type 0} (o : Option A) → is_some o ≡ false → o ≡ None
none_is None none = refl
none_is (Some x) none = absurd cc

needed_by : (output : ℕ) (entry : EntryView) (entries : List EntryView) (p : PerformedView) → ready_of entry ≡ Some p → needed output (entry ∷ entries) ≡ packets_by output p.answer + needed output entries
needed_by output entry entries p ready = ap (λ (o : Option PerformedView). with_ready o 0 (λ q. packets_by output q.answer + needed output entries)) ready

pub needed_more : (output : ℕ) (entries : List EntryView) (i sum more n : ℕ) (x : EntryView) → i < length entries → x ≡ get_or entries i x → is_some (ready_of x) ≡ true
    → ((p : PerformedView) → ready_of x ≡ Some p → n ≡ packets_by output p.answer) → more ≡ sum + n → sum + needed output (drop i entries) ≡ needed output entries → more + needed output (drop (i + 1) entries) ≡ needed output entries
needed_more output entries i sum more n x there is ready count add so_far =
    let p = some_is (ready_of x) ready in
    let here : ready_of (get_or entries i x) ≡ Some p.0 = ap ready_of (sym is) ∙ p.1 in
    let step : needed output (drop i entries) ≡ packets_by output p.0.answer + needed output (drop (i + 1) entries) = ap (needed output) (drop_more entries i x there) ∙ needed_by output (get_or entries i x) (drop (i + 1) entries) p.0 here in
    omega (arith, add, count p.0 p.1, step, so_far)

pub needed_end : (output : ℕ) (entries : List EntryView) (i sum : ℕ) (x : EntryView) → i < length entries → x ≡ get_or entries i x → is_some (ready_of x) ≡ false → sum + needed output (drop i entries) ≡ needed output entries → sum ≡ needed output entries
needed_end output entries i sum x there is ready so_far =
    let here : ready_of (get_or entries i x) ≡ None = ap ready_of (sym is) ∙ none_is (ready_of x) ready in
    let none : needed output (drop i entries) ≡ 0 = ap (needed output) (drop_more entries i x there) ∙ ap (λ (o : Option PerformedView). with_ready o 0 (λ q. packets_by output q.answer + needed output (drop (i + 1) entries))) here in
    omega (arith, none, so_far)

pub needed_all : (output : ℕ) (entries : List EntryView) (i sum : ℕ) → length entries ≤ i → sum + needed output (drop i entries) ≡ needed output entries → sum ≡ needed output entries
needed_all output entries i sum over so_far =
    let none : needed output (drop i entries) ≡ 0 = ap (needed output) (drop_all i entries over) in
    omega (arith, none, so_far)

-- Room is made.

set_same : {X : Type 0} (xs : List X) (i : ℕ) (x : X) → set xs i (get_or xs i x) ≡ xs
set_same [] i x = refl
set_same (y ∷ xs) zero x = refl
set_same {X} (y ∷ xs) (suc i) x = ap (λ (l : List X). y ∷ l) (set_same xs i x)

pub reserved_same : (qs before : List (Waiting Plain)) (i : ℕ) (q r : Waiting Plain) → IsLike r (get_or qs i q) → map backlog_of qs ≡ map backlog_of before → map backlog_of (set qs i r) ≡ map backlog_of before
reserved_same qs before i q r like so_far =
    map-set backlog_of qs i r
    ∙ ap (set (map backlog_of qs) i) (same_backlog r (get_or qs i q) like)
    ∙ sym (map-set backlog_of qs i (get_or qs i q))
    ∙ ap (map backlog_of) (set_same qs i q)
    ∙ so_far

pub room_set : (qs : List (Waiting Plain)) (i : ℕ) (r : Waiting Plain) → i < length qs → room_at i (set qs i r) ≡ r.spare
room_set [] i r le = absurd (omega (arith, le))
room_set (q ∷ qs) zero r le = refl
room_set (q ∷ qs) (suc i) r le = room_set qs i r (omega (arith, le))

pub room_other : (qs : List (Waiting Plain)) (i k : ℕ) (r : Waiting Plain) → k < i → room_at k (set qs i r) ≡ room_at k qs
room_other [] i k r le = refl
room_other (q ∷ qs) zero k r le = absurd (omega (arith, le))
room_other (q ∷ qs) (suc i) zero r le = refl
room_other (q ∷ qs) (suc i) (suc k) r le = room_other qs i k r (omega (arith, le))

pub reserved_room : (qs : List (Waiting Plain)) (i : ℕ) (r : Waiting Plain) (entries : List EntryView) (more : ℕ) → i < length qs → more ≡ needed i entries → more ≤ r.spare
    → ((k : ℕ) → k < i → needed k entries ≤ room_at k qs) → (k : ℕ) → k < i + 1 → needed k entries ≤ room_at k (set qs i r)
reserved_room qs i r entries more there is room so_far k le = elim (eq-or-lt_of_le {n = k} {m = i} (omega (arith, le))) [
  | inl same ↦
      (subst (λ (j : ℕ). needed j entries ≤ room_at j (set qs i r)) (sym same) (let here = room_set qs i r there in omega (arith, is, room, here)))
  | inr less ↦ (let before = so_far k less in let same = room_other qs i k r less in omega (arith, before, same))
]

pub answer_room : (qs : List (Waiting Plain)) (i : ℕ) (r : Waiting Plain) (answer : Result (List Laid) Cause) (more : ℕ) → i < length qs → more ≡ packets_by i answer → more ≤ r.spare
    → ((k : ℕ) → k < i → packets_by k answer ≤ room_at k qs) → (k : ℕ) → k < i + 1 → packets_by k answer ≤ room_at k (set qs i r)
answer_room qs i r answer more there is room so_far k le = elim (eq-or-lt_of_le {n = k} {m = i} (omega (arith, le))) [
  | inl same ↦
      (subst (λ (j : ℕ). packets_by j answer ≤ room_at j (set qs i r)) (sym same) (let here = room_set qs i r there in omega (arith, is, room, here)))
  | inr less ↦ (let before = so_far k less in let same = room_other qs i k r less in omega (arith, before, same))
]

-- the single output has room
pub single_room : (qs : List (Waiting Plain)) (r : Waiting Plain) (answer : Result (List Laid) Cause) (more : ℕ) → length qs ≡ 1 → more ≡ packets_by 0 answer → more ≤ r.spare → HasRoomFor (set qs 0 r) answer
single_room qs r answer more one is room = λ output le.
    answer_room qs 0 r answer more (omega (arith, one)) is room (λ k less. absurd (omega (arith, less))) output (let long = length-set qs 0 r in omega (arith, le, one, long))

-- a front that was laid so far: laying what is left of the window gives the wanted front, whatever the outputs stand for
pub record Reaches (offset : Option ℤ) (now : List (Waiting Plain)) (window_now : List EntryView) (idle_now : List ContextView) (laid : ℕ) (wanted : Front) : Type 0 where
  pub whole : List (StreamPrefix Plain)
  pub stand : Stand now whole
  pub same : front_laid offset window_now (start_of whole laid window_now idle_now) ≡ wanted

pub record IsUnderWay (offset : Option ℤ) (before now : List (Waiting Plain)) (window window_now : List EntryView) (idle idle_now : List ContextView) (count : ℕ) : Type 0 where
  pub gone : map (λ q. q.gone) now ≡ map (λ q. q.gone) before
  pub reaches : (whole : List (StreamPrefix Plain)) (laid : ℕ) → Stand before whole → Reaches offset now window_now idle_now (laid + count) (front_laid offset window (start_of whole laid window idle))

pub way_begins : (offset : Option ℤ) (qs : List (Waiting Plain)) (window : List EntryView) (idle : List ContextView) → IsUnderWay offset qs qs window window idle idle 0
way_begins offset qs window idle = record {
  gone = refl;
  reaches = λ whole laid stand. (let same : laid ≡ laid + 0 = omega arith in record { whole = whole; stand = stand; same = ap (λ (n : ℕ). front_laid offset window (start_of whole n window idle)) (sym same) });
}

-- a front once the first entry is laid
abbrev pub laid_once : Option ℤ → Phase → PerformedView → List EntryView → Front → Front
laid_once offset phase p rest front = answer_laid offset phase p.work.context p.answer rest front

first_step : (offset : Option ℤ) (entry : EntryView) (entries : List EntryView) (p : PerformedView) (front : Front) → has_stopped front ≡ false → ready_of entry ≡ Some p
    → front_laid offset (entry ∷ entries) front ≡ front_laid offset entries (laid_once offset entry.phase p entries front)
first_step offset entry entries p front goes ready =
    ap (λ (b : Bool). if b then front else with_ready (ready_of entry) front (λ q. front_laid offset entries (laid_once offset entry.phase q entries front))) goes
    ∙ ap (λ (o : Option PerformedView). with_ready o front (λ q. front_laid offset entries (laid_once offset entry.phase q entries front))) ready

pub front_stays : (offset : Option ℤ) (entries : List EntryView) (front : Front) → has_stopped front ≡ true → front_laid offset entries front ≡ front
front_stays offset [] front stopped = refl
front_stays offset (entry ∷ entries) front stopped =
    ap (λ (b : Bool). if b then front else with_ready (ready_of entry) front (λ q. front_laid offset entries (laid_once offset entry.phase q entries front))) stopped

pub fault_is : (node : ℕ) (phase : Phase) (given : Result (List (StreamPrefix Plain)) Cause) (cause : Option Cause) → cause ≡ reason_of given → (front_end_of node phase cause).fault ≡ option_map (fault_at node) (failure_by phase given)
fault_is node phase (Ok outputs) cause is = ap (λ (o : Option Cause). (front_end_of node phase o).fault) is
fault_is node phase (Err c) cause is = ap (λ (o : Option Cause). (front_end_of node phase o).fault) is

-- the front once the first entry is laid
pub record LaidFirst (offset : Option ℤ) (node : ℕ) (now : List (Waiting Plain)) (window_now : List EntryView) (idle_now : List ContextView) (end : FrontEnd) (laid : ℕ) (wanted : Front) : Type 0 where
  pub front : Front
  pub stand : Stand now front.outputs
  pub same : front_laid offset window_now front ≡ wanted
  pub laid_is : front.laid ≡ laid + end.laid
  pub window : front.window ≡ window_now
  pub idle : front.idle ≡ idle_now
  pub closed : front.closed ≡ end.closed
  pub fault : end.fault ≡ option_map (fault_at node) front.fault

laid_first : (offset : Option ℤ) (node : ℕ) (mid now : List (Waiting Plain)) (window window_now : List EntryView) (idle idle_now : List ContextView) (end : FrontEnd) (laid : ℕ) (wanted : Front) → IsFirstLaid offset node mid now window window_now idle idle_now end
    → Reaches offset mid window idle laid wanted → LaidFirst offset node now window_now idle_now end laid wanted
laid_first offset node mid now window window_now idle idle_now end laid wanted h r =
    let phase = h.entry.phase in
    let start : Front = start_of r.whole laid window idle in
    let given = laid_by offset phase (raised_before offset phase r.whole) h.performed.answer in
    let it = h.laid.laid r.whole r.stand in
    record {
      front = laid_once offset phase h.performed window_now start;
      stand = it.1;
      same = sym (ap (λ (w : List EntryView). front_laid offset w start) h.first ∙ first_step offset h.entry window_now h.performed start refl h.ready) ∙ r.same;
      laid_is = ap (λ (n : ℕ). laid + n) (sym (ap (λ (e : FrontEnd). e.laid) h.end_is));
      window = refl;
      idle = sym h.idle_is;
      closed = sym (ap (λ (e : FrontEnd). e.closed) h.end_is);
      fault = ap (λ (e : FrontEnd). e.fault) h.end_is ∙ fault_is node phase given h.cause it.0;
    }

none_mapped : (node : ℕ) (o : Option NodeFault) (f : Option Failure) → o ≡ option_map (fault_at node) f → is_some f ≡ is_some o
none_mapped node o None is = sym (ap is_some is)
none_mapped node o (Some f) is = sym (ap is_some is)

pub way_stops : (offset : Option ℤ) (node : ℕ) (before mid now : List (Waiting Plain)) (window window_mid window_now : List EntryView) (idle idle_mid idle_now : List ContextView) (end last : FrontEnd) (count : ℕ)
    → IsUnderWay offset before mid window window_mid idle idle_mid count → IsFirstLaid offset node mid now window_mid window_now idle_mid idle_now end → (end.closed || is_some end.fault) ≡ true
    → last.laid ≡ count + end.laid → last.closed ≡ end.closed → last.fault ≡ end.fault → IsFrontLaid offset node before now window window_now idle idle_now last
way_stops offset node before mid now window window_mid window_now idle idle_mid idle_now end last count way h stopped laid_same closed_same fault_same = record {
  gone = h.laid.gone ∙ way.gone;
  front = λ whole laid stand.
      let it = laid_first offset node mid now window_mid window_now idle_mid idle_now end (laid + count) _ h (way.reaches whole laid stand) in
      let laid_is = it.laid_is in
      let ends : has_stopped it.front ≡ true = ap (λ (b : Bool). b || is_some it.front.fault) it.closed ∙ ap (λ (b : Bool). end.closed || b) (none_mapped node end.fault it.front.fault it.fault) ∙ stopped in
      subst (λ (f : Front). HasCome f node laid now window_now idle_now last) (sym (front_stays offset window_now it.front ends) ∙ it.same)
      (record { outputs = it.stand; laid_is = omega (arith, laid_is, laid_same); window = sym it.window; idle = sym it.idle; closed = closed_same ∙ sym it.closed; fault = fault_same ∙ it.fault });
}
