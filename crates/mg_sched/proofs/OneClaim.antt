-- A claim of a node has one outcome.
use Rattle.std.proofs.Common.{◌≡◌, ℕ, ◌+◌, ◌<◌, ◌≤◌, nat_lt, Bool, true, false, List, [], ◌∷◌, ◌++◌, length, set, Option, Some, None, is_some, slice_get, if◌then◌else◌, IsSomeAnd, inl, inr, ap, ap₂, sym, refl, subst, ◌∙◌, arith}
use Rattle.std.proofs.lemmas.Bool.{lt-ltb, le-ltb}
use Rattle.std.proofs.lemmas.List.{same_from_push}
use Rattle.std.proofs.lemmas.Option.{same_Some}
use Rattle.mg_value.specs.Packet.{Stamped}
use Rattle.mg_value.specs.Payload.{Plain}
use Rattle.mg_settled.specs.Settled.{TimedSet}
use Rattle.mg_settled.specs.Loopback.{Reply, packet_of}
use Rattle.mg_loopback.specs.Loopback.{next_reply, replied}
use Rattle.mg_policy.specs.declared.readiness.Readiness.{Readiness}
use Rattle.mg_policy.specs.declared.readiness.Readiness.TheVariants.{Ready, Close as AtEnd, NotReady as NotYet}
use Rattle.mg_calc.specs.declared.event.Effect.TheVariants.{Did, Idle}
use Rattle.mg_calc.specs.declared.node_fault.Phase.{Phase}
use Rattle.mg_calc.specs.declared.node_fault.Phase.TheVariants.{Call, Process, Close}
use Rattle.mg_node.specs.declared.role.Role.{Role}
use Rattle.mg_node.specs.declared.role.Role.TheVariants.{Input, Source, Loop, Sets}
use Rattle.mg_node.specs.declared.pending.Pending.{Pending}
use Rattle.mg_node.specs.declared.pending.Pending.TheVariants.{Loop as WaitsLoop}
use Rattle.mg_node.specs.declared.claimed.Claimed.TheVariants.{Work}
use Rattle.mg_node.specs.Views.{IntakeView, ContextView, WorkView, OutcomeView, EntryView, EngineView}
use Rattle.mg_node.specs.Ports.{IsNext}
use Rattle.mg_node.specs.Intakes.{next_set_of}
use Rattle.mg_node.specs.Claims.{has_ended, first_unrun, IsOver, IsEarly, with_answer, MayClaim, TakesUnrun, Hands, work_of, TakesCall, TakesSet, TakesClose, TakesAnswer, Claims}
use Rattle.mg_sched.specs.Views.{WorkQueueView}
use Rattle.mg_sched.specs.Acts.{ClaimsBy}
use Rattle.mg_sched.specs.SameNets.{bare_waits, bare_intake}
use Rattle.mg_sched.proofs.SameParts.{same_next, same_next_set, same_left, same_held, same_reply, same_replied}

-- What decides a claim.

-- how far a claim comes: the node has ended, a work came back unrun, the window is full, or what waits decides
abbrev gate : EngineView → ℕ
gate engine = if has_ended engine then 0 else (if is_some (first_unrun 0 engine.window) then 1 else (if nat_lt (length engine.window) engine.in_flight then 3 else 2))

gate_ended : (engine : EngineView) → has_ended engine ≡ true → gate engine ≡ 0
gate_ended engine ended = ap (λ (b : Bool). if b then 0 else (if is_some (first_unrun 0 engine.window) then 1 else (if nat_lt (length engine.window) engine.in_flight then 3 else 2))) ended

gate_goes : (engine : EngineView) → has_ended engine ≡ false → gate engine ≡ (if is_some (first_unrun 0 engine.window) then 1 else (if nat_lt (length engine.window) engine.in_flight then 3 else 2))
gate_goes engine goes = ap (λ (b : Bool). if b then 0 else (if is_some (first_unrun 0 engine.window) then 1 else (if nat_lt (length engine.window) engine.in_flight then 3 else 2))) goes

gate_unrun : (engine : EngineView) (place : ℕ) → has_ended engine ≡ false → first_unrun 0 engine.window ≡ Some place → gate engine ≡ 1
gate_unrun engine place goes first = gate_goes engine goes ∙ ap (λ (o : Option ℕ). if is_some o then 1 else (if nat_lt (length engine.window) engine.in_flight then 3 else 2)) first

gate_none : (engine : EngineView) → has_ended engine ≡ false → first_unrun 0 engine.window ≡ None → gate engine ≡ (if nat_lt (length engine.window) engine.in_flight then 3 else 2)
gate_none engine goes none = gate_goes engine goes ∙ ap (λ (o : Option ℕ). if is_some o then 1 else (if nat_lt (length engine.window) engine.in_flight then 3 else 2)) none

gate_full : (engine : EngineView) → has_ended engine ≡ false → first_unrun 0 engine.window ≡ None → engine.in_flight ≤ length engine.window → gate engine ≡ 2
gate_full engine goes none full = gate_none engine goes none ∙ ap (λ (b : Bool). if b then 3 else 2) (le-ltb (length engine.window) engine.in_flight full)

gate_may : (engine : EngineView) → MayClaim engine → gate engine ≡ 3
gate_may engine may = gate_none engine may.goes may.none ∙ ap (λ (b : Bool). if b then 3 else 2) (lt-ltb (length engine.window) engine.in_flight may.room)

-- what a source's calls or what waits tell: a source with a call left is ready at 0
abbrev ToldBy : Role → ℕ → Pending → Readiness → Type 0
ToldBy (Source calls) claimed waits (Ready at) = (claimed < calls) × (at ≡ 0)
ToldBy (Source calls) claimed waits AtEnd = calls ≤ claimed
ToldBy (Source calls) claimed waits NotYet = ⊥
ToldBy Input claimed waits r = IsNext waits r
ToldBy Loop claimed waits r = IsNext waits r
ToldBy Sets claimed waits r = IsNext waits r

told_one : (role : Role) (claimed : ℕ) (one other : Pending) (a b : Readiness) → bare_waits one ≡ bare_waits other → ToldBy role claimed one a → ToldBy role claimed other b → a ≡ b
told_one (Source calls) claimed one other (Ready s) (Ready t) same h k = ap Ready (h.1 ∙ sym k.1)
told_one (Source calls) claimed one other (Ready s) AtEnd same h k = (let less = h.0 in absurd (omega (arith, less, k)))
told_one (Source calls) claimed one other (Ready s) NotYet same h k = absurd k
told_one (Source calls) claimed one other AtEnd (Ready t) same h k = (let less = k.0 in absurd (omega (arith, less, h)))
told_one (Source calls) claimed one other AtEnd AtEnd same h k = refl
told_one (Source calls) claimed one other AtEnd NotYet same h k = absurd k
told_one (Source calls) claimed one other NotYet b same h k = absurd h
told_one Input claimed one other a b same h k = same_next one other a b same h k
told_one Loop claimed one other a b same h k = same_next one other a b same h k
told_one Sets claimed one other a b same h k = same_next one other a b same h k

told_over : (role : Role) (claimed : ℕ) (waits : Pending) → IsOver role claimed waits → ToldBy role claimed waits AtEnd
told_over (Source calls) claimed waits over = over
told_over Input claimed waits over = over
told_over Loop claimed waits over = over
told_over Sets claimed waits over = over

told_early : (role : Role) (claimed : ℕ) (waits : Pending) → IsEarly role waits → ToldBy role claimed waits NotYet
told_early (Source calls) claimed waits early = early
told_early Input claimed waits early = early
told_early Loop claimed waits early = early
told_early Sets claimed waits early = early

-- whether nothing is claimed that isn't laid
abbrev is_clear : List EntryView → Bool
is_clear [] = true
is_clear (entry ∷ entries) = false

not_clear : (entries : List EntryView) → 0 < length entries → is_clear entries ≡ false
not_clear [] some = absurd (omega (arith, some))
not_clear (entry ∷ entries) some = refl

-- what decides a claim
data Turn : Type 0 where
  at_gate : ℕ → Turn
  by_waits : Readiness → Bool → Turn

abbrev IsTurn : Turn → EngineView → Pending → Type 0
IsTurn (at_gate n) engine waits = (gate engine ≡ n) × (n < 3)
IsTurn (by_waits r clear) engine waits = (gate engine ≡ 3) × ToldBy engine.role engine.claimed waits r × (is_clear engine.window ≡ clear)

one_turn : (turn other : Turn) (engine : EngineView) (one two : Pending) → bare_waits one ≡ bare_waits two → IsTurn turn engine one → IsTurn other engine two → turn ≡ other
one_turn (at_gate n) (at_gate m) engine one two same h k = ap at_gate (sym h.0 ∙ k.0)
one_turn (at_gate n) (by_waits r clear) engine one two same h k = (let a = h.0 in let b = h.1 in let c = k.0 in absurd (omega (arith, a, b, c)))
one_turn (by_waits r clear) (at_gate m) engine one two same h k = (let a = k.0 in let b = k.1 in let c = h.0 in absurd (omega (arith, a, b, c)))
one_turn (by_waits r clear) (by_waits s also) engine one two same h k = ap₂ by_waits (told_one engine.role engine.claimed one two r s same h.1 k.1) (sym h.2 ∙ k.2)

-- whether a claim does something then
abbrev does : Turn → Bool
does (at_gate n) = if nat_lt 0 n then nat_lt n 2 else false
does (by_waits (Ready at) clear) = true
does (by_waits AtEnd clear) = clear
does (by_waits NotYet clear) = false

-- The claims that do something.

-- what becomes of a node's parts by a claim
pub record ClaimedAlike (engine other : EngineView) (intake twin : IntakeView) (work_queue queue : WorkQueueView) : Type 0 where
  pub engines : engine ≡ other
  pub intakes : bare_intake intake ≡ bare_intake twin
  pub work_queues : work_queue ≡ queue

-- what becomes of the engine, and the work
record SameWork (engine other : EngineView) (intake twin : IntakeView) (work also : WorkView) : Type 0 where
  pub engines : engine ≡ other
  pub intakes : bare_intake intake ≡ bare_intake twin
  pub works : work ≡ also

pub intake_by : (one other : IntakeView) → one.claimed ≡ other.claimed → bare_waits one.waits ≡ bare_waits other.waits → bare_intake one ≡ bare_intake other
intake_by one other claimed waits = λ i. record { claimed = claimed i; waits = waits i }

bare_kept : (one one_now other other_now : IntakeView) → bare_intake one ≡ bare_intake other → one_now ≡ one → other_now ≡ other → bare_intake one_now ≡ bare_intake other_now
bare_kept one one_now other other_now same h k = ap bare_intake h ∙ same ∙ sym (ap bare_intake k)

unrun_one : (engine now other : EngineView) (work also : WorkView) → TakesUnrun engine now work → TakesUnrun engine other also → (now ≡ other) × (work ≡ also)
unrun_one engine now other work also h k =
    let place : h.place ≡ k.place = same_Some h.place k.place (sym h.first ∙ k.first) in
    let entry : h.hands.entry ≡ k.hands.entry = same_Some h.hands.entry k.hands.entry (sym h.hands.there ∙ ap (slice_get engine.window) place ∙ k.hands.there) in
    let outcome = same_Some _ _ (sym h.hands.outcome ∙ ap (λ (e : EntryView). e.outcome) entry ∙ k.hands.outcome) in
    let window : now.window ≡ other.window = h.hands.left
    ∙ ap₂ (λ (n : ℕ) (e : EntryView). set engine.window n (let f : EntryView = record { phase = e.phase; outcome = None; committed = false } in f)) place entry ∙ sym k.hands.left in
    (h.now ∙ ap (λ (ws : List EntryView). (let e : EngineView = record engine { window = ws } in e)) window ∙ sym k.now, ap (λ (o : OutcomeView). o.work) outcome)

hands_one : (engine now other : EngineView) (phase : Phase) (more : ℕ) (context also : ContextView) → Hands engine now phase more context → Hands engine other phase more also → (now ≡ other) × (context ≡ also)
hands_one engine now other phase more context also h k =
    let idle = same_from_push now.idle other.idle context also (sym h.idle ∙ k.idle) in (
      h.now ∙ ap (λ (cs : List ContextView). (let e : EngineView = record engine {
        claimed = engine.claimed + more;
        window = engine.window ++ (let f : EntryView = record { phase = phase; outcome = None; committed = false } in f) ∷ [];
        idle = cs;
      } in e)) idle.0 ∙ sym k.now,
      idle.1,
    )

call_one : (engine now other : EngineView) (work also : WorkView) → TakesCall engine now work → TakesCall engine other also → (now ≡ other) × (work ≡ also)
call_one engine now other work also h k =
    let hands = hands_one engine now other (Call engine.claimed) 1 h.context k.context h.hands k.hands in
    (hands.0, h.work_is ∙ ap (work_of engine (Call engine.claimed)) hands.1 ∙ sym k.work_is)

close_one : (engine now other : EngineView) (one two : Pending) (work also : WorkView) → TakesClose engine now one work → TakesClose engine other two also → (now ≡ other) × (work ≡ also)
close_one engine now other one two work also h k =
    let hands = hands_one engine now other Close 0 h.context k.context h.hands k.hands in
    (hands.0, h.work_is ∙ ap (work_of engine Close) hands.1 ∙ sym k.work_is)

shown_same : (o p : Option (TimedSet Plain)) (s t : List (Option (Stamped Plain))) → o ≡ p → IsSomeAnd o (λ e. s ≡ e.set) → IsSomeAnd p (λ e. t ≡ e.set) → s ≡ t
shown_same None p s t same h k = absurd h
shown_same (Some e) None s t same h k = absurd k
shown_same (Some e) (Some f) s t same h k = h ∙ ap (λ (x : TimedSet Plain). x.set) (same_Some e f same) ∙ sym k

abbrev time_in : Readiness → ℕ
time_in (Ready at) = at
time_in AtEnd = 0
time_in NotYet = 0

ready_same : (s t : ℕ) → Ready s ≡ Ready t → s ≡ t
ready_same s t same = ap time_in same

set_one : (engine now other : EngineView) (one one_now two two_now : IntakeView) (work also : WorkView) → bare_intake one ≡ bare_intake two → TakesSet engine now one one_now work → TakesSet engine other two two_now also → SameWork now other one_now two_now work also
set_one engine now other one one_now two two_now work also same h k =
    let waits : bare_waits one.waits ≡ bare_waits two.waits = ap (λ (i : IntakeView). i.waits) same in
    let claimed : one.claimed ≡ two.claimed = ap (λ (i : IntakeView). i.claimed) same in
    let at : h.at ≡ k.at = ready_same h.at k.at (same_next one.waits two.waits (Ready h.at) (Ready k.at) waits h.next k.next) in
    let hands = hands_one engine now other (Process k.at) 1 h.context k.context (subst (λ (t : ℕ). Hands engine now (Process t) 1 h.context) at h.hands) k.hands in
    let shown : work.context.set ≡ also.context.set = shown_same (next_set_of one.waits) (next_set_of two.waits) work.context.set also.context.set (same_next_set one.waits two.waits waits) h.takes.shown k.takes.shown in
    let context : (let c : ContextView = record { told = h.context.told; set = work.context.set } in c) ≡ (let c : ContextView = record { told = k.context.told; set = also.context.set } in c) =
    λ i. record { told = (hands.1 i).told; set = shown i } in
    record {
      engines = hands.0;
      intakes = intake_by one_now two_now (h.takes.counted ∙ ap (λ (n : ℕ). n + 1) claimed ∙ sym k.takes.counted)
          (same_left one.waits one_now.waits two.waits two_now.waits waits h.takes.left k.takes.left h.takes.ports k.takes.ports h.takes.counts k.takes.counts);
      works = h.work_is ∙ ap₂ (λ (t : ℕ) (c : ContextView). work_of engine (Process t) c) at context ∙ sym k.work_is;
    }

answer_one : (engine now other : EngineView) (one one_now two two_now : IntakeView) → bare_intake one ≡ bare_intake two → TakesAnswer engine now one one_now → TakesAnswer engine other two two_now → (now ≡ other) × (bare_intake one_now ≡ bare_intake two_now)
answer_one engine now other one one_now two two_now same h k =
    let waits : bare_waits (WaitsLoop h.held) ≡ bare_waits (WaitsLoop k.held) = ap bare_waits (sym h.waits) ∙ ap (λ (i : IntakeView). i.waits) same ∙ ap bare_waits k.waits in
    let held = same_held h.held k.held waits in
    let reply : h.reply ≡ k.reply = same_Some h.reply k.reply (sym h.next ∙ same_reply h.held k.held held ∙ k.next) in
    let claimed : one.claimed + 1 ≡ two.claimed + 1 = ap (λ (i : IntakeView). i.claimed + 1) same in (
      h.now ∙ ap (λ (r : Reply Plain). (let e : EngineView = record engine { claimed = engine.claimed + 1; laid = engine.laid + 1; outputs = with_answer (packet_of r) engine.outputs } in e)) reply ∙ sym k.now,
      ap bare_intake h.intake_is
          ∙ intake_by (record { claimed = one.claimed + 1; waits = WaitsLoop (replied h.held) }) (record { claimed = two.claimed + 1; waits = WaitsLoop (replied k.held) }) claimed (same_replied h.held k.held held)
          ∙ sym (ap bare_intake k.intake_is),
    )

-- Which turn a claim takes.

turn_unrun : (engine now : EngineView) (waits : Pending) (work : WorkView) → has_ended engine ≡ false → TakesUnrun engine now work → IsTurn (at_gate 1) engine waits
turn_unrun engine now waits work goes h = (gate_unrun engine h.place goes h.first, omega arith)

turn_call : (engine now : EngineView) (waits : Pending) (work : WorkView) → MayClaim engine → TakesCall engine now work → IsTurn (by_waits (Ready 0) (is_clear engine.window)) engine waits
turn_call engine now waits work may h = (gate_may engine may, subst (λ (r : Role). ToldBy r engine.claimed waits (Ready 0)) (sym h.role) (h.more, refl), refl)

turn_close : (engine now : EngineView) (waits : Pending) (work : WorkView) → MayClaim engine → TakesClose engine now waits work → IsTurn (by_waits AtEnd true) engine waits
turn_close engine now waits work may h = (gate_may engine may, told_over engine.role engine.claimed waits h.over, ap is_clear h.laid)

turn_set : (engine now : EngineView) (intake intake_now : IntakeView) (work : WorkView) → MayClaim engine → (h : TakesSet engine now intake intake_now work) → IsTurn (by_waits (Ready h.at) (is_clear engine.window)) engine intake.waits
turn_set engine now intake intake_now work may h = (gate_may engine may, subst (λ (r : Role). ToldBy r engine.claimed intake.waits (Ready h.at)) (sym h.role) h.next, refl)

reply_is : (o : Option (Reply Plain)) (r : Reply Plain) → o ≡ Some r → IsSomeAnd o (λ q. q.at ≡ r.at)
reply_is o r is = subst (λ (p : Option (Reply Plain)). IsSomeAnd p (λ q. q.at ≡ r.at)) (sym is) refl

turn_answer : (engine now : EngineView) (intake intake_now : IntakeView) → MayClaim engine → (h : TakesAnswer engine now intake intake_now) → IsTurn (by_waits (Ready h.reply.at) (is_clear engine.window)) engine intake.waits
turn_answer engine now intake intake_now may h = (
  gate_may engine may,
  subst (λ (r : Role). ToldBy r engine.claimed intake.waits (Ready h.reply.at)) (sym h.role)
      (subst (λ (w : Pending). IsNext w (Ready h.reply.at)) (sym h.waits) (reply_is (next_reply h.held) h.reply h.next)),
  refl,
)

-- A claim does something, or nothing.

record Turns (done : Bool) (engine : EngineView) (waits : Pending) : Type 0 where
  pub turn : Turn
  pub is : IsTurn turn engine waits
  pub does_it : does turn ≡ done

turns_work : (engine now : EngineView) (intake intake_now : IntakeView) (work : WorkView) → Claims {C = ℕ} (Work work) engine now intake intake_now → Turns true engine intake.waits
turns_work engine now intake intake_now work (inl unrun) = record { turn = at_gate 1; is = turn_unrun engine now intake.waits work unrun.0 unrun.1; does_it = refl }
turns_work engine now intake intake_now work (inr (may, inl call)) = record { turn = by_waits (Ready 0) (is_clear engine.window); is = turn_call engine now intake.waits work may call.0; does_it = refl }
turns_work engine now intake intake_now work (inr (may, inr (inl close))) = record { turn = by_waits AtEnd true; is = turn_close engine now intake.waits work may close.0; does_it = refl }
turns_work engine now intake intake_now work (inr (may, inr (inr takes))) = record { turn = by_waits (Ready takes.at) (is_clear engine.window); is = turn_set engine now intake intake_now work may takes; does_it = refl }

turns_did : (engine now : EngineView) (intake intake_now : IntakeView) (work_queue work_queue_now : WorkQueueView) → ClaimsBy Did engine now intake intake_now work_queue work_queue_now → Turns true engine intake.waits
turns_did engine now intake intake_now work_queue work_queue_now (inl h) = turns_work engine now intake intake_now h.work h.claims
turns_did engine now intake intake_now work_queue work_queue_now (inr ((may, h), same)) =
    record { turn = by_waits (Ready h.reply.at) (is_clear engine.window); is = turn_answer engine now intake intake_now may h; does_it = refl }

turns_idle : (engine now : EngineView) (intake intake_now : IntakeView) (work_queue work_queue_now : WorkQueueView) → ClaimsBy Idle engine now intake intake_now work_queue work_queue_now → Turns false engine intake.waits
turns_idle engine now intake intake_now work_queue work_queue_now (inl (may, early, same), kept) =
    record { turn = by_waits NotYet (is_clear engine.window); is = (gate_may engine may, told_early engine.role engine.claimed intake.waits early, refl); does_it = refl }
turns_idle engine now intake intake_now work_queue work_queue_now (inr (inl (goes, none, full, same)), kept) = record { turn = at_gate 2; is = (gate_full engine goes none full, omega arith); does_it = refl }
turns_idle engine now intake intake_now work_queue work_queue_now (inr (inr (inl (may, over, some, same))), kept) =
    record { turn = by_waits AtEnd false; is = (gate_may engine may, told_over engine.role engine.claimed intake.waits over, not_clear engine.window some); does_it = refl }
turns_idle engine now intake intake_now work_queue work_queue_now (inr (inr (inr (ended, same))), kept) = record { turn = at_gate 0; is = (gate_ended engine ended, omega arith); does_it = refl }

turns_one : (done also : Bool) (engine : EngineView) (one two : Pending) → bare_waits one ≡ bare_waits two → Turns done engine one → Turns also engine two → done ≡ also
turns_one done also engine one two same h k = sym h.does_it ∙ ap does (one_turn h.turn k.turn engine one two same h.is k.is) ∙ k.does_it

-- no claim both does something and nothing
pub did_or_idle : (engine now other : EngineView) (one one_now two two_now : IntakeView) (work_queue left also : WorkQueueView) → bare_intake one ≡ bare_intake two → ClaimsBy Did engine now one one_now work_queue left → ClaimsBy Idle engine other two two_now work_queue also → ⊥
did_or_idle engine now other one one_now two two_now work_queue left also same h k =
    let clash : true ≡ false = turns_one true false engine one.waits two.waits (ap (λ (i : IntakeView). i.waits) same) (turns_did engine now one one_now work_queue left h) (turns_idle engine other two two_now work_queue also k) in
    absurd cc

-- of a claim that does nothing nothing comes
same_by : (engine now other : EngineView) (one one_now two two_now : IntakeView) (work_queue left also : WorkQueueView) → bare_intake one ≡ bare_intake two → now ≡ engine → one_now ≡ one → left ≡ work_queue → other ≡ engine → two_now ≡ two → also ≡ work_queue
    → ClaimedAlike now other one_now two_now left also
same_by engine now other one one_now two two_now work_queue left also same a b c d e f = record { engines = a ∙ sym d; intakes = bare_kept one one_now two two_now same b e; work_queues = c ∙ sym f }

record KeptAll (engine now : EngineView) (intake intake_now : IntakeView) (work_queue left : WorkQueueView) : Type 0 where
  pub engines : now ≡ engine
  pub intakes : intake_now ≡ intake
  pub work_queues : left ≡ work_queue

idle_kept : (engine now : EngineView) (intake intake_now : IntakeView) (work_queue left : WorkQueueView) → ClaimsBy Idle engine now intake intake_now work_queue left → KeptAll engine now intake intake_now work_queue left
idle_kept engine now intake intake_now work_queue left (inl (may, early, same), kept) = record { engines = same.same_engine; intakes = same.same_intake; work_queues = kept }
idle_kept engine now intake intake_now work_queue left (inr (inl (goes, none, full, same)), kept) = record { engines = same.same_engine; intakes = same.same_intake; work_queues = kept }
idle_kept engine now intake intake_now work_queue left (inr (inr (inl (may, over, some, same))), kept) = record { engines = same.same_engine; intakes = same.same_intake; work_queues = kept }
idle_kept engine now intake intake_now work_queue left (inr (inr (inr (ended, same))), kept) = record { engines = same.same_engine; intakes = same.same_intake; work_queues = kept }

pub idle_one : (engine now other : EngineView) (one one_now two two_now : IntakeView) (work_queue left also : WorkQueueView) → bare_intake one ≡ bare_intake two → ClaimsBy Idle engine now one one_now work_queue left → ClaimsBy Idle engine other two two_now work_queue also
    → ClaimedAlike now other one_now two_now left also
idle_one engine now other one one_now two two_now work_queue left also same h k =
    let a = idle_kept engine now one one_now work_queue left h in
    let b = idle_kept engine other two two_now work_queue also k in
    same_by engine now other one one_now two two_now work_queue left also same a.engines a.intakes a.work_queues b.engines b.intakes b.work_queues

-- of two claims that do something the same comes

role_clash : {A : Type 0} (engine : EngineView) (role other : Role) → engine.role ≡ role → engine.role ≡ other → (role ≡ other → ⊥) → A
role_clash engine role other h k clash = absurd (clash (sym h ∙ k))

source_not_sets : (calls : ℕ) → Source calls ≡ Sets → ⊥
source_not_sets calls same = absurd cc

source_not_loop : (calls : ℕ) → Source calls ≡ Loop → ⊥
source_not_loop calls same = absurd cc

sets_not_loop : Sets ≡ Loop → ⊥
sets_not_loop same = absurd cc

turn_clash : {A : Type 0} (turn other : Turn) (engine : EngineView) (one two : Pending) → bare_waits one ≡ bare_waits two → IsTurn turn engine one → IsTurn other engine two → (turn ≡ other → ⊥) → A
turn_clash turn other engine one two same h k clash = absurd (clash (one_turn turn other engine one two same h k))

at_not_by : (n : ℕ) (r : Readiness) (clear : Bool) → at_gate n ≡ by_waits r clear → ⊥
at_not_by n r clear same = absurd cc

abbrev is_ready : Turn → Bool
is_ready (at_gate n) = false
is_ready (by_waits (Ready at) clear) = true
is_ready (by_waits AtEnd clear) = false
is_ready (by_waits NotYet clear) = false

ready_not_end : (at : ℕ) (clear : Bool) → by_waits (Ready at) clear ≡ by_waits AtEnd true → ⊥
ready_not_end at clear same = (let clash : true ≡ false = ap is_ready same in absurd cc)

works_one : (engine now other : EngineView) (one one_now two two_now : IntakeView) (work also : WorkView) → bare_intake one ≡ bare_intake two → Claims {C = ℕ} (Work work) engine now one one_now → Claims {C = ℕ} (Work also) engine other two two_now
    → SameWork now other one_now two_now work also
works_one engine now other one one_now two two_now work also same (inl (goes, h, kept)) (inl (goes_too, k, kept_too)) =
    (let u = unrun_one engine now other work also h k in record { engines = u.0; intakes = bare_kept one one_now two two_now same kept kept_too; works = u.1 })
works_one engine now other one one_now two two_now work also same (inl (goes, h, kept)) (inr (may, inl (k, kept_too))) =
    turn_clash (at_gate 1) (by_waits (Ready 0) (is_clear engine.window)) engine one.waits two.waits (ap (λ (i : IntakeView). i.waits) same) (turn_unrun engine now one.waits work goes h) (turn_call engine other two.waits also may k) (at_not_by 1 _ _)
works_one engine now other one one_now two two_now work also same (inl (goes, h, kept)) (inr (may, inr (inl (k, kept_too)))) =
    turn_clash (at_gate 1) (by_waits AtEnd true) engine one.waits two.waits (ap (λ (i : IntakeView). i.waits) same) (turn_unrun engine now one.waits work goes h) (turn_close engine other two.waits also may k) (at_not_by 1 _ _)
works_one engine now other one one_now two two_now work also same (inl (goes, h, kept)) (inr (may, inr (inr k))) =
    turn_clash (at_gate 1) (by_waits (Ready k.at) (is_clear engine.window)) engine one.waits two.waits (ap (λ (i : IntakeView). i.waits) same) (turn_unrun engine now one.waits work goes h) (turn_set engine other two two_now also may k) (at_not_by 1 _ _)
works_one engine now other one one_now two two_now work also same (inr (may, inl (h, kept))) (inl (goes, k, kept_too)) =
    turn_clash (by_waits (Ready 0) (is_clear engine.window)) (at_gate 1) engine one.waits two.waits (ap (λ (i : IntakeView). i.waits) same) (turn_call engine now one.waits work may h) (turn_unrun engine other two.waits also goes k) (λ e. at_not_by 1 _ _ (sym e))
works_one engine now other one one_now two two_now work also same (inr (may, inl (h, kept))) (inr (may_too, inl (k, kept_too))) =
    (let c = call_one engine now other work also h k in record { engines = c.0; intakes = bare_kept one one_now two two_now same kept kept_too; works = c.1 })
works_one engine now other one one_now two two_now work also same (inr (may, inl (h, kept))) (inr (may_too, inr (inl (k, kept_too)))) =
    turn_clash (by_waits (Ready 0) (is_clear engine.window)) (by_waits AtEnd true) engine one.waits two.waits (ap (λ (i : IntakeView). i.waits) same) (turn_call engine now one.waits work may h) (turn_close engine other two.waits also may_too k)
    (ready_not_end 0 _)
works_one engine now other one one_now two two_now work also same (inr (may, inl (h, kept))) (inr (may_too, inr (inr k))) = role_clash engine (Source h.calls) Sets h.role k.role (source_not_sets h.calls)
works_one engine now other one one_now two two_now work also same (inr (may, inr (inl (h, kept)))) (inl (goes, k, kept_too)) =
    turn_clash (by_waits AtEnd true) (at_gate 1) engine one.waits two.waits (ap (λ (i : IntakeView). i.waits) same) (turn_close engine now one.waits work may h) (turn_unrun engine other two.waits also goes k) (λ e. at_not_by 1 _ _ (sym e))
works_one engine now other one one_now two two_now work also same (inr (may, inr (inl (h, kept)))) (inr (may_too, inl (k, kept_too))) =
    turn_clash (by_waits AtEnd true) (by_waits (Ready 0) (is_clear engine.window)) engine one.waits two.waits (ap (λ (i : IntakeView). i.waits) same) (turn_close engine now one.waits work may h) (turn_call engine other two.waits also may_too k)
    (λ e. ready_not_end 0 _ (sym e))
works_one engine now other one one_now two two_now work also same (inr (may, inr (inl (h, kept)))) (inr (may_too, inr (inl (k, kept_too)))) =
    (let c = close_one engine now other one.waits two.waits work also h k in record { engines = c.0; intakes = bare_kept one one_now two two_now same kept kept_too; works = c.1 })
works_one engine now other one one_now two two_now work also same (inr (may, inr (inl (h, kept)))) (inr (may_too, inr (inr k))) =
    turn_clash (by_waits AtEnd true) (by_waits (Ready k.at) (is_clear engine.window)) engine one.waits two.waits (ap (λ (i : IntakeView). i.waits) same) (turn_close engine now one.waits work may h) (turn_set engine other two two_now also may_too k)
    (λ e. ready_not_end k.at _ (sym e))
works_one engine now other one one_now two two_now work also same (inr (may, inr (inr h))) (inl (goes, k, kept_too)) =
    turn_clash (by_waits (Ready h.at) (is_clear engine.window)) (at_gate 1) engine one.waits two.waits (ap (λ (i : IntakeView). i.waits) same) (turn_set engine now one one_now work may h) (turn_unrun engine other two.waits also goes k) (λ e. at_not_by 1 _ _ (sym e))
works_one engine now other one one_now two two_now work also same (inr (may, inr (inr h))) (inr (may_too, inl (k, kept_too))) = role_clash engine (Source k.calls) Sets k.role h.role (source_not_sets k.calls)
works_one engine now other one one_now two two_now work also same (inr (may, inr (inr h))) (inr (may_too, inr (inl (k, kept_too)))) =
    turn_clash (by_waits (Ready h.at) (is_clear engine.window)) (by_waits AtEnd true) engine one.waits two.waits (ap (λ (i : IntakeView). i.waits) same) (turn_set engine now one one_now work may h) (turn_close engine other two.waits also may_too k)
    (ready_not_end h.at _)
works_one engine now other one one_now two two_now work also same (inr (may, inr (inr h))) (inr (may_too, inr (inr k))) = set_one engine now other one one_now two two_now work also same h k

-- a claim that hands out a work isn't one that answers
work_or_answer : {A : Type 0} (engine now other : EngineView) (one one_now two two_now : IntakeView) (work : WorkView) → bare_waits one.waits ≡ bare_waits two.waits → Claims {C = ℕ} (Work work) engine now one one_now → MayClaim engine → TakesAnswer engine other two two_now → A
work_or_answer engine now other one one_now two two_now work same (inl (goes, h, kept)) may k =
    turn_clash (at_gate 1) (by_waits (Ready k.reply.at) (is_clear engine.window)) engine one.waits two.waits same (turn_unrun engine now one.waits work goes h) (turn_answer engine other two two_now may k) (at_not_by 1 _ _)
work_or_answer engine now other one one_now two two_now work same (inr (may_too, inl (h, kept))) may k = role_clash engine (Source h.calls) Loop h.role k.role (source_not_loop h.calls)
work_or_answer engine now other one one_now two two_now work same (inr (may_too, inr (inl (h, kept)))) may k =
    turn_clash (by_waits AtEnd true) (by_waits (Ready k.reply.at) (is_clear engine.window)) engine one.waits two.waits same (turn_close engine now one.waits work may_too h) (turn_answer engine other two two_now may k) (λ e. ready_not_end k.reply.at _ (sym e))
work_or_answer engine now other one one_now two two_now work same (inr (may_too, inr (inr h))) may k = role_clash engine Sets Loop h.role k.role sets_not_loop

pub did_one : (engine now other : EngineView) (one one_now two two_now : IntakeView) (work_queue left also : WorkQueueView) → bare_intake one ≡ bare_intake two → ClaimsBy Did engine now one one_now work_queue left → ClaimsBy Did engine other two two_now work_queue also
    → ClaimedAlike now other one_now two_now left also
did_one engine now other one one_now two two_now work_queue left also same (inl h) (inl k) =
    let w = works_one engine now other one one_now two two_now h.work k.work same h.claims k.claims in
    record {
      engines = w.engines;
      intakes = w.intakes;
      work_queues = h.on_work_queue ∙ ap (λ (v : WorkView). (let q : WorkQueueView = record work_queue { works = work_queue.works ++ v ∷ [] } in q)) w.works ∙ sym k.on_work_queue;
    }
did_one engine now other one one_now two two_now work_queue left also same (inl h) (inr ((may, k), kept)) =
    work_or_answer engine now other one one_now two two_now h.work (ap (λ (i : IntakeView). i.waits) same) h.claims may k
did_one engine now other one one_now two two_now work_queue left also same (inr ((may, h), kept)) (inl k) =
    work_or_answer engine other now two two_now one one_now k.work (sym (ap (λ (i : IntakeView). i.waits) same)) k.claims may h
did_one engine now other one one_now two two_now work_queue left also same (inr ((may, h), kept)) (inr ((may_too, k), kept_too)) =
    (let a = answer_one engine now other one one_now two two_now same h k in record { engines = a.0; intakes = a.1; work_queues = kept ∙ sym kept_too })
