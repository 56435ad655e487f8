-- A claim leaves less to do.
use Rattle.std.proofs.Common.{◌≡◌, ◌≢◌, ℕ, ◌+◌, ◌-◌, ◌*◌, ◌^◌, ◌<◌, ◌≤◌, ◌||◌, Bool, true, false, List, [], ◌∷◌, ◌++◌, length, set, Option, Some, None, IfSome, IsSome, sum_by, inl, inr, ap, sym, refl, subst, ◌∙◌, arith, if◌then◌else◌}
use Rattle.std.specs.List.{list_any}
use Rattle.std.proofs.lemmas.List.Sums.{sum_by_push}
use Rattle.mg_time.specs.Time.{done}
use Rattle.mg_value.specs.Payload.{Plain}
use Rattle.mg_value.specs.Packet.{Stamped}
use Rattle.mg_settled.specs.Loopback.{packet_of}
use Rattle.mg_stream.specs.Queue.{count_of}
use Rattle.mg_stream.specs.Pool.{Backlog}
use Rattle.mg_calc.specs.Rules.{Laws}
use Rattle.mg_calc.specs.Plan.{numbers}
use Rattle.mg_calc.specs.declared.event.Effect.{Effect}
use Rattle.mg_calc.specs.declared.event.Effect.TheVariants.{Did, Idle, OutOfMemory}
use Rattle.mg_calc.specs.declared.node_fault.Phase.{Phase}
use Rattle.mg_calc.specs.declared.node_fault.Phase.TheVariants.{Call, Process, Close}
use Rattle.mg_node.specs.declared.claimed.Claimed.TheVariants.{Work, Answered}
use Rattle.mg_node.specs.Views.{IntakeView, ContextView, WorkView, OutcomeView, EntryView, EngineView}
use Rattle.mg_node.specs.Job.{LoggedJob}
use Rattle.mg_node.specs.Ports.{ports_in, port_queue}
use Rattle.mg_node.specs.IntakeStanding.{HasGrown, Stays}
use Rattle.mg_node.specs.Outputs.{laid_at}
use Rattle.mg_node.specs.Lawful.{of_node, is_close, LawfulEngine, AreCell}
use Rattle.mg_node.specs.Windows.{has_ended}
use Rattle.mg_node.specs.Claims.{with_answer, AreSame, Hands, TakesUnrun, TakesAnswer, Claims}
use Rattle.mg_node.proofs.Lemmas.{claim_grows, claim_stays, claims_small}
use Rattle.mg_sched.specs.Views.{WorkQueueView, NetView}
use Rattle.mg_sched.specs.Places.{first_edge, lengths_of, with_engine, with_intake, with_work_queue}
use Rattle.mg_sched.specs.StandsFor.{IsCell, StandsFor, IsRunning}
use Rattle.mg_sched.specs.Acts.{ClaimsBy, ClaimsNext, NodeClaims}
use Rattle.mg_sched.specs.Code.Left.{came_left, entry_left, engine_left, intake_left, left_in}
use Rattle.mg_sched.proofs.Finding.{cell_at}
use Rattle.mg_sched.proofs.LeftParts.{engine_put, intake_put, noted_same, not_idle, not_without}
use Rattle.mg_sched.proofs.LeftEngines.{close_by, closes, bounds_left, entry_less, outputs_less}
use Rattle.mg_sched.proofs.LeftPerform.{same_left, less_left}

-- Intakes: as many packets are counted at each port as before, and the bounds are the same.

intake_same : (intake now : IntakeView) → ports_in now.waits ≡ ports_in intake.waits → ((port : ℕ) → Stays (port_queue intake.waits port) (port_queue now.waits port)) → intake_left now ≡ intake_left intake
intake_same intake now ports stays =
    ap (λ (n : ℕ). sum_by (λ port. (2 ^ 65 - count_of (port_queue now.waits port)) + (done - (port_queue now.waits port).bound)) (numbers n)) ports
    ∙ (λ i. sum_by (λ port. (2 ^ 65 - (stays port).count i) + (done - (stays port).bound i)) (numbers (ports_in intake.waits)))

-- Engines.

-- a work that came back unrun has to be claimed again
unrun_left : (committed : Bool) (o : Option OutcomeView) (work : WorkView) → o ≡ Some (record { work = work; answer = None }) → (committed ≡ true → IsSome o × IfSome o (λ x. IsSome x.answer)) → (if committed then 0 else came_left o) ≡ 3
unrun_left true o work is h = absurd (let some : IfSome o (λ x. IsSome x.answer) = (h refl).1 in
    let none : IfSome (Some (let x : OutcomeView = record { work = work; answer = None } in x)) (λ x. IsSome x.answer) = subst (λ (z : Option OutcomeView). IfSome z (λ x. IsSome x.answer)) is some in
    cc)
unrun_left false o work is h = ap came_left is

unrun_less : {laws : Laws} (job : LoggedJob laws) (node : ℕ) (engine now : EngineView) (work : WorkView) → LawfulEngine job (of_node node) engine → TakesUnrun engine now work → engine_left now < engine_left engine
unfolding LawfulEngine
unrun_less {laws} job node engine now work h t =
    let entry = t.hands.entry in
    let out : EntryView = record { phase = entry.phase; outcome = None; committed = false } in
    let three : entry_left entry ≡ 3 = unrun_left entry.committed entry.outcome work t.hands.outcome (h.entries t.place entry t.hands.there).committed in
    let less : entry_left out < entry_left entry = omega (arith, three) in
    let is : now ≡ record engine { window = set engine.window t.place out } = t.now ∙ ap (λ (w : List EntryView). (let v : EngineView = record engine { window = w } in v)) t.hands.left in
    subst (λ (v : EngineView). engine_left v < engine_left engine) (sym is) (entry_less engine t.place entry out t.hands.there refl less)

any_push : {X : Type 0} (p : X → Bool) (xs : List X) (x : X) → list_any p (xs ++ x ∷ []) ≡ (list_any p xs || p x)
any_push p [] x = or_false (p x)
  where
    or_false : (b : Bool) → (b || false) ≡ (false || b)
    or_false true = refl
    or_false false = refl
any_push p (z ∷ xs) x = ap (λ (b : Bool). p z || b) (any_push p xs x) ∙ or_so (p z) (list_any p xs) (p x)
  where
    or_so : (a b c : Bool) → (a || (b || c)) ≡ ((a || b) || c)
    or_so true b c = refl
    or_so false b c = refl

-- a call or a set is claimed
more_numbers : (c w w_now k k_now o o_now : ℕ) → c < 2 ^ 64 → w_now + k_now ≤ w + k + 2 → o_now ≤ o → 4 * (2 ^ 65 - (c + 1)) + w_now + k_now + o_now < 4 * (2 ^ 65 - c) + w + k + o
more_numbers c w w_now k k_now o o_now few more fewer = omega arith

hands_less : (engine now : EngineView) (phase : Phase) (context : ContextView) → Hands engine now phase 1 context → is_close phase ≡ false → engine.claimed < 2 ^ 64 → engine_left now < engine_left engine
hands_less engine now phase context t other few =
    let entry : EntryView = record { phase = phase; outcome = None; committed = false } in
    let sums = sum_by_push entry_left engine.window entry in
    let close : close_by (has_ended engine || list_any closes (engine.window ++ entry ∷ [])) ≡ close_by (has_ended engine || list_any closes engine.window) =
    ap (λ (b : Bool). close_by (has_ended engine || b)) (any_push closes engine.window entry ∙ ap (λ (b : Bool). list_any closes engine.window || b) other ∙ or_false (list_any closes engine.window)) in
    subst (λ (v : EngineView). engine_left v < engine_left engine) (sym t.now)
    (more_numbers engine.claimed (sum_by entry_left engine.window) (sum_by entry_left (engine.window ++ entry ∷ [])) (close_by (has_ended engine || list_any closes engine.window)) (close_by (has_ended engine || list_any closes (engine.window ++ entry ∷ [])))
    (bounds_left engine.outputs) (bounds_left engine.outputs) few (omega (arith, sums, close)) (omega arith))
  where
    or_false : (b : Bool) → (b || false) ≡ b
    or_false true = refl
    or_false false = refl

-- Close is claimed, for which the window is empty
close_numbers : (c o : ℕ) → 4 * (2 ^ 65 - (c + 0)) + 2 + 0 + o < 4 * (2 ^ 65 - c) + 0 + 4 + o
close_numbers c o = omega arith

closing_less : (engine now : EngineView) (context : ContextView) → Hands engine now Close 0 context → has_ended engine ≡ false → engine.window ≡ [] → engine_left now < engine_left engine
closing_less engine now context t goes none =
    let entry : EntryView = record { phase = Close; outcome = None; committed = false } in
    let with_window = λ (ended : Bool) (w : List EntryView). 4 * (2 ^ 65 - engine.claimed) + sum_by entry_left w + close_by (ended || list_any closes w) + bounds_left engine.outputs in
    let closing = λ (ended : Bool) (w : List EntryView). 4 * (2 ^ 65 - (engine.claimed + 0)) + sum_by entry_left (w ++ entry ∷ []) + close_by (ended || list_any closes (w ++ entry ∷ [])) + bounds_left engine.outputs in
    let was : engine_left engine ≡ with_window false [] = ap (λ (b : Bool). with_window b engine.window) goes ∙ ap (with_window false) none in
    let is : engine_left now ≡ closing false [] = ap engine_left t.now ∙ ap (λ (b : Bool). closing b engine.window) goes ∙ ap (closing false) none in
    let less = close_numbers engine.claimed (bounds_left engine.outputs) in
    omega (arith, was, is, less)

-- a packet of MAIN is answered
answer_long : (answer : Option (Stamped Plain)) (bs : List (Backlog Plain)) → length (with_answer answer bs) ≡ length bs
answer_long answer [] = refl
answer_long answer (b ∷ bs) = refl

answer_less : (engine now : EngineView) (intake intake_now : IntakeView) → TakesAnswer engine now intake intake_now → ((output : ℕ) → HasGrown (laid_at engine output) (laid_at now output)) → engine.claimed < 2 ^ 64 → engine_left now < engine_left engine
answer_less engine now intake intake_now t grown few =
    let outputs = with_answer (packet_of t.reply) engine.outputs in
    let higher : bounds_left outputs ≤ bounds_left engine.outputs = outputs_less engine.outputs outputs (answer_long (packet_of t.reply) engine.outputs) (λ output. subst (λ (v : EngineView). HasGrown (laid_at engine output) (laid_at v output)) t.now (grown output)) in
    subst (λ (v : EngineView). engine_left v < engine_left engine) (sym t.now)
    (more_numbers engine.claimed (sum_by entry_left engine.window) (sum_by entry_left engine.window) (close_by (has_ended engine || list_any closes engine.window)) (close_by (has_ended engine || list_any closes engine.window)) (bounds_left engine.outputs) (bounds_left outputs)
    few (omega arith) higher)

-- Cells.

-- an engine has less to do, and its intake as much
record ClaimsLess (engine engine_now : EngineView) (intake intake_now : IntakeView) : Type 0 where
  pub engine_less : engine_left engine_now < engine_left engine
  pub intake_same : intake_left intake_now ≡ intake_left intake

work_less : {laws : Laws} (job : LoggedJob laws) (node : ℕ) (work : WorkView) (engine engine_now : EngineView) (intake intake_now : IntakeView) → LawfulEngine job (of_node node) engine → engine.claimed < 2 ^ 64 → Claims {C = ℕ} (Work work) engine engine_now intake intake_now
    → ClaimsLess engine engine_now intake intake_now
work_less {laws} job node work engine engine_now intake intake_now h few claims = elim claims [
  | inl unrun ↦ record { engine_less = unrun_less job node engine engine_now work h unrun.1; intake_same = ap intake_left unrun.2 }
  | inr further ↦ elim further.1 [
    | inl called ↦ record { engine_less = hands_less engine engine_now (Call engine.claimed) called.0.context called.0.hands refl few; intake_same = ap intake_left called.1 }
    | inr other ↦ elim other [
      | inl closes ↦ record { engine_less = closing_less engine engine_now closes.0.context closes.0.hands further.0.goes closes.0.laid; intake_same = ap intake_left closes.1 }
      | inr t ↦ record {
        engine_less = hands_less engine engine_now (Process t.at) t.context t.hands refl few;
        intake_same = intake_same intake intake_now t.takes.ports (λ port. record { count = t.takes.counts port; bound = t.takes.bounds port });
      }
    ]
  ]
]

answered_less : {laws : Laws} (job : LoggedJob laws) (node : ℕ) (engine engine_now : EngineView) (intake intake_now : IntakeView) (work_queue : WorkQueueView) → IsCell job true node engine intake work_queue → engine.claimed < 2 ^ 64 → Claims {C = ℕ} Answered engine engine_now intake intake_now
    → ClaimsLess engine engine_now intake intake_now
answered_less {laws} job node engine engine_now intake intake_now work_queue cell few claims =
    let t = claims.1 in
    let is_cell : AreCell laws engine intake = record { job = job; number = node; lawful_engine = cell.lawful_engine; lawful_intake = cell.lawful_intake; agree = cell.agree } in
    let grows = claim_grows {C = ℕ} Answered engine engine_now intake intake_now is_cell claims in
    record {
      engine_less = answer_less engine engine_now intake intake_now t grows.engine_grows.outputs few;
      intake_same = intake_same intake intake_now (ap (λ (v : IntakeView). ports_in v.waits) t.intake_is ∙ sym (ap ports_in t.waits)) (claim_stays {X = ℕ} Answered engine engine_now intake intake_now claims);
    }

cell_less : {laws : Laws} (job : LoggedJob laws) (node : ℕ) (engine engine_now : EngineView) (intake intake_now : IntakeView) (work_queue work_queue_now : WorkQueueView) → IsCell job true node engine intake work_queue → engine.claimed < 2 ^ 64 → ClaimsBy Did engine engine_now intake intake_now work_queue work_queue_now
    → ClaimsLess engine engine_now intake intake_now
cell_less {laws} job node engine engine_now intake intake_now work_queue work_queue_now cell few (inl t) = work_less job node t.work engine engine_now intake intake_now cell.lawful_engine few t.claims
cell_less {laws} job node engine engine_now intake intake_now work_queue work_queue_now cell few (inr a) = answered_less job node engine engine_now intake intake_now work_queue cell few a.0

-- Nets: what a claim leaves of the engine and the intake counts alone.
both_put : (now with_one net new old new_in old_in : ℕ) → now + old_in ≡ with_one + new_in → with_one + old ≡ net + new → now + (old + old_in) ≡ net + (new + new_in)
both_put now with_one net new old new_in old_in one two = omega (arith, one, two)

next_left : (node : ℕ) (effect : Effect) (before now : NetView) → (c : ClaimsNext node effect before now) → left_in now + (engine_left c.engine + intake_left c.intake) ≡ left_in before + (engine_left c.engine_now + intake_left c.intake_now)
next_left node effect before now c =
    let next = with_engine before node c.engine_now in
    let last = with_intake next node c.intake_now in
    let noted : left_in now ≡ left_in last = ap left_in c.now_is ∙ noted_same (with_work_queue last node c.work_queue_now) (first_edge before.plan node) (lengths_of c.intake_now.waits) in
    subst (λ (n : ℕ). n + (engine_left c.engine + intake_left c.intake) ≡ left_in before + (engine_left c.engine_now + intake_left c.intake_now)) (sym noted)
    (both_put (left_in last) (left_in next) (left_in before) (engine_left c.engine_now) (engine_left c.engine) (intake_left c.intake_now) (intake_left c.intake) (intake_put next node c.intake c.intake_now c.to) (engine_put before node c.engine c.engine_now c.at))

both_less : (now net new old new_in old_in : ℕ) → now + (old + old_in) ≡ net + (new + new_in) → new < old → new_in ≡ old_in → now < net
both_less now net new old new_in old_in is less same = omega (arith, is, less, same)

both_same : (now net new old new_in old_in : ℕ) → now + (old + old_in) ≡ net + (new + new_in) → new ≡ old → new_in ≡ old_in → now ≤ net
both_same now net new old new_in old_in is one two = omega (arith, is, one, two)

next_less : {laws : Laws} (job : LoggedJob laws) (node : ℕ) (before now : NetView) → node < length before.plan.nodes → IsRunning before → StandsFor job before → ClaimsNext node Did before now → left_in now < left_in before
next_less {laws} job node before now within running h c =
    let cell = cell_at job before node c.engine c.intake c.work_queue h running within c.at c.to c.on in
    let less = cell_less job node c.engine c.engine_now c.intake c.intake_now c.work_queue c.work_queue_now cell (claims_small job (of_node node) c.engine cell.lawful_engine) c.claims in
    both_less (left_in now) (left_in before) (engine_left c.engine_now) (engine_left c.engine) (intake_left c.intake_now) (intake_left c.intake) (next_left node Did before now c) less.engine_less less.intake_same

pub claim_less : {laws : Laws} (job : LoggedJob laws) (node : ℕ) (before now : NetView) → node < length before.plan.nodes → IsRunning before → StandsFor job before → NodeClaims node Did before now → left_in now < left_in before
claim_less {laws} job node before now within running h c = elim c [
  | inl held ↦ absurd (not_idle held.1.idle)
  | inr free ↦ next_less job node before now within running h free.1
]

-- and what claims nothing leaves as much
claims_none : (effect : Effect) (engine engine_now : EngineView) (intake intake_now : IntakeView) (work_queue work_queue_now : WorkQueueView) → effect ≢ Did → ClaimsBy effect engine engine_now intake intake_now work_queue work_queue_now → AreSame engine intake engine_now intake_now
claims_none Did engine engine_now intake intake_now work_queue work_queue_now other c = absurd (other refl)
claims_none Idle engine engine_now intake intake_now work_queue work_queue_now other c = elim c.0 [
  | inl early ↦ early.2
  | inr (inl full) ↦ full.3
  | inr (inr (inl draining)) ↦ draining.3
  | inr (inr (inr ended)) ↦ ended.1
]
claims_none OutOfMemory engine engine_now intake intake_now work_queue work_queue_now other c = c.0.2

next_same : (node : ℕ) (effect : Effect) (before now : NetView) → effect ≢ Did → ClaimsNext node effect before now → left_in now ≤ left_in before
next_same node effect before now other c =
    let same = claims_none effect c.engine c.engine_now c.intake c.intake_now c.work_queue c.work_queue_now other c.claims in
    both_same (left_in now) (left_in before) (engine_left c.engine_now) (engine_left c.engine) (intake_left c.intake_now) (intake_left c.intake) (next_left node effect before now c) (ap engine_left same.same_engine) (ap intake_left same.same_intake)

next_no_more : {laws : Laws} (job : LoggedJob laws) (node : ℕ) (effect : Effect) (before now : NetView) → node < length before.plan.nodes → IsRunning before → StandsFor job before → ClaimsNext node effect before now → left_in now ≤ left_in before
next_no_more {laws} job node Did before now within running h c = less_left (left_in now) (left_in before) (next_less job node before now within running h c)
next_no_more {laws} job node Idle before now within running h c = next_same node Idle before now (λ e. not_idle (sym e)) c
next_no_more {laws} job node OutOfMemory before now within running h c = next_same node OutOfMemory before now (λ e. not_without (sym e)) c

pub claim_no_more : {laws : Laws} (job : LoggedJob laws) (node : ℕ) (effect : Effect) (before now : NetView) → node < length before.plan.nodes → IsRunning before → StandsFor job before → NodeClaims node effect before now → left_in now ≤ left_in before
claim_no_more {laws} job node effect before now within running h c = elim c [
  | inl held ↦ same_left before now held.1.same
  | inr free ↦ next_no_more job node effect before now within running h free.1
]
