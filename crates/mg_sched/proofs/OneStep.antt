-- A step of a net has one outcome: an event does something or nothing, and what it does is one thing. This holds up to the room of queues.
use Rattle.std.proofs.Common.{◌≡◌, ◌≢◌, ℕ, ◌+◌, ◌<◌, Bool, true, false, List, [], ◌∷◌, ◌++◌, length, map, set, take, drop, get_or, option_map, Option, Some, None, Result, Ok, Err, slice_get, if◌then◌else◌, ◌⊎◌, inl, inr, ap, ap₂, sym, refl, subst, ◌∙◌, arith}
use Rattle.std.specs.Prelude.{AllPairs, All, Any, Contains}
use Rattle.std.specs.List.{list_any}
use Rattle.std.proofs.lemmas.Bool.{cases_lt}
use Rattle.std.proofs.lemmas.List.{map-set, take_at, drop_at, get_or_at, length-append}
use Rattle.std.proofs.lemmas.Option.{same_Some}
use Rattle.mg_value.specs.Payload.{Plain}
use Rattle.mg_settled.specs.Prefix.{StreamPrefix}
use Rattle.mg_stream.specs.Queue.{Waiting, StandsFor as QueueStands}
use Rattle.mg_stream.specs.Pool.{Backlog, queue_of}
use Rattle.mg_calc.specs.Rules.{Laws}
use Rattle.mg_calc.specs.declared.cause.Cause.{Cause}
use Rattle.mg_calc.specs.declared.edge.Edge.{Edge}
use Rattle.mg_calc.specs.declared.emission.Laid.{Laid}
use Rattle.mg_calc.specs.declared.event.Event.{Event}
use Rattle.mg_calc.specs.declared.event.Event.TheVariants.{Deliver, Advance, Claim, Perform, Commit, Relax}
use Rattle.mg_calc.specs.declared.event.Effect.{Effect}
use Rattle.mg_calc.specs.declared.event.Effect.TheVariants.{Did, Idle, OutOfMemory}
use Rattle.mg_calc.specs.declared.plan.Plan.{Plan}
use Rattle.mg_calc.specs.Answer.{Answer}
use Rattle.mg_calc.specs.Reaching.{producer_of}
use Rattle.mg_calc.specs.Plan.{Feeder, graph_input, source_node, feeders}
use Rattle.mg_route.specs.HolderView.{held_rules}
use Rattle.mg_calc.proofs.Earlier.{get_map}
use Rattle.mg_node.specs.declared.delivered.Delivered.{Delivered}
use Rattle.mg_node.specs.declared.delivered.Delivered.TheVariants.{Moved, OutOfMemory as NoRoom}
use Rattle.mg_node.specs.Views.{IntakeView, ContextView, WorkView, PerformedView, EngineView}
use Rattle.mg_node.specs.Advances.{advance_bound, raised_output, any_moved_by, raised_by, until_claimed, advanced, is_advanced}
use Rattle.mg_node.specs.Commits.{front_of, window_with, front_laid, HasFront, Front, fault_at, Commits}
use Rattle.mg_node.specs.Delivery.{Delivers}
use Rattle.mg_node.specs.Lawful.{HasAnswered, answer_in, StandForAll, LawfulEngine}
use Rattle.mg_node.specs.Leading.{output_at}
use Rattle.mg_node.specs.Ports.{port_queue}
use Rattle.mg_node.specs.Running.{IsPerformed}
use Rattle.mg_node.specs.Shelves.{outcome_of, shelved, shelf_at}
use Rattle.mg_node.specs.Claims.{has_ended}
use Rattle.mg_throttle.specs.declared.queue.Queue.{Queue}
use Rattle.mg_throttle.specs.Throttle.{QueueLimits, FeederReaches, is_full, stopped, relaxed, IsThrottled}
use Rattle.mg_sched.specs.Views.{WorkQueueView, NetView}
use Rattle.mg_sched.specs.Places.{source_of, lengths_of, first_edge}
use Rattle.mg_sched.specs.StandsFor.{StandsForSome, IsRunning}
use Rattle.mg_sched.specs.Acts.{IsEventOf, Rests, all_noted, IsHeld, effect_of, Brings, DeliversAlong, NodeAdvances, IsHeldSource, ClaimsBy, ClaimsNext, NodeClaims, PerformedBy, Performs, NodePerforms, stopped_by, CommitsTo, CommittedAt, NodeCommits, IsAnyFull, LimitsRelax, Acts}
use Rattle.mg_sched.specs.SameNets.{bare_waits, bare_intake, AreAlike}
use Rattle.mg_sched.proofs.SameParts.{same_port, delivers_one, same_lengths, same_horizon}
use Rattle.mg_sched.proofs.OneClaim.{intake_by, ClaimedAlike, did_or_idle, idle_one, did_one}
use Rattle.mg_sched.proofs.Finding.{cell_at, found, places}

-- Nets that are alike.

pub alike_itself : (net : NetView) → AreAlike net net
alike_itself net = record { plan = refl; given = refl; engines = refl; intakes = refl; work_queues = refl; queues = refl; spare = refl; kept = refl; begun = refl; wound = refl }

pub alike_back : (net other : NetView) → AreAlike net other → AreAlike other net
alike_back net other h = record {
  plan = sym h.plan;
  given = sym h.given;
  engines = sym h.engines;
  intakes = sym h.intakes;
  work_queues = sym h.work_queues;
  queues = sym h.queues;
  spare = sym h.spare;
  kept = sym h.kept;
  begun = sym h.begun;
  wound = sym h.wound;
}

-- nets with other parts that are alike
abbrev with_parts : NetView → List EngineView → List IntakeView → List WorkQueueView → QueueLimits → NetView
with_parts net engines intakes work_queues limits = record net { engines = engines; intakes = intakes; work_queues = work_queues; limits = limits }

alike_with : (net other : NetView) (engines engines_too : List EngineView) (intakes intakes_too : List IntakeView) (work_queues work_queues_too : List WorkQueueView) (limits limits_too : QueueLimits) (now also : NetView) → AreAlike net other
    → engines ≡ engines_too → map bare_intake intakes ≡ map bare_intake intakes_too → work_queues ≡ work_queues_too → limits.queues ≡ limits_too.queues
    → now ≡ with_parts net engines intakes work_queues limits → also ≡ with_parts other engines_too intakes_too work_queues_too limits_too → AreAlike now also
alike_with net other engines engines_too intakes intakes_too work_queues work_queues_too limits limits_too now also h e i w q is is_too =
    subst (λ (v : NetView). AreAlike v also) (sym is) (subst (λ (v : NetView). AreAlike (with_parts net engines intakes work_queues limits) v) (sym is_too)
    (record { plan = h.plan; given = h.given; engines = e; intakes = i; work_queues = w; queues = q; spare = h.spare; kept = h.kept; begun = h.begun; wound = h.wound }))

-- parts at a place of two nets that are alike
same_at : {X : Type 0} (xs ys : List X) (i : ℕ) (x y : X) → xs ≡ ys → slice_get xs i ≡ Some x → slice_get ys i ≡ Some y → x ≡ y
same_at {X} xs ys i x y same at at_too = same_Some x y (sym at ∙ ap (λ (zs : List X). slice_get zs i) same ∙ at_too)

same_intake : (net other : NetView) (place : ℕ) (intake twin : IntakeView) → AreAlike net other → slice_get net.intakes place ≡ Some intake → slice_get other.intakes place ≡ Some twin → bare_intake intake ≡ bare_intake twin
same_intake net other place intake twin h at at_too =
    same_at (map bare_intake net.intakes) (map bare_intake other.intakes) place (bare_intake intake) (bare_intake twin) h.intakes (get_map bare_intake net.intakes place intake at) (get_map bare_intake other.intakes place twin at_too)

waits_of : (intake twin : IntakeView) → bare_intake intake ≡ bare_intake twin → bare_waits intake.waits ≡ bare_waits twin.waits
waits_of intake twin same = ap (λ (i : IntakeView). i.waits) same

same_intakes : (net other : NetView) (place : ℕ) (now twin : IntakeView) → AreAlike net other → bare_intake now ≡ bare_intake twin → map bare_intake (set net.intakes place now) ≡ map bare_intake (set other.intakes place twin)
same_intakes net other place now twin h same =
    map-set bare_intake net.intakes place now ∙ ap₂ (λ (is : List IntakeView) (i : IntakeView). set is place i) h.intakes same ∙ sym (map-set bare_intake other.intakes place twin)

-- Effects and rests.

-- of two outcomes of an event
pub record OneOutcome (effect twin : Effect) (now also : NetView) : Type 0 where
  pub effects : effect ≡ twin
  pub nets : AreAlike now also

both_rest : (effect twin : Effect) (net now other also : NetView) → AreAlike net other → Rests effect net now → Rests twin other also → OneOutcome effect twin now also
both_rest effect twin net now other also h r s = record {
  effects = r.idle ∙ sym s.idle;
  nets = subst (λ (v : NetView). AreAlike v also) (sym r.same) (subst (λ (v : NetView). AreAlike net v) (sym s.same) h);
}

throttled_too : (net other : NetView) (feeder : Feeder) → AreAlike net other → IsThrottled net.plan net.limits feeder → IsThrottled other.plan other.limits feeder
throttled_too net other feeder h t =
    subst (λ (p : Plan). Any (λ q. (is_full q ≡ true) × FeederReaches p feeder q.node) other.limits.queues) h.plan
    (subst (λ (qs : List Queue). Any (λ q. (is_full q ≡ true) × FeederReaches net.plan feeder q.node) qs) h.queues t)

-- Deliveries.

held_too : (net other : NetView) (e f : Edge) → AreAlike net other → e ≡ f → IsHeld net e → IsHeld other f
held_too net other e f h same held = subst (λ (g : Edge). IsHeld other g) same (record {
  input = held.input;
  from = ap (λ (p : Plan). producer_of p e.stream) (sym h.plan) ∙ held.from;
  throttled = throttled_too net other (graph_input held.input) h held.throttled;
})

brings_alike : (number : ℕ) (e : Edge) (effect twin : Effect) (net now other also : NetView) → AreAlike net other → effect ≢ OutOfMemory → twin ≢ OutOfMemory → Brings number e effect net now → Brings number e twin other also → OneOutcome effect twin now also
brings_alike number e effect twin net now other also h some some_too b c = by_answers b.answer c.answer refl refl
  where
    place : b.place ≡ c.place
    place = same_Some b.place c.place (sym b.from ∙ ap (λ (p : Plan). source_of p e) h.plan ∙ c.from)

    engine : b.engine ≡ c.engine
    engine = same_at net.engines other.engines c.place b.engine c.engine h.engines (ap (slice_get net.engines) (sym place) ∙ b.at) c.at

    intake : bare_intake b.intake ≡ bare_intake c.intake
    intake = same_intake net other e.node b.intake c.intake h b.to c.to

    by_answers : (a d : Delivered) → b.answer ≡ a → c.answer ≡ d → OneOutcome effect twin now also
    by_answers (Moved packets raised) (Moved others too) is is_too =
        let first : Delivers (Moved packets raised) (output_at c.engine e) e.port 4294967295 b.intake.waits b.intake_now.waits =
        subst (λ (v : EngineView). Delivers (Moved packets raised) (output_at v e) e.port 4294967295 b.intake.waits b.intake_now.waits) engine
        (subst (λ (a : Delivered). Delivers a (output_at b.engine e) e.port 4294967295 b.intake.waits b.intake_now.waits) is b.moved) in
        let second : Delivers (Moved others too) (output_at c.engine e) e.port 4294967295 c.intake.waits c.intake_now.waits =
        subst (λ (a : Delivered). Delivers a (output_at c.engine e) e.port 4294967295 c.intake.waits c.intake_now.waits) is_too c.moved in
        let one = delivers_one (output_at c.engine e) e.port 4294967295 packets others raised too b.intake.waits b.intake_now.waits c.intake.waits c.intake_now.waits (waits_of b.intake c.intake intake) first second in
        let intake_now : bare_intake b.intake_now ≡ bare_intake c.intake_now = intake_by b.intake_now c.intake_now (b.claimed ∙ ap (λ (i : IntakeView). i.claimed) intake ∙ sym c.claimed) one.waits in
        let waiting : length (port_queue b.intake_now.waits e.port).packets ≡ length (port_queue c.intake_now.waits e.port).packets =
        ap (λ (q : Waiting Plain). length q.packets) (same_port b.intake_now.waits c.intake_now.waits e.port one.waits) in
        record {
          effects = b.effect_is ∙ ap effect_of is ∙ ap₂ (λ (n : ℕ) (r : Bool). effect_of (Moved n r)) one.count one.moved ∙ sym (ap effect_of is_too) ∙ sym c.effect_is;
          nets = alike_with net other net.engines other.engines (set net.intakes e.node b.intake_now) (set other.intakes e.node c.intake_now) net.work_queues other.work_queues
              (record net.limits { queues = all_noted net.limits.queues number (length (port_queue b.intake_now.waits e.port).packets ∷ []) })
              (record other.limits { queues = all_noted other.limits.queues number (length (port_queue c.intake_now.waits e.port).packets ∷ []) }) now also h
              h.engines (same_intakes net other e.node b.intake_now c.intake_now h intake_now) h.work_queues (ap₂ (λ (qs : List Queue) (n : ℕ). all_noted qs number (n ∷ [])) h.queues waiting) b.now_is c.now_is;
        }
    by_answers (NoRoom packets) d is is_too = absurd (some (b.effect_is ∙ ap effect_of is))
    by_answers (Moved packets raised) (NoRoom others) is is_too = absurd (some_too (c.effect_is ∙ ap effect_of is_too))

deliver_one : (number : ℕ) (effect twin : Effect) (net now other also : NetView) → AreAlike net other → effect ≢ OutOfMemory → twin ≢ OutOfMemory → DeliversAlong number effect net now → DeliversAlong number twin other also → OneOutcome effect twin now also
deliver_one number effect twin net now other also h some some_too d k = by_both d.delivered k.delivered
  where
    edge : d.edge ≡ k.edge
    edge = same_Some d.edge k.edge (sym d.there ∙ ap (λ (p : Plan). slice_get p.edges number) h.plan ∙ k.there)

    by_both : (IsHeld net d.edge × Rests effect net now) ⊎ (¬ IsHeld net d.edge × Brings number d.edge effect net now) → (IsHeld other k.edge × Rests twin other also) ⊎ (¬ IsHeld other k.edge × Brings number k.edge twin other also) → OneOutcome effect twin now also
    by_both (inl (held, r)) (inl (held_also, s)) = both_rest effect twin net now other also h r s
    by_both (inl (held, r)) (inr (free, b)) = absurd (free (held_too net other d.edge k.edge h edge held))
    by_both (inr (free, b)) (inl (held, r)) = absurd (free (held_too other net k.edge d.edge (alike_back net other h) (sym edge) held))
    by_both (inr (free, b)) (inr (free_too, c)) =
        brings_alike number k.edge effect twin net now other also h some some_too (subst (λ (e : Edge). Brings number e effect net now) edge b) c

-- Advances.

bound_same : (engine : EngineView) (one other : IntakeView) → bare_intake one ≡ bare_intake other → advance_bound engine one.waits ≡ advance_bound engine other.waits
bound_same engine one other same =
    ap (λ (t : ℕ). if has_ended engine then None else raised_by engine.role engine.offset (until_claimed engine.window t)) (same_horizon one.waits other.waits (waits_of one other same))

advance_one : (node : ℕ) (effect twin : Effect) (net now other also : NetView) → AreAlike net other → NodeAdvances node effect net now → NodeAdvances node twin other also → OneOutcome effect twin now also
advance_one node effect twin net now other also h a b =
    let engine : a.engine ≡ b.engine = same_at net.engines other.engines node a.engine b.engine h.engines a.at b.at in
    let intake = same_intake net other node a.intake b.intake h a.to b.to in
    let bound : advance_bound a.engine a.intake.waits ≡ advance_bound b.engine b.intake.waits = ap (λ (v : EngineView). advance_bound v a.intake.waits) engine ∙ bound_same b.engine a.intake b.intake intake in
    let moves : is_advanced a.engine a.intake.waits ≡ is_advanced b.engine b.intake.waits = ap₂ (λ (o : Option ℕ) (v : EngineView). any_moved_by o v.outputs) bound engine in
    let becomes : advanced a.engine a.intake.waits ≡ advanced b.engine b.intake.waits = ap₂ (λ (o : Option ℕ) (v : EngineView). (let w : EngineView = record v { outputs = map (raised_output o) v.outputs } in w)) bound engine in
    record {
      effects = a.effect_is ∙ ap (λ (c : Bool). if c then Did else Idle) moves ∙ sym b.effect_is;
      nets = alike_with net other (set net.engines node (advanced a.engine a.intake.waits)) (set other.engines node (advanced b.engine b.intake.waits)) net.intakes other.intakes net.work_queues other.work_queues net.limits other.limits now also h
          (ap₂ (λ (es : List EngineView) (v : EngineView). set es node v) h.engines becomes) h.intakes h.work_queues h.queues a.now_is b.now_is;
    }

-- Claims.

held_source_too : (net other : NetView) (node : ℕ) → AreAlike net other → IsHeldSource net node → IsHeldSource other node
held_source_too net other node h held = record {
  feeds = subst (λ (p : Plan). Contains (feeders p) (source_node node)) h.plan held.feeds;
  throttled = throttled_too net other (source_node node) h held.throttled;
}

claims_alike : (node : ℕ) (effect twin : Effect) (net now other also : NetView) → AreAlike net other → effect ≢ OutOfMemory → twin ≢ OutOfMemory → ClaimsNext node effect net now → ClaimsNext node twin other also → OneOutcome effect twin now also
claims_alike node effect twin net now other also h some some_too a b = by_effects effect twin refl refl
  where
    engine : a.engine ≡ b.engine
    engine = same_at net.engines other.engines node a.engine b.engine h.engines a.at b.at

    work_queue : a.work_queue ≡ b.work_queue
    work_queue = same_at net.work_queues other.work_queues node a.work_queue b.work_queue h.work_queues a.on b.on

    intake : bare_intake a.intake ≡ bare_intake b.intake
    intake = same_intake net other node a.intake b.intake h a.to b.to

    -- the claim of the first net, told of the parts of the second
    told : (e : Effect) → effect ≡ e → ClaimsBy e b.engine a.engine_now a.intake a.intake_now b.work_queue a.work_queue_now
    told e is = subst (λ (q : WorkQueueView). ClaimsBy e b.engine a.engine_now a.intake a.intake_now q a.work_queue_now) work_queue
        (subst (λ (v : EngineView). ClaimsBy e v a.engine_now a.intake a.intake_now a.work_queue a.work_queue_now) engine (subst (λ (f : Effect). ClaimsBy f a.engine a.engine_now a.intake a.intake_now a.work_queue a.work_queue_now) is a.claims))

    told_too : (e : Effect) → twin ≡ e → ClaimsBy e b.engine b.engine_now b.intake b.intake_now b.work_queue b.work_queue_now
    told_too e is = subst (λ (f : Effect). ClaimsBy f b.engine b.engine_now b.intake b.intake_now b.work_queue b.work_queue_now) is b.claims

    nets : ClaimedAlike a.engine_now b.engine_now a.intake_now b.intake_now a.work_queue_now b.work_queue_now → AreAlike now also
    nets c =
        let lengths : lengths_of a.intake_now.waits ≡ lengths_of b.intake_now.waits = same_lengths a.intake_now.waits b.intake_now.waits (waits_of a.intake_now b.intake_now c.intakes) in
        let edge : first_edge net.plan node ≡ first_edge other.plan node = ap (λ (p : Plan). first_edge p node) h.plan in
        alike_with net other (set net.engines node a.engine_now) (set other.engines node b.engine_now) (set net.intakes node a.intake_now) (set other.intakes node b.intake_now) (set net.work_queues node a.work_queue_now) (set other.work_queues node b.work_queue_now)
        (record net.limits { queues = all_noted net.limits.queues (first_edge net.plan node) (lengths_of a.intake_now.waits) })
        (record other.limits { queues = all_noted other.limits.queues (first_edge other.plan node) (lengths_of b.intake_now.waits) }) now also h
        (ap₂ (λ (es : List EngineView) (v : EngineView). set es node v) h.engines c.engines) (same_intakes net other node a.intake_now b.intake_now h c.intakes)
        (ap₂ (λ (qs : List WorkQueueView) (q : WorkQueueView). set qs node q) h.work_queues c.work_queues)
        (ap₂ (λ (qs : List Queue) (n : ℕ). all_noted qs n (lengths_of a.intake_now.waits)) h.queues edge ∙ ap (λ (ns : List ℕ). all_noted other.limits.queues (first_edge other.plan node) ns) lengths) a.now_is b.now_is

    by_effects : (e f : Effect) → effect ≡ e → twin ≡ f → OneOutcome effect twin now also
    by_effects Did Did is is_too = record {
      effects = is ∙ sym is_too;
      nets = nets (did_one b.engine a.engine_now b.engine_now a.intake a.intake_now b.intake b.intake_now b.work_queue a.work_queue_now b.work_queue_now intake (told Did is) (told_too Did is_too));
    }
    by_effects Did Idle is is_too = absurd (did_or_idle b.engine a.engine_now b.engine_now a.intake a.intake_now b.intake b.intake_now b.work_queue a.work_queue_now b.work_queue_now intake (told Did is) (told_too Idle is_too))
    by_effects Idle Did is is_too = absurd (did_or_idle b.engine b.engine_now a.engine_now b.intake b.intake_now a.intake a.intake_now b.work_queue b.work_queue_now a.work_queue_now (sym intake) (told_too Did is_too) (told Idle is))
    by_effects Idle Idle is is_too = record {
      effects = is ∙ sym is_too;
      nets = nets (idle_one b.engine a.engine_now b.engine_now a.intake a.intake_now b.intake b.intake_now b.work_queue a.work_queue_now b.work_queue_now intake (told Idle is) (told_too Idle is_too));
    }
    by_effects OutOfMemory f is is_too = absurd (some is)
    by_effects Did OutOfMemory is is_too = absurd (some_too is_too)
    by_effects Idle OutOfMemory is is_too = absurd (some_too is_too)

claim_one : (node : ℕ) (effect twin : Effect) (net now other also : NetView) → AreAlike net other → effect ≢ OutOfMemory → twin ≢ OutOfMemory → NodeClaims node effect net now → NodeClaims node twin other also → OneOutcome effect twin now also
claim_one node effect twin net now other also h some some_too (inl (held, r)) (inl (held_also, s)) = both_rest effect twin net now other also h r s
claim_one node effect twin net now other also h some some_too (inl (held, r)) (inr (free, b)) = absurd (free (held_source_too net other node h held))
claim_one node effect twin net now other also h some some_too (inr (free, a)) (inl (held, s)) = absurd (free (held_source_too other net node (alike_back net other h) held))
claim_one node effect twin net now other also h some some_too (inr (free, a)) (inr (free_too, b)) = claims_alike node effect twin net now other also h some some_too a b

-- Works.

-- a work of a number stands in a list once
record SameSplit (front ahead back behind : List WorkView) (work also : WorkView) : Type 0 where
  pub fronts : front ≡ ahead
  pub works : work ≡ also
  pub backs : back ≡ behind

abbrev first_of : List WorkView → WorkView → WorkView
first_of [] work = work
first_of (w ∷ ws) work = w

abbrev rest_of_works : List WorkView → List WorkView
rest_of_works [] = []
rest_of_works (w ∷ ws) = ws

clash_at : (works front ahead back behind : List WorkView) (work also : WorkView) → AllPairs (λ v w. v.number ≢ w.number) works → works ≡ front ++ work ∷ back → works ≡ ahead ++ also ∷ behind → work.number ≡ also.number → length front < length ahead → ⊥
clash_at works front ahead back behind work also apart is is_too number less =
    let long : length works ≡ length ahead + length (also ∷ behind) = ap (λ (ws : List WorkView). length ws) is_too ∙ length-append ahead (also ∷ behind) in
    let within : length ahead < length works = omega (arith, long) in
    let one : get_or works (length front) work ≡ work = ap (λ (ws : List WorkView). get_or ws (length front) work) is ∙ get_or_at front work back work (length front) refl in
    let two : get_or works (length ahead) work ≡ also = ap (λ (ws : List WorkView). get_or ws (length ahead) work) is_too ∙ get_or_at ahead also behind work (length ahead) refl in
    apart (length front) (length ahead) work less within (ap (λ (w : WorkView). w.number) one ∙ number ∙ sym (ap (λ (w : WorkView). w.number) two))

same_split : (works front ahead back behind : List WorkView) (work also : WorkView) → AllPairs (λ v w. v.number ≢ w.number) works → works ≡ front ++ work ∷ back → works ≡ ahead ++ also ∷ behind → work.number ≡ also.number → SameSplit front ahead back behind work also
same_split works front ahead back behind work also apart is is_too number = elim (cases_lt (length front) (length ahead)) [
  | inl less ↦ absurd (clash_at works front ahead back behind work also apart is is_too number less)
  | inr low ↦ elim (cases_lt (length ahead) (length front)) [
    | inl more ↦ absurd (clash_at works ahead front behind back also work apart is_too is (sym number) more)
    | inr high ↦
        (let long : length front ≡ length ahead = omega (arith, low, high) in
        let fronts : front ≡ ahead = sym (take_at front (work ∷ back) (length ahead) long) ∙ ap (take (length ahead)) (sym is ∙ is_too) ∙ take_at ahead (also ∷ behind) (length ahead) refl in
        let rests : work ∷ back ≡ also ∷ behind = sym (drop_at front (work ∷ back) (length ahead) long) ∙ ap (drop (length ahead)) (sym is ∙ is_too) ∙ drop_at ahead (also ∷ behind) (length ahead) refl in
        record { fronts = fronts; works = ap (λ (ws : List WorkView). first_of ws work) rests; backs = ap rest_of_works rests })
  ]
]

-- what a calculator answers, and what it keeps
record SameAnswer (one other : Result (List Laid) Cause) (now also : List Plain) : Type 0 where
  pub answers : one ≡ other
  pub states : now ≡ also

abbrev state_in : Answer → List Plain → List Plain
state_in (Ok given) before = given.0
state_in (Err cause) before = before

abbrev laid_in : Answer → Result (List Laid) Cause
laid_in (Ok given) = Ok given.1
laid_in (Err cause) = Err cause

answered_is : (one : Result (List Laid) Cause) (before now : List Plain) (answer : Answer) → HasAnswered one before now answer → SameAnswer one (laid_in answer) now (state_in answer before)
answered_is (Ok emission) before now answer is = record { answers = sym (ap laid_in is); states = sym (ap (λ (a : Answer). state_in a before) is) }
answered_is (Err cause) before now answer is = record { answers = sym (ap laid_in is.0); states = is.1 ∙ sym (ap (λ (a : Answer). state_in a before) is.0) }

performed_one : {laws : Laws} (work : WorkView) (p q : PerformedView) → IsPerformed laws work p → IsPerformed laws work q → p ≡ q
performed_one {laws} work p q h k =
    let answer = answer_in (held_rules laws work.context.told) work.context.told.law work.context.told.state work.phase work.context.set in
    let first = answered_is p.answer work.context.told.state p.work.context.told.state answer h.answer in
    let second = answered_is q.answer work.context.told.state q.work.context.told.state answer k.answer in
    let state : p.work.context.told.state ≡ q.work.context.told.state = first.states ∙ sym second.states in
    let law : p.work.context.told.law ≡ q.work.context.told.law = h.law ∙ sym k.law in
    let shape : p.work.context.told.shape ≡ q.work.context.told.shape = h.shape ∙ sym k.shape in
    let log : p.work.context.told.log ≡ q.work.context.told.log = h.log ∙ sym k.log in
    let handed : p.work.context.told.handed ≡ q.work.context.told.handed = h.same_handed ∙ sym k.same_handed in
    let told : p.work.context.told ≡ q.work.context.told = λ i. record { law = law i; shape = shape i; state = state i; log = log i; handed = handed i } in
    let sets : p.work.context.set ≡ q.work.context.set = h.set ∙ sym k.set in
    let context : p.work.context ≡ q.work.context = λ i. record { told = told i; set = sets i } in
    let works : p.work ≡ q.work = h.same ∙ ap (λ (c : ContextView). (let w : WorkView = record work { context = c } in w)) context ∙ sym k.same in
    let answers : p.answer ≡ q.answer = first.answers ∙ sym second.answers in
    λ i. record { work = works i; answer = answers i }

works_apart : {laws : Laws} (net : NetView) (node : ℕ) (work_queue : WorkQueueView) → StandsForSome laws net → IsRunning net → node < length net.plan.nodes → slice_get net.work_queues node ≡ Some work_queue → AllPairs (λ v w. v.number ≢ w.number) work_queue.works
works_apart {laws} net node work_queue h running there on =
    let all = places net h in
    let engines = all.0 in
    let intakes = all.1 in
    let e = found net.engines node (omega (arith, there, engines)) in
    let i = found net.intakes node (omega (arith, there, intakes)) in
    (cell_at h.job net node e.0 i.0 work_queue h.stands running there e.1 i.1 on).works.apart

none_of : (works front back : List WorkView) (work : WorkView) (number : ℕ) → All (λ w. w.number ≢ number) works → works ≡ front ++ work ∷ back → work.number ≡ number → ⊥
none_of works front back work number all is same =
    let long : length works ≡ length front + length (work ∷ back) = ap (λ (ws : List WorkView). length ws) is ∙ length-append front (work ∷ back) in
    all (length front) work (omega (arith, long)) (ap (λ (w : WorkView). w.number) (ap (λ (ws : List WorkView). get_or ws (length front) work) is ∙ get_or_at front work back work (length front) refl) ∙ same)

performs_alike : {laws : Laws} (node number : ℕ) (effect twin : Effect) (work_queue : WorkQueueView) (net now other also : NetView) → AreAlike net other → effect ≢ OutOfMemory → twin ≢ OutOfMemory → AllPairs (λ v w. v.number ≢ w.number) work_queue.works
    → Performs laws node number effect work_queue net now → Performs laws node number twin work_queue other also → OneOutcome effect twin now also
performs_alike {laws} node number effect twin work_queue net now other also h some some_too apart a b = by_effects effect twin refl refl
  where
    engine : a.engine ≡ b.engine
    engine = same_at net.engines other.engines node a.engine b.engine h.engines a.at b.at

    split : SameSplit a.front b.front a.back b.back a.work b.work
    split = same_split work_queue.works a.front b.front a.back b.back a.work b.work apart a.works b.works (a.number_is ∙ sym b.number_is)

    by_effects : (e f : Effect) → effect ≡ e → twin ≡ f → OneOutcome effect twin now also
    by_effects Did Did is is_too =
        let p = subst (λ (e : Effect). PerformedBy laws e node a.engine work_queue (a.front ++ a.back) a.work net now) is a.performed in
        let q = subst (λ (e : Effect). PerformedBy laws e node b.engine work_queue (b.front ++ b.back) b.work other also) is_too b.performed in
        let same : p.0 ≡ q.0 = performed_one b.work p.0 q.0 (subst (λ (w : WorkView). IsPerformed laws w p.0) split.works p.1) q.1 in
        let left : a.front ++ a.back ≡ b.front ++ b.back = ap₂ (λ (fs bs : List WorkView). fs ++ bs) split.fronts split.backs in
        record {
          effects = is ∙ sym is_too;
          nets = alike_with net other (set net.engines node (shelved a.engine (outcome_of p.0))) (set other.engines node (shelved b.engine (outcome_of q.0))) net.intakes other.intakes
              (set net.work_queues node (record work_queue { works = a.front ++ a.back })) (set other.work_queues node (record work_queue { works = b.front ++ b.back })) net.limits other.limits now also h
              (ap₂ (λ (es : List EngineView) (v : EngineView). set es node v) h.engines (ap₂ (λ (v : EngineView) (r : PerformedView). shelved v (outcome_of r)) engine same)) h.intakes
              (ap₂ (λ (qs : List WorkQueueView) (ws : List WorkView). set qs node (let q : WorkQueueView = record work_queue { works = ws } in q)) h.work_queues left) h.queues p.2 q.2;
        }
    by_effects Idle f is is_too = absurd (subst (λ (e : Effect). PerformedBy laws e node a.engine work_queue (a.front ++ a.back) a.work net now) is a.performed)
    by_effects Did Idle is is_too = absurd (subst (λ (e : Effect). PerformedBy laws e node b.engine work_queue (b.front ++ b.back) b.work other also) is_too b.performed)
    by_effects OutOfMemory f is is_too = absurd (some is)
    by_effects Did OutOfMemory is is_too = absurd (some_too is_too)

perform_one : {laws : Laws} (node number : ℕ) (effect twin : Effect) (net now other also : NetView) → StandsForSome laws net → IsRunning net → node < length net.plan.nodes → AreAlike net other → effect ≢ OutOfMemory → twin ≢ OutOfMemory
    → NodePerforms laws node number effect net now → NodePerforms laws node number twin other also → OneOutcome effect twin now also
perform_one {laws} node number effect twin net now other also some_job running there h some some_too a b = by_both a.performed b.performed
  where
    work_queue : a.work_queue ≡ b.work_queue
    work_queue = same_at net.work_queues other.work_queues node a.work_queue b.work_queue h.work_queues a.on b.on

    by_both : (All (λ w. w.number ≢ number) a.work_queue.works × Rests effect net now) ⊎ Performs laws node number effect a.work_queue net now → (All (λ w. w.number ≢ number) b.work_queue.works × Rests twin other also) ⊎ Performs laws node number twin b.work_queue other also
        → OneOutcome effect twin now also
    by_both (inl (none, r)) (inl (none_too, s)) = both_rest effect twin net now other also h r s
    by_both (inl (none, r)) (inr p) = absurd (none_of a.work_queue.works p.front p.back p.work number none (ap (λ (q : WorkQueueView). q.works) work_queue ∙ p.works) p.number_is)
    by_both (inr p) (inl (none, r)) = absurd (none_of b.work_queue.works p.front p.back p.work number none (sym (ap (λ (q : WorkQueueView). q.works) work_queue) ∙ p.works) p.number_is)
    by_both (inr p) (inr q) = performs_alike node number effect twin a.work_queue net now other also h some some_too (works_apart net node a.work_queue some_job running there a.on) p
        (subst (λ (w : WorkQueueView). Performs laws node number twin w other also) (sym work_queue) q)

-- Commits.

same_laid : (b c : Backlog Plain) (s : StreamPrefix Plain) → QueueStands (queue_of 0 b) s → QueueStands (queue_of 0 c) s → b.gone ≡ c.gone → b ≡ c
same_laid b c s h k gone =
    let packets : b.packets ≡ c.packets = h.waiting ∙ ap (λ (n : ℕ). drop n s.packets) gone ∙ sym k.waiting in
    let bound : b.bound ≡ c.bound = h.bound ∙ sym k.bound in
    λ i. record { gone = gone i; packets = packets i; bound = bound i }

abbrev gone_first : List ℕ → ℕ → ℕ
gone_first [] n = n
gone_first (m ∷ ms) n = m

abbrev gone_rest : List ℕ → List ℕ
gone_rest [] = []
gone_rest (m ∷ ms) = ms

same_outputs : (bs cs : List (Backlog Plain)) (ss : List (StreamPrefix Plain)) → StandForAll bs ss → StandForAll cs ss → map (λ b. b.gone) bs ≡ map (λ b. b.gone) cs → bs ≡ cs
same_outputs [] [] ss h k gone = refl
same_outputs [] (c ∷ cs) [] h k gone = absurd k
same_outputs [] (c ∷ cs) (s ∷ ss) h k gone = absurd h
same_outputs (b ∷ bs) cs [] h k gone = absurd h
same_outputs (b ∷ bs) [] (s ∷ ss) h k gone = absurd k
same_outputs (b ∷ bs) (c ∷ cs) (s ∷ ss) h k gone =
    ap₂ (λ (x : Backlog Plain) (xs : List (Backlog Plain)). x ∷ xs) (same_laid b c s h.0 k.0 (ap (λ (ns : List ℕ). gone_first ns 0) gone)) (same_outputs bs cs ss h.1 k.1 (ap gone_rest gone))

fronts_one : (before now also : EngineView) (front : Front) → HasFront before now front → HasFront before also front → now ≡ also
fronts_one before now also front h k =
    let outputs : now.outputs ≡ also.outputs = same_outputs now.outputs also.outputs front.outputs h.outputs k.outputs (h.given_up ∙ sym k.given_up) in
    h.others ∙ ap (λ (os : List (Backlog Plain)). (let e : EngineView = record before {
      outputs = os;
      laid = front.laid;
      window = front.window;
      idle = front.idle;
      closed = front.closed;
      fault = option_map (fault_at before.node) front.fault;
    } in e)) outputs ∙ sym k.others

stopped_same : (node : ℕ) (engine : EngineView) (one other : QueueLimits) → one.queues ≡ other.queues → (stopped_by node engine one).queues ≡ (stopped_by node engine other).queues
stopped_same node engine one other same = by_end (has_ended engine)
  where
    by_end : (b : Bool) → (if b then record one { queues = map (stopped node) one.queues } else one).queues ≡ (if b then record other { queues = map (stopped node) other.queues } else other).queues
    by_end true = ap (λ (qs : List Queue). map (stopped node) qs) same
    by_end false = same

-- what an engine's outputs stand for in whole
whole_of : {laws : Laws} (net : NetView) (node : ℕ) (engine : EngineView) → StandsForSome laws net → IsRunning net → node < length net.plan.nodes → slice_get net.engines node ≡ Some engine → (whole : List (StreamPrefix Plain)) × StandForAll engine.outputs whole
unfolding LawfulEngine
whole_of {laws} net node engine h running there at =
    let all = places net h in
    let queues = all.2 in
    let intakes = all.1 in
    let q = found net.work_queues node (omega (arith, there, queues)) in
    let i = found net.intakes node (omega (arith, there, intakes)) in
    let cell = cell_at h.job net node engine i.0 q.0 h.stands running there at i.1 q.1 in
    (cell.lawful_engine.whole, cell.lawful_engine.kept)

commits_alike : (node number : ℕ) (engine : EngineView) (p : PerformedView) (net now other also : NetView) (whole : List (StreamPrefix Plain)) → AreAlike net other → StandForAll engine.outputs whole → CommitsTo node number engine p net now → CommitsTo node number engine p other also → AreAlike now also
commits_alike node number engine p net now other also whole h stands a b =
    let taken : a.taken ≡ b.taken = a.takes ∙ sym b.takes in
    let outputs : StandForAll a.taken.outputs whole = subst (λ (v : EngineView). StandForAll v.outputs whole) (sym a.takes) stands in
    let first = a.commits.front whole outputs in
    let second = subst (λ (v : EngineView). HasFront v b.engine_now (front_laid v.offset (window_with v (outcome_of p)) (front_of v (window_with v (outcome_of p)) whole))) (sym taken) (b.commits.front whole (subst (λ (v : EngineView). StandForAll v.outputs whole) taken outputs)) in
    let engine_now : a.engine_now ≡ b.engine_now = fronts_one a.taken a.engine_now b.engine_now (front_laid a.taken.offset (window_with a.taken (outcome_of p)) (front_of a.taken (window_with a.taken (outcome_of p)) whole)) first second in
    alike_with net other (set net.engines node a.engine_now) (set other.engines node b.engine_now) net.intakes other.intakes net.work_queues other.work_queues (stopped_by node a.engine_now net.limits) (stopped_by node b.engine_now other.limits) now also h
    (ap₂ (λ (es : List EngineView) (v : EngineView). set es node v) h.engines engine_now) h.intakes h.work_queues
    (stopped_same node a.engine_now net.limits other.limits h.queues ∙ ap (λ (v : EngineView). (stopped_by node v other.limits).queues) engine_now) a.now_is b.now_is

committed_one : (node number : ℕ) (shelf : Option PerformedView) (effect twin : Effect) (engine : EngineView) (net now other also : NetView) (whole : List (StreamPrefix Plain)) → AreAlike net other → StandForAll engine.outputs whole → effect ≢ OutOfMemory → twin ≢ OutOfMemory
    → CommittedAt node number shelf effect engine net now → CommittedAt node number shelf twin engine other also → OneOutcome effect twin now also
committed_one node number None effect twin engine net now other also whole h stands some some_too a b = both_rest effect twin net now other also h a b
committed_one node number (Some p) Did Did engine net now other also whole h stands some some_too a b = record { effects = refl; nets = commits_alike node number engine p net now other also whole h stands a b }
committed_one node number (Some p) Idle twin engine net now other also whole h stands some some_too a b = absurd a
committed_one node number (Some p) Did Idle engine net now other also whole h stands some some_too a b = absurd b
committed_one node number (Some p) OutOfMemory twin engine net now other also whole h stands some some_too a b = absurd (some refl)
committed_one node number (Some p) Did OutOfMemory engine net now other also whole h stands some some_too a b = absurd (some_too refl)

commit_one : {laws : Laws} (node number : ℕ) (effect twin : Effect) (net now other also : NetView) → StandsForSome laws net → IsRunning net → node < length net.plan.nodes → AreAlike net other → effect ≢ OutOfMemory → twin ≢ OutOfMemory
    → NodeCommits node number effect net now → NodeCommits node number twin other also → OneOutcome effect twin now also
commit_one {laws} node number effect twin net now other also some_job running there h some some_too a b =
    let engine : a.engine ≡ b.engine = same_at net.engines other.engines node a.engine b.engine h.engines a.at b.at in
    let whole = whole_of net node a.engine some_job running there a.at in
    committed_one node number (shelf_at a.engine number) effect twin a.engine net now other also whole.0 h whole.1 some some_too a.committed
    (subst (λ (v : EngineView). CommittedAt node number (shelf_at v number) twin v other also) (sym engine) b.committed)

-- Relaxing.

full_too : (net other : NetView) → AreAlike net other → IsAnyFull net.limits → IsAnyFull other.limits
full_too net other h full = subst (λ (qs : List Queue). list_any is_full qs ≡ true) h.queues full

relax_one : (effect twin : Effect) (net now other also : NetView) → AreAlike net other → LimitsRelax effect net now → LimitsRelax twin other also → OneOutcome effect twin now also
relax_one effect twin net now other also h (inl (none, r)) (inl (none_too, s)) = both_rest effect twin net now other also h r s
relax_one effect twin net now other also h (inl (none, r)) (inr (full, is, becomes)) = absurd (none (full_too other net (alike_back net other h) full))
relax_one effect twin net now other also h (inr (full, is, becomes)) (inl (none, r)) = absurd (none (full_too net other h full))
relax_one effect twin net now other also h (inr (full, is, becomes)) (inr (full_also, is_too, becomes_too)) = record {
  effects = is ∙ sym is_too;
  nets = alike_with net other net.engines other.engines net.intakes other.intakes net.work_queues other.work_queues (record net.limits { queues = map relaxed net.limits.queues }) (record other.limits { queues = map relaxed other.limits.queues }) now also h
      h.engines h.intakes h.work_queues (ap (λ (qs : List Queue). map relaxed qs) h.queues) becomes becomes_too;
}

-- Events.

pub acts_one : {laws : Laws} (event : Event) (effect twin : Effect) (net now other also : NetView) → StandsForSome laws net → IsRunning net → IsEventOf net event → AreAlike net other → effect ≢ OutOfMemory → twin ≢ OutOfMemory
    → Acts laws event effect net now → Acts laws event twin other also → OneOutcome effect twin now also
acts_one {laws} (Deliver edge) effect twin net now other also some_job running of h some some_too a b = deliver_one edge effect twin net now other also h some some_too a b
acts_one {laws} (Advance node) effect twin net now other also some_job running of h some some_too a b = advance_one node effect twin net now other also h a b
acts_one {laws} (Claim node) effect twin net now other also some_job running of h some some_too a b = claim_one node effect twin net now other also h some some_too a b
acts_one {laws} (Perform node number) effect twin net now other also some_job running of h some some_too a b = perform_one node number effect twin net now other also some_job running of h some some_too a b
acts_one {laws} (Commit node number) effect twin net now other also some_job running of h some some_too a b = commit_one node number effect twin net now other also some_job running of h some some_too a b
acts_one {laws} Relax effect twin net now other also some_job running of h some some_too a b = relax_one effect twin net now other also h a b
