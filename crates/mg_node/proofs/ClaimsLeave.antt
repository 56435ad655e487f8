-- What a claim leaves at the ports of an intake: as many packets are counted as before, and the bounds are the same. Of a set that is
-- claimed, and of an answer of a loopback.
use Rattle.std.proofs.Common.{◌≡◌, ℕ, zero, suc, ◌+◌, ◌==◌, Bool, true, false, List, [], ◌∷◌, length, map, drop, get_or, Option, Some, None, slice_get, if◌then◌else◌, refl, ap, sym, subst, arith}
use Rattle.std.specs.Bool.{OnTrue, OnFalse}
use Rattle.mg_value.specs.Payload.{Plain}
use Rattle.mg_value.specs.Packet.{Stamped}
use Rattle.mg_value.specs.declared.policy.Policy.{Policy}
use Rattle.mg_settled.specs.Prefix.{StreamPrefix}
use Rattle.mg_settled.specs.Loopback.{Reply}
use Rattle.mg_settled.specs.Left.{without as without_at}
use Rattle.mg_stream.specs.Queue.{Waiting, rest_of, count_of, popped}
use Rattle.mg_stream.specs.Pool.{Backlog, empty_backlog, queue_of, queues_of, queue_at}
use Rattle.mg_policy.specs.Inbox.{Gathered, rests}
use Rattle.mg_settled.specs.Left.{after_sets}
use Rattle.mg_loopback.specs.Loopback.{Held, next_reply, without, replied}
use Rattle.mg_node.specs.declared.pending.Pending.{Pending}
use Rattle.mg_node.specs.declared.pending.Pending.TheVariants.{Loop}
use Rattle.mg_node.specs.Views.{IntakeView, EngineView}
use Rattle.mg_node.specs.Ports.{port_queue}
use Rattle.mg_node.specs.IntakeStanding.{Stays}
use Rattle.mg_node.specs.Claims.{TakesAnswer}
use Rattle.mg_node.proofs.IntakesGrow.{all_counted, some_first}

-- Sets.

pub same_counts : (a b : ℕ) (bs cs : List (Backlog Plain)) → map count_of (map (queue_of a) bs) ≡ map count_of (map (queue_of b) cs) → (port : ℕ)
    → count_of (queue_of a (get_or bs port empty_backlog)) ≡ count_of (queue_of b (get_or cs port empty_backlog))
same_counts a b [] [] same port = refl
same_counts a b [] (c ∷ cs) same port = absurd cc
same_counts a b (x ∷ bs) [] same port = absurd cc
same_counts a b (x ∷ bs) (c ∷ cs) same zero = ap (λ (ns : List ℕ). get_or ns 0 0) same
same_counts a b (x ∷ bs) (c ∷ cs) same (suc port) = same_counts a b bs cs (ap (λ (ns : List ℕ). drop 1 ns) same) port

left_bounds : (test : ℕ → Bool) (a b : ℕ) (bs cs : List (Backlog Plain)) → map rest_of (map (queue_of a) bs) ≡ map (without_at test) (map rest_of (map (queue_of b) cs)) → (port : ℕ)
    → (get_or bs port empty_backlog).bound ≡ (get_or cs port empty_backlog).bound
left_bounds test a b [] [] same port = refl
left_bounds test a b [] (c ∷ cs) same port = absurd cc
left_bounds test a b (x ∷ bs) [] same port = absurd cc
left_bounds test a b (x ∷ bs) (c ∷ cs) same zero = ap (λ (ss : List (StreamPrefix Plain)). (get_or ss 0 (rest_of (queue_of a x))).bound) same
left_bounds test a b (x ∷ bs) (c ∷ cs) same (suc port) = left_bounds test a b bs cs (ap (λ (ss : List (StreamPrefix Plain)). drop 1 ss) same) port

pub same_bounds : (A : Type 0) (result : Bool) (policy : Policy) (old new : Gathered) → OnTrue result (rests (queues_of new.pool) ≡ after_sets policy 1 (rests (queues_of old.pool))) → OnFalse result ((new ≡ old) × A) → (port : ℕ)
    → (queue_at new.pool port).bound ≡ (queue_at old.pool port).bound
same_bounds A true policy old new left same port = left_bounds _ new.pool.spare old.pool.spare new.pool.ports old.pool.ports left port
same_bounds A false policy old new left same port = ap (λ (g : Gathered). (queue_at g.pool port).bound) same.0

-- Answers.

without_stays : (previous : Option ℕ) (q : Waiting Plain) → Stays q (without previous q)
without_stays None q = record { count = refl; bound = refl }
without_stays (Some t) q = record { count = (let all = all_counted t q.packets in omega (arith, all)); bound = refl }

popped_stays : (q : Waiting Plain) (p : Stamped Plain) → slice_get q.packets 0 ≡ Some p → Stays q (popped q)
popped_stays q p first = record { count = by_first q.packets first; bound = refl }
  where
    by_first : (ps : List (Stamped Plain)) → slice_get ps 0 ≡ Some p → q.gone + 1 + length (drop 1 ps) ≡ q.gone + length ps
    by_first [] e = absurd cc
    by_first (x ∷ ps) e = omega arith

-- the answer to a packet of MAIN keeps the count and the bound of both ports
pub reply_stays : (held : Held Plain) (r : Reply Plain) → next_reply held ≡ Some r → (port : ℕ) → Stays (port_queue (Loop held) port) (port_queue (Loop (replied held)) port)
reply_stays held r next port = by_port (port == 0)
  where
    by_port : (there : Bool) → Stays (if there then held.loop else held.main) (if there then (replied held).loop else (replied held).main)
    by_port true = without_stays held.previous held.loop
    by_port false = (let first = some_first held r next in popped_stays held.main first.0 first.1)

pub answer_stays : (engine engine_now : EngineView) (intake intake_now : IntakeView) → TakesAnswer engine engine_now intake intake_now → (port : ℕ) → Stays (port_queue intake.waits port) (port_queue intake_now.waits port)
answer_stays engine engine_now intake intake_now t port =
    let here : port_queue (Loop t.held) port ≡ port_queue intake.waits port = ap (λ (w : Pending). port_queue w port) (sym t.waits) in
    let there : port_queue (Loop (replied t.held)) port ≡ port_queue intake_now.waits port = ap (λ (i : IntakeView). port_queue i.waits port) (sym t.intake_is) in
    subst (λ (q : Waiting Plain). Stays (port_queue intake.waits port) q) there
    (subst (λ (q : Waiting Plain). Stays q (port_queue (Loop (replied t.held)) port)) here (reply_stays t.held t.reply t.next port))
