-- The standing of an intake only grows: when packets reach a port, and when sets or answers leave.
use Rattle.mg_calc.specs.Rules.{Laws}
use Rattle.std.proofs.Common.{◌≡◌, ℕ, zero, suc, ◌+◌, ◌==◌, ◌≤◌, Bool, true, false, not, leb, ltb, List, [], ◌∷◌, length, length-append, map, filter, take, drop, get_or, set, Option, Some, None, option_map, slice_get, if◌then◌else◌, refl, ap, sym, subst, arith}
use Rattle.std.specs.Bool.{OnTrue, OnFalse}
use Rattle.std.specs.List.{AllZip}
use Rattle.std.proofs.lemmas.Bool.Decides.{nat_tests}
use Rattle.std.proofs.lemmas.List.Filters.{length-filter_both}
use Rattle.mg_value.specs.Payload.{Plain}
use Rattle.mg_value.specs.Packet.{Stamped}
use Rattle.mg_value.specs.declared.policy.Policy.{Policy}
use Rattle.mg_settled.specs.Prefix.{StreamPrefix}
use Rattle.mg_settled.specs.Loopback.{Reply}
use Rattle.mg_stream.specs.Queue.{Waiting, StandsFor, popped}
use Rattle.mg_stream.specs.Pool.{Backlog, empty_backlog, queue_of, queues_of, queue_at, backlog_of}
use Rattle.mg_policy.specs.Inbox.{Gathered, StandAfter}
use Rattle.mg_loopback.specs.Loopback.{Held, is_settled, next_reply, value_at, without, replied}
use Rattle.mg_node.specs.declared.delivered.Delivered.{Delivered}
use Rattle.mg_node.specs.declared.delivered.Delivered.TheVariants.{Moved, OutOfMemory}
use Rattle.mg_node.specs.declared.pending.Pending.{Pending}
use Rattle.mg_node.specs.declared.pending.Pending.TheVariants.{Sets, Loop}
use Rattle.mg_node.specs.Views.{IntakeView}
use Rattle.mg_node.specs.Intakes.{SomeJobHasIntake}
use Rattle.mg_node.specs.Job.{LoggedJob}
use Rattle.mg_node.specs.Lawful.{HoldsWaits, LawfulIntake}
use Rattle.mg_node.specs.Ports.{port_queue, with_port, with_room}
use Rattle.mg_node.specs.Delivery.{missing, with_packets, delivered, Delivers, AreOfOne}
use Rattle.mg_node.specs.IntakeStanding.{HasGrown, IntakeGrows}
use Rattle.mg_node.proofs.Arriving.{Came, came_packets, came_delivered, came_room}
use Rattle.mg_node.proofs.Growing.{grown_by_itself, grown_further}
use Rattle.mg_node.proofs.FrontGrows.{one_stands}

pub intake_same : (i now : IntakeView) → now ≡ i → IntakeGrows i now
intake_same i now is = subst (λ (v : IntakeView). IntakeGrows i v) (sym is) (record { claimed = omega arith; ports = (λ port. grown_by_itself _) })

pub intake_further : (i j k : IntakeView) → IntakeGrows i j → IntakeGrows j k → IntakeGrows i k
intake_further i j k one two = record {
  claimed = (let a = one.claimed in let b = two.claimed in omega (arith, a, b));
  ports = (λ port. grown_further _ _ _ (one.ports port) (two.ports port));
}

-- Deliveries.

-- the room of a queue doesn't count
any_room : (a b : ℕ) (x : Backlog Plain) → HasGrown (queue_of a x) (queue_of b x)
any_room a b x = record { count = omega arith; bound = omega arith }

set_grown : (a b : ℕ) (bs : List (Backlog Plain)) (i : ℕ) (q : Waiting Plain) → HasGrown (queue_of a (get_or bs i empty_backlog)) q → (port : ℕ)
    → HasGrown (queue_of a (get_or bs port empty_backlog)) (queue_of b (get_or (set bs i (backlog_of q)) port empty_backlog))
set_grown a b [] i q h port = any_room a b empty_backlog
set_grown a b (x ∷ bs) zero q h zero = record { count = h.count; bound = h.bound }
set_grown a b (x ∷ bs) zero q h (suc port) = any_room a b _
set_grown a b (x ∷ bs) (suc i) q h zero = any_room a b x
set_grown a b (x ∷ bs) (suc i) q h (suc port) = set_grown a b bs i q h port

held_grown : (held : Held Plain) (here there : Bool) (q : Waiting Plain) → HasGrown (if here then held.loop else held.main) q
    → HasGrown (if there then held.loop else held.main) (if there then (if here then record held { loop = q } else record held { main = q }).loop else (if here then record held { loop = q } else record held { main = q }).main)
held_grown held true true q h = h
held_grown held true false q h = grown_by_itself held.main
held_grown held false true q h = grown_by_itself held.loop
held_grown held false false q h = h

port_grown : (w : Pending) (port : ℕ) (q : Waiting Plain) → HasGrown (port_queue w port) q → (other : ℕ) → HasGrown (port_queue w other) (port_queue (with_port w port q) other)
port_grown (Sets inbox) port q h other = set_grown inbox.pool.spare q.spare inbox.pool.ports port q h other
port_grown (Loop held) port q h other = held_grown held (port == 0) (other == 0) q h

came_grown : (stream came : StreamPrefix Plain) (old q : Waiting Plain) → StandsFor old came → Came stream came old q → HasGrown old q
came_grown stream came old q stands c =
    (let long = ap length c.further.packets in
    one_stands old q came c.now stands c.stands (omega (arith, long, length-append came.packets c.further.further)) c.further.bound)

waits_grow : (before now : IntakeView) (port : ℕ) (q : Waiting Plain) → HasGrown (port_queue before.waits port) q → now.waits ≡ with_port before.waits port q → now.claimed ≡ before.claimed → IntakeGrows before now
waits_grow before now port q h is claimed = record {
  claimed = omega (arith, claimed);
  ports = (λ other. subst (λ (w : Pending). HasGrown (port_queue before.waits other) (port_queue w other)) (sym is) (port_grown before.waits port q h other));
}

pub deliver_grows : (result : Delivered) (o : Waiting Plain) (port most : ℕ) (before now : IntakeView) → AreOfOne o (port_queue before.waits port) → Delivers result o port most before.waits now.waits → now.claimed ≡ before.claimed → IntakeGrows before now
deliver_grows (Moved packets raised) o port most before now one d claimed =
    let q = port_queue before.waits port in
    let within : packets ≤ length (missing o q) = (let count = d.0 in omega (arith, count)) in
    let spare = (port_queue now.waits port).spare in
    waits_grow before now port (with_room (delivered o q packets) spare)
    (came_grown one.stream one.came q _ one.stands_there (came_room one.stream one.came q (delivered o q packets) spare (came_delivered o q one packets within))) d.1 claimed
deliver_grows (OutOfMemory packets) o port most before now one d claimed =
    let q = port_queue before.waits port in
    let within : packets ≤ length (missing o q) = (let count = d.0 in omega (arith, count)) in
    let spare = (port_queue now.waits port).spare in
    waits_grow before now port (with_room (with_packets q (take packets (missing o q))) spare)
    (came_grown one.stream one.came q _ one.stands_there (came_room one.stream one.came q (with_packets q (take packets (missing o q))) spare (came_packets o q one packets within))) d.1 claimed

-- Claims of sets.

-- queues that stand for the same prefixes have the same counts and bounds
same_stream : (a b : ℕ) (bs cs : List (Backlog Plain)) (ss : List (StreamPrefix Plain)) → AllZip StandsFor (map (queue_of a) bs) ss → AllZip StandsFor (map (queue_of b) cs) ss → (port : ℕ)
    → HasGrown (queue_of a (get_or bs port empty_backlog)) (queue_of b (get_or cs port empty_backlog))
same_stream a b [] [] ss h g port = any_room a b empty_backlog
same_stream a b [] (c ∷ cs) [] h g port = absurd g
same_stream a b [] (c ∷ cs) (s ∷ ss) h g port = absurd h
same_stream a b (x ∷ bs) cs [] h g port = absurd h
same_stream a b (x ∷ bs) [] (s ∷ ss) h g port = absurd g
same_stream a b (x ∷ bs) (c ∷ cs) (s ∷ ss) h g zero = one_stands (queue_of a x) (queue_of b c) s s h.0 g.0 (omega arith) (omega arith)
same_stream a b (x ∷ bs) (c ∷ cs) (s ∷ ss) h g (suc port) = same_stream a b bs cs ss h.1 g.1 port

pub set_leaves : (A B : Type 0) (result : Bool) (policy : Policy) (k : ℕ) (old new : Gathered) (ss : List (StreamPrefix Plain)) → StandAfter policy k (queues_of old.pool) ss → OnTrue result (A × StandAfter policy (k + 1) (queues_of new.pool) ss) → OnFalse result ((new ≡ old) × B)
    → (port : ℕ) → HasGrown (queue_at old.pool port) (queue_at new.pool port)
set_leaves A B true policy k old new ss h next same port = same_stream old.pool.spare new.pool.spare old.pool.ports new.pool.ports ss h.each next.1.each port
set_leaves A B false policy k old new ss h next same port = subst (λ (g : Gathered). HasGrown (queue_at old.pool port) (queue_at g.pool port)) (sym same.0) (grown_by_itself (queue_at old.pool port))

-- a set is claimed of an intake
abbrev PortsGrow : Pending → Pending → Type 0
PortsGrow old now = (laws : Laws) (job : LoggedJob laws) (streams : List (StreamPrefix Plain)) (consumer k port : ℕ) → HoldsWaits job streams consumer k old → HasGrown (port_queue old port) (port_queue now port)

taking_grows_for : {laws : Laws} (job : LoggedJob laws) (consumer : ℕ) (view : IntakeView) (now : Pending) → LawfulIntake job consumer view → PortsGrow view.waits now → IntakeGrows view (record { claimed = view.claimed + 1; waits = now })
unfolding LawfulIntake
taking_grows_for {laws} job consumer view now h grow = record { claimed = omega arith; ports = (λ port. grow laws job h.streams consumer view.claimed port h.holds) }

pub taking_grows : (view : IntakeView) (now : Pending) → SomeJobHasIntake view → PortsGrow view.waits now → IntakeGrows view (record { claimed = view.claimed + 1; waits = now })
taking_grows view now some grow = taking_grows_for some.job some.consumer view now some.lawful grow

-- Answers.

-- what is at or below a time, and what is above, is all
pub all_counted : (t : ℕ) (ps : List (Stamped Plain)) → length (filter (λ p. leb p.at t) ps) + length (filter (λ p. ltb t p.at) ps) ≡ length ps
all_counted t ps = length-filter_both (λ (p : Stamped Plain). leb p.at t) (λ (p : Stamped Plain). ltb t p.at) (λ p. other p.at) ps
  where
    other : (n : ℕ) → ltb t n ≡ not (leb n t)
    other n = grind (arith, nat_tests)

without_grown : (previous : Option ℕ) (q : Waiting Plain) → HasGrown q (without previous q)
without_grown None q = grown_by_itself q
without_grown (Some t) q = record { count = (let all = all_counted t q.packets in omega (arith, all)); bound = omega arith }

popped_grown : (q : Waiting Plain) (p : Stamped Plain) → slice_get q.packets 0 ≡ Some p → HasGrown q (popped q)
popped_grown q p first = record { count = by_first q.packets first; bound = omega arith }
  where
    by_first : (ps : List (Stamped Plain)) → slice_get ps 0 ≡ Some p → q.gone + length ps ≤ q.gone + 1 + length (drop 1 ps)
    by_first [] e = absurd cc
    by_first (x ∷ ps) e = omega arith

-- an answer is to the first packet of MAIN
pub some_first : (held : Held Plain) (r : Reply Plain) → next_reply held ≡ Some r → (p : Stamped Plain) × (slice_get held.main.packets 0 ≡ Some p)
some_first held r next = by_test (is_settled held) (slice_get held.main.packets 0) next
  where
    by_test : (settled : Bool) (first : Option (Stamped Plain)) → (if settled then option_map (λ p. (let a : Reply Plain = record { at = p.at; value = value_at held.previous held.loop.packets } in a)) first else None) ≡ Some r → (p : Stamped Plain) × (first ≡ Some p)
    by_test true None e = absurd cc
    by_test true (Some p) e = (p, refl)
    by_test false first e = absurd cc

pub reply_grows : (held : Held Plain) (r : Reply Plain) → next_reply held ≡ Some r → (port : ℕ) → HasGrown (port_queue (Loop held) port) (port_queue (Loop (replied held)) port)
reply_grows held r next port = by_port (port == 0)
  where
    by_port : (there : Bool) → HasGrown (if there then held.loop else held.main) (if there then (replied held).loop else (replied held).main)
    by_port true = without_grown held.previous held.loop
    by_port false = (let first = some_first held r next in popped_grown held.main first.0 first.1)
