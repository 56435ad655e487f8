-- What waits in queues without room: what is claimed, delivered and told of it is the same.
use Rattle.std.proofs.Common.{◌≡◌, ℕ, suc, ◌+◌, ◌<◌, ◌==◌, nat_lt, min, Bool, true, false, List, [], ◌∷◌, map, take, length, Option, Some, None, option_map, slice_get, if◌then◌else◌, IsSomeAnd, ap, ap₂, sym, refl, subst, ◌∙◌, arith}
use Rattle.std.specs.Prelude.{IsTrue, slice_index_or}
use Rattle.std.proofs.lemmas.Option.{same_Some, get_or_from_slice_get}
use Rattle.mg_time.specs.Time.{done}
use Rattle.mg_value.specs.Packet.{Stamped}
use Rattle.mg_value.specs.Payload.{Plain}
use Rattle.mg_value.specs.declared.policy.Policy.{Policy}
use Rattle.mg_settled.specs.Prefix.{StreamPrefix}
use Rattle.mg_settled.specs.Settled.{settled_sets, reach, port_of}
use Rattle.mg_settled.specs.Left.{leads, after_sets}
use Rattle.mg_settled.specs.Loopback.{Reply}
use Rattle.mg_stream.specs.Queue.{Waiting, rest_of, count_of, with_packet, raised_to, popped}
use Rattle.mg_stream.specs.Pool.{Backlog, empty_backlog, queue_of, queues_of}
use Rattle.mg_loopback.specs.Loopback.{Held, is_settled, next_reply, value_at, without, replied}
use Rattle.mg_policy.specs.Inbox.{rests, IsOver, Tells}
use Rattle.mg_policy.specs.declared.readiness.Readiness.{Readiness}
use Rattle.mg_policy.specs.declared.readiness.Readiness.TheVariants.{Ready, Close, NotReady}
use Rattle.mg_policy.proofs.Readinesses.{one_readiness}
use Rattle.mg_calc.proofs.Earlier.{get_map}
use Rattle.mg_node.specs.declared.pending.Pending.{Pending}
use Rattle.mg_node.specs.declared.pending.Pending.TheVariants.{Sets, Loop}
use Rattle.mg_node.specs.declared.delivered.Delivered.TheVariants.{Moved}
use Rattle.mg_node.specs.Delivery.{missing, with_packets, delivered, Delivers}
use Rattle.mg_node.specs.Intakes.{next_set_of, IsLeft}
use Rattle.mg_node.specs.Ports.{ports_in, port_queue, with_port, with_room, IsNext, next_time, horizon_of}
use Rattle.mg_sched.specs.Places.{lengths_of}
use Rattle.mg_sched.specs.SameNets.{roomless, bare_held, bare_waits}

-- Lists.

-- two lists are the same if they have the same at each place
pub lists_same : {X : Type 0} (xs ys : List X) → length xs ≡ length ys → ((i : ℕ) (x y : X) → slice_get xs i ≡ Some x → slice_get ys i ≡ Some y → x ≡ y) → xs ≡ ys
lists_same {X} [] [] long each = refl
lists_same {X} [] (y ∷ ys) long each = absurd (omega (arith, long))
lists_same {X} (x ∷ xs) [] long each = absurd (omega (arith, long))
lists_same {X} (x ∷ xs) (y ∷ ys) long each =
    ap₂ (λ (z : X) (zs : List X). z ∷ zs) (each 0 x y refl refl) (lists_same xs ys (omega (arith, long)) (λ i z w at at_too. each (suc i) z w at at_too))

-- Ports.

pub bare_port : (waits : Pending) (port : ℕ) → roomless (port_queue waits port) ≡ port_queue (bare_waits waits) port
bare_port (Sets inbox) port = refl
bare_port (Loop held) port = by_port (port == 0)
  where
    by_port : (b : Bool) → roomless (if b then held.loop else held.main) ≡ (if b then roomless held.loop else roomless held.main)
    by_port true = refl
    by_port false = refl

pub same_port : (one other : Pending) (port : ℕ) → bare_waits one ≡ bare_waits other → roomless (port_queue one port) ≡ roomless (port_queue other port)
same_port one other port same = bare_port one port ∙ ap (λ (w : Pending). port_queue w port) same ∙ sym (bare_port other port)

bare_with_port : (waits : Pending) (port : ℕ) (q : Waiting Plain) → bare_waits (with_port waits port q) ≡ with_port (bare_waits waits) port (roomless q)
bare_with_port (Sets inbox) port q = refl
bare_with_port (Loop held) port q = ap Loop (by_port (port == 0))
  where
    by_port : (b : Bool) → bare_held (if b then record held { loop = q } else record held { main = q }) ≡ (if b then record (bare_held held) { loop = roomless q } else record (bare_held held) { main = roomless q })
    by_port true = refl
    by_port false = refl

-- Deliveries.

bare_packets : (q : Waiting Plain) (ps : List (Stamped Plain)) → roomless (with_packets q ps) ≡ with_packets (roomless q) ps
bare_packets q [] = refl
bare_packets q (p ∷ ps) = bare_packets (with_packet q p) ps

bare_delivered : (output port : Waiting Plain) (n : ℕ) → roomless (delivered output port n) ≡ delivered output (roomless port) n
bare_delivered output port n = by_all (n == length (missing output port))
  where
    by_all : (b : Bool) → roomless (if b then raised_to (with_packets port (missing output port)) output.bound else with_packets port (take n (missing output port)))
        ≡ (if b then raised_to (with_packets (roomless port) (missing output port)) output.bound else with_packets (roomless port) (take n (missing output port)))
    by_all true = ap (λ (q : Waiting Plain). raised_to q output.bound) (bare_packets port (missing output port))
    by_all false = bare_packets port (take n (missing output port))

-- what waits after a delivery, in queues without room
bare_now : (output : Waiting Plain) (port n spare : ℕ) (before now : Pending) → now ≡ with_port before port (with_room (delivered output (port_queue before port) n) spare)
    → bare_waits now ≡ with_port (bare_waits before) port (delivered output (port_queue (bare_waits before) port) n)
bare_now output port n spare before now is =
    ap bare_waits is
    ∙ bare_with_port before port (with_room (delivered output (port_queue before port) n) spare)
    ∙ ap (λ (q : Waiting Plain). with_port (bare_waits before) port q) (bare_delivered output (port_queue before port) n)
    ∙ ap (λ (q : Waiting Plain). with_port (bare_waits before) port (delivered output q n)) (bare_port before port)

-- what was missing, and the bound after some of it
same_missing : (output q r : Waiting Plain) → roomless q ≡ roomless r → missing output q ≡ missing output r
same_missing output q r same = ap (λ (w : Waiting Plain). missing output w) same

same_bound : (output q r : Waiting Plain) (n : ℕ) → roomless q ≡ roomless r → (with_packets q (take n (missing output q))).bound ≡ (with_packets r (take n (missing output r))).bound
same_bound output q r n same =
    ap (λ (w : Waiting Plain). w.bound) (bare_packets q (take n (missing output q)))
    ∙ ap (λ (w : Waiting Plain). (with_packets w (take n (missing output w))).bound) same
    ∙ sym (ap (λ (w : Waiting Plain). w.bound) (bare_packets r (take n (missing output r))))

-- two deliveries of the same to the same are the same
pub record DeliveredAlike (packets others : ℕ) (raised also : Bool) (now twin : Pending) : Type 0 where
  pub count : packets ≡ others
  pub moved : raised ≡ also
  pub waits : bare_waits now ≡ bare_waits twin

pub delivers_one : (output : Waiting Plain) (port most packets others : ℕ) (raised also : Bool) (before now twin twin_now : Pending) → bare_waits before ≡ bare_waits twin
    → Delivers (Moved packets raised) output port most before now → Delivers (Moved others also) output port most twin twin_now → DeliveredAlike packets others raised also now twin_now
delivers_one output port most packets others raised also before now twin twin_now same d k =
    let q = same_port before twin port same in
    let count : packets ≡ others = d.0 ∙ ap (λ (ps : List (Stamped Plain)). min most (length ps)) (same_missing output (port_queue before port) (port_queue twin port) q) ∙ sym k.0 in
    let waits : bare_waits now ≡ bare_waits twin_now =
    bare_now output port packets (port_queue now port).spare before now d.1
    ∙ ap₂ (λ (w : Pending) (n : ℕ). with_port w port (delivered output (port_queue w port) n)) same count
    ∙ sym (bare_now output port others (port_queue twin_now port).spare twin twin_now k.1) in
    let low = same_bound output (port_queue before port) (port_queue twin port) packets q
    ∙ ap (λ (n : ℕ). (with_packets (port_queue twin port) (take n (missing output (port_queue twin port)))).bound) count in
    let high = ap (λ (w : Waiting Plain). w.bound) (same_port now twin_now port waits) in
    record { count = count; moved = d.2 ∙ ap₂ nat_lt low high ∙ sym k.2; waits = waits }

-- Lengths.

bare_lengths : (waits : Pending) → lengths_of waits ≡ lengths_of (bare_waits waits)
bare_lengths (Sets inbox) = refl
bare_lengths (Loop held) = refl

pub same_lengths : (one other : Pending) → bare_waits one ≡ bare_waits other → lengths_of one ≡ lengths_of other
same_lengths one other same = bare_lengths one ∙ ap lengths_of same ∙ sym (bare_lengths other)

-- What is told of what waits.

bare_rests : (s t : ℕ) (bs : List (Backlog Plain)) → rests (map (queue_of s) bs) ≡ rests (map (queue_of t) bs)
bare_rests s t [] = refl
bare_rests s t (b ∷ bs) = ap (λ (ss : List (StreamPrefix Plain)). rest_of (queue_of s b) ∷ ss) (bare_rests s t bs)

bare_horizon : (waits : Pending) → horizon_of waits ≡ horizon_of (bare_waits waits)
bare_horizon (Sets inbox) = ap (λ (ss : List (StreamPrefix Plain)). next_time (slice_get (settled_sets inbox.policy ss) 0) (reach inbox.policy ss)) (bare_rests inbox.pool.spare 0 inbox.pool.ports)
bare_horizon (Loop held) = refl

pub same_horizon : (one other : Pending) → bare_waits one ≡ bare_waits other → horizon_of one ≡ horizon_of other
same_horizon one other same = bare_horizon one ∙ ap horizon_of same ∙ sym (bare_horizon other)

bare_next_set : (waits : Pending) → next_set_of waits ≡ next_set_of (bare_waits waits)
bare_next_set (Sets inbox) = ap (λ (ss : List (StreamPrefix Plain)). slice_get (settled_sets inbox.policy ss) 0) (bare_rests inbox.pool.spare 0 inbox.pool.ports)
bare_next_set (Loop held) = refl

pub same_next_set : (one other : Pending) → bare_waits one ≡ bare_waits other → next_set_of one ≡ next_set_of other
same_next_set one other same = bare_next_set one ∙ ap next_set_of same ∙ sym (bare_next_set other)

over_same : (policy : Policy) (qs rs : List (Waiting Plain)) → rests qs ≡ rests rs → IsOver policy qs → IsOver policy rs
over_same policy qs rs same over = record {
  empty = subst (λ (ss : List (StreamPrefix Plain)). (i : ℕ) → i < length ss → IsTrue (leads policy (length ss) i) → (port_of ss i).packets ≡ []) same over.empty;
  closed = subst (λ (ss : List (StreamPrefix Plain)). reach policy ss ≡ done) same over.closed;
}

tells_same : (policy : Policy) (r : Readiness) (qs rs : List (Waiting Plain)) → rests qs ≡ rests rs → Tells policy r qs → Tells policy r rs
tells_same policy (Ready at) qs rs same h = subst (λ (ss : List (StreamPrefix Plain)). IsSomeAnd (slice_get (settled_sets policy ss) 0) (λ e. e.at ≡ at)) same h
tells_same policy Close qs rs same h = over_same policy qs rs same h
tells_same policy NotReady qs rs same h =
    (subst (λ (ss : List (StreamPrefix Plain)). slice_get (settled_sets policy ss) 0 ≡ None) same h.0, λ over. h.1 (over_same policy rs qs (sym same) over))

bare_next : (waits : Pending) (r : Readiness) → IsNext waits r → IsNext (bare_waits waits) r
bare_next (Sets inbox) r h = tells_same inbox.policy r (queues_of inbox.pool) (map (queue_of 0) inbox.pool.ports) (bare_rests inbox.pool.spare 0 inbox.pool.ports) h
bare_next (Loop held) (Ready at) h = h
bare_next (Loop held) Close h = h
bare_next (Loop held) NotReady h = h

no_reply : (held : Held Plain) → held.main.packets ≡ [] → next_reply held ≡ None
no_reply held none = by_settled (is_settled held)
  where
    by_settled : (b : Bool) → (if b then option_map (λ p. (let r : Reply Plain = record { at = p.at; value = value_at held.previous held.loop.packets } in r)) (slice_get held.main.packets 0) else None) ≡ None
    by_settled true = ap (λ (ps : List (Stamped Plain)). option_map (λ p. (let r : Reply Plain = record { at = p.at; value = value_at held.previous held.loop.packets } in r)) (slice_get ps 0)) none
    by_settled false = refl

reply_not_none : (o : Option (Reply Plain)) (at : ℕ) → IsSomeAnd o (λ r. r.at ≡ at) → o ≡ None → ⊥
reply_not_none None at h none = h
reply_not_none (Some r) at h none = absurd cc

reply_time : (o : Option (Reply Plain)) (s t : ℕ) → IsSomeAnd o (λ r. r.at ≡ s) → IsSomeAnd o (λ r. r.at ≡ t) → s ≡ t
reply_time None s t h k = absurd h
reply_time (Some r) s t h k = sym h ∙ k

-- one readiness fits what waits
one_next : (waits : Pending) (a b : Readiness) → IsNext waits a → IsNext waits b → a ≡ b
one_next (Sets inbox) a b h k = one_readiness inbox.policy a b (queues_of inbox.pool) h k
one_next (Loop held) (Ready s) (Ready t) h k = ap Ready (reply_time (next_reply held) s t h k)
one_next (Loop held) (Ready s) Close h k = absurd (reply_not_none (next_reply held) s h (no_reply held k.0))
one_next (Loop held) (Ready s) NotReady h k = absurd (reply_not_none (next_reply held) s h k.0)
one_next (Loop held) Close (Ready t) h k = absurd (reply_not_none (next_reply held) t k (no_reply held h.0))
one_next (Loop held) Close Close h k = refl
one_next (Loop held) Close NotReady h k = absurd (k.1 h)
one_next (Loop held) NotReady (Ready t) h k = absurd (reply_not_none (next_reply held) t k h.0)
one_next (Loop held) NotReady Close h k = absurd (h.1 k)
one_next (Loop held) NotReady NotReady h k = refl

pub same_next : (one other : Pending) (a b : Readiness) → bare_waits one ≡ bare_waits other → IsNext one a → IsNext other b → a ≡ b
same_next one other a b same h k = one_next (bare_waits other) a b (subst (λ (w : Pending). IsNext w a) same (bare_next one a h)) (bare_next other b k)

-- What is left once the next set is claimed.

-- a backlog, from what its queue tells
same_backlog : (b c : Backlog Plain) → b.gone ≡ c.gone → b.packets ≡ c.packets → b.bound ≡ c.bound → b ≡ c
same_backlog b c gone packets bound = λ i. record { gone = gone i; packets = packets i; bound = bound i }

rest_there : (spare : ℕ) (bs : List (Backlog Plain)) (i : ℕ) (b : Backlog Plain) → slice_get bs i ≡ Some b → slice_get (rests (map (queue_of spare) bs)) i ≡ Some (rest_of (queue_of spare b))
rest_there spare bs i b at = get_map rest_of (map (queue_of spare) bs) i (queue_of spare b) (get_map (queue_of spare) bs i b at)

-- ports with the same rests and counts are the same
same_ports : (s t : ℕ) (bs cs : List (Backlog Plain)) → length bs ≡ length cs → rests (map (queue_of s) bs) ≡ rests (map (queue_of t) cs)
    → ((i : ℕ) → count_of (queue_of s (slice_index_or bs i empty_backlog)) ≡ count_of (queue_of t (slice_index_or cs i empty_backlog))) → bs ≡ cs
same_ports s t bs cs long same counts = lists_same bs cs long (λ i b c at at_too.
    let rest : rest_of (queue_of s b) ≡ rest_of (queue_of t c) =
    same_Some _ _ (sym (rest_there s bs i b at) ∙ ap (λ (ss : List (StreamPrefix Plain)). slice_get ss i) same ∙ rest_there t cs i c at_too) in
    let packets : b.packets ≡ c.packets = ap (λ (p : StreamPrefix Plain). p.packets) rest in
    let bound : b.bound ≡ c.bound = ap (λ (p : StreamPrefix Plain). p.bound) rest in
    let count : b.gone + length b.packets ≡ c.gone + length c.packets =
    sym (ap (λ (d : Backlog Plain). d.gone + length d.packets) (get_or_from_slice_get bs i b empty_backlog at)) ∙ counts i ∙ ap (λ (d : Backlog Plain). d.gone + length d.packets) (get_or_from_slice_get cs i c empty_backlog at_too) in
    let many = ap (λ (ps : List (Stamped Plain)). length ps) packets in
    same_backlog b c (omega (arith, count, many)) packets bound)

abbrev policy_of : Pending → Policy → Policy
policy_of (Sets inbox) other = inbox.policy
policy_of (Loop held) other = other

abbrev ports_of : Pending → List (Backlog Plain)
ports_of (Sets inbox) = inbox.pool.ports
ports_of (Loop held) = []

pub same_left : (one one_now other other_now : Pending) → bare_waits one ≡ bare_waits other → IsLeft one one_now → IsLeft other other_now → ports_in one_now ≡ ports_in one → ports_in other_now ≡ ports_in other
    → ((port : ℕ) → count_of (port_queue one_now port) ≡ count_of (port_queue one port)) → ((port : ℕ) → count_of (port_queue other_now port) ≡ count_of (port_queue other port)) → bare_waits one_now ≡ bare_waits other_now
same_left (Sets a) (Sets b) (Sets c) (Sets d) same h k ports ports_too counts counts_too =
    let policy : a.policy ≡ c.policy = ap (λ (w : Pending). policy_of w a.policy) same in
    let before : a.pool.ports ≡ c.pool.ports = ap ports_of same in
    let rest : rests (queues_of b.pool) ≡ rests (queues_of d.pool) =
    h.1 ∙ ap (λ (ss : List (StreamPrefix Plain)). after_sets a.policy 1 ss) (bare_rests a.pool.spare c.pool.spare a.pool.ports)
    ∙ ap₂ (λ (p : Policy) (bs : List (Backlog Plain)). after_sets p 1 (rests (map (queue_of c.pool.spare) bs))) policy before ∙ sym k.1 in
    let long : length b.pool.ports ≡ length d.pool.ports = ports ∙ ap (λ (bs : List (Backlog Plain)). length bs) before ∙ sym ports_too in
    let same_now : b.pool.ports ≡ d.pool.ports = same_ports b.pool.spare d.pool.spare b.pool.ports d.pool.ports long rest (λ i.
    counts i ∙ ap (λ (bs : List (Backlog Plain)). (slice_index_or bs i empty_backlog).gone + length (slice_index_or bs i empty_backlog).packets) before ∙ sym (counts_too i)) in
    let policy_now : b.policy ≡ d.policy = h.0 ∙ policy ∙ sym k.0 in
    λ i. Sets (record { policy = policy_now i; pool = record { ports = same_now i; spare = 0 } })
same_left (Sets a) (Sets b) (Sets c) (Loop d) same h k ports ports_too counts counts_too = absurd k
same_left (Sets a) (Sets b) (Loop c) other_now same h k ports ports_too counts counts_too = absurd k
same_left (Sets a) (Loop b) other other_now same h k ports ports_too counts counts_too = absurd h
same_left (Loop a) one_now other other_now same h k ports ports_too counts counts_too = absurd h

-- What is left once a loopback has answered.

bare_without : (o : Option ℕ) (q : Waiting Plain) → roomless (without o q) ≡ roomless (without o (roomless q))
bare_without None q = refl
bare_without (Some t) q = refl

bare_replied : (held : Held Plain) → bare_held (replied held) ≡ bare_held (replied (bare_held held))
bare_replied held = ap (λ (q : Waiting Plain). (let h : Held Plain = record { loop = q; main = roomless (popped held.main); previous = option_map (λ p. p.at) (slice_get held.main.packets 0) } in h)) (bare_without held.previous held.loop)

abbrev held_in : Pending → Held Plain → Held Plain
held_in (Sets inbox) held = held
held_in (Loop held) other = held

pub same_held : (held other : Held Plain) → bare_waits (Loop held) ≡ bare_waits (Loop other) → bare_held held ≡ bare_held other
same_held held other same = ap (λ (w : Pending). held_in w (bare_held held)) same

pub same_reply : (held other : Held Plain) → bare_held held ≡ bare_held other → next_reply held ≡ next_reply other
same_reply held other same = ap (λ (h : Held Plain). next_reply h) same

pub same_replied : (held other : Held Plain) → bare_held held ≡ bare_held other → bare_waits (Loop (replied held)) ≡ bare_waits (Loop (replied other))
same_replied held other same = ap Loop (bare_replied held ∙ ap (λ (h : Held Plain). bare_held (replied h)) same ∙ sym (bare_replied other))
