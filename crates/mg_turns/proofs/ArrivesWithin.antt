-- A delivery brings no more to a port than was laid, and leaves the other ports as they are.
use Rattle.std.proofs.Common.{◌≡◌, ◌≢◌, ℕ, zero, suc, ◌+◌, ◌-◌, ◌<◌, ◌≤◌, ◌==◌, Bool, true, false, List, [], ◌∷◌, length, length-append, length-drop, take, All, ap, sym, refl, subst, ◌∙◌, arith, if◌then◌else◌}
use Rattle.std.specs.List.{AllByRecursion}
use Rattle.std.proofs.lemmas.Bool.{eqb-true, eqb-false}
use Rattle.std.proofs.lemmas.List.{length-take}
use Rattle.std.proofs.lemmas.List.Elements.{All-from_recursion, recursion_from_All, All-take, All-drop}
use Rattle.mg_time.specs.Time.{next}
use Rattle.mg_value.specs.Payload.{Plain}
use Rattle.mg_value.specs.Packet.{Stamped}
use Rattle.mg_settled.specs.Prefix.{Ascends}
use Rattle.mg_settled.proofs.Climbs.{Climbs, prefix-climbs, Climbs-most}
use Rattle.mg_stream.specs.Queue.{Waiting, IsLike, count_of, with_packet, raised_to}
use Rattle.mg_stream.proofs.Laid.{other_like}
use Rattle.mg_loopback.specs.Loopback.{Held}
use Rattle.mg_node.specs.declared.delivered.Delivered.{Delivered}
use Rattle.mg_node.specs.declared.delivered.Delivered.TheVariants.{Moved, OutOfMemory}
use Rattle.mg_node.specs.declared.pending.Pending.{Pending}
use Rattle.mg_node.specs.declared.pending.Pending.TheVariants.{Sets, Loop}
use Rattle.mg_node.specs.Ports.{ports_in, port_queue, with_port, with_room}
use Rattle.mg_node.specs.Delivery.{missing, with_packets, delivered, Delivers, AreOfOne}
use Rattle.mg_node.specs.IntakeStanding.{HasGrown}
use Rattle.mg_node.proofs.PortSteps.{queue-there}
use Rattle.mg_turns.specs.Code.Counts.{packets_in}

-- Counts and bounds.

pub packets_count : (q : Waiting Plain) (ps : List (Stamped Plain)) → count_of (with_packets q ps) ≡ count_of q + length ps
packets_count q [] = omega arith
packets_count q (p ∷ ps) = (let later = packets_count (with_packet q p) ps in omega (arith, later, length-append q.packets (p ∷ [])))

packets_bound : (b : ℕ) (q : Waiting Plain) (ps : List (Stamped Plain)) → q.bound ≤ b → AllByRecursion (λ p. next p.at ≤ b) ps → (with_packets q ps).bound ≤ b
packets_bound b q [] low below = low
packets_bound b q (p ∷ ps) low below = packets_bound b (with_packet q p) ps below.0 below.1

-- what may follow each packet of a prefix isn't above its bound
all_below : (a b : ℕ) (ps : List (Stamped Plain)) → Climbs a ps b → Ascends ps b → AllByRecursion (λ p. next p.at ≤ b) ps
all_below a b [] climbs rises = tt
all_below a b (p ∷ ps) climbs rises =
    (let first = rises.0 in let most = Climbs-most (p.at + 1) b ps climbs.1 in (omega (arith, first, most), all_below (p.at + 1) b ps climbs.1 rises.1))

missing_below : (o q : Waiting Plain) → AreOfOne o q → All (λ p. next p.at ≤ o.bound) (missing o q)
missing_below o q one =
    let Below : Stamped Plain → Type 0 = λ p. next p.at ≤ o.bound in
    let laid = one.laid in
    let whole : All Below laid.packets = subst (λ (b : ℕ). All (λ (p : Stamped Plain). next p.at ≤ b) laid.packets) (sym one.stands.bound)
    (All-from_recursion (λ (p : Stamped Plain). next p.at ≤ laid.bound) laid.packets (all_below 0 laid.bound laid.packets (prefix-climbs laid one.stands.prefix) one.stands.prefix.ascends)) in
    All-drop Below (count_of q - o.gone) o.packets (subst (All Below) (sym one.stands.waiting) (All-drop Below o.gone laid.packets whole))

packets_within : (o q : Waiting Plain) (ps : List (Stamped Plain)) → AreOfOne o q → HasGrown q o → length ps ≤ length (missing o q) → All (λ p. next p.at ≤ o.bound) ps → HasGrown (with_packets q ps) o
packets_within o q ps one grown few below =
    let count = packets_count q ps in
    let held = one.held in
    let before = grown.count in
    record {
      count = omega (arith, count, held, before, few, length-drop (count_of q - o.gone) o.packets);
      bound = packets_bound o.bound q ps grown.bound (recursion_from_All (λ (p : Stamped Plain). next p.at ≤ o.bound) ps below);
    }

first_within : (o q : Waiting Plain) (n : ℕ) → AreOfOne o q → HasGrown q o → HasGrown (with_packets q (take n (missing o q))) o
first_within o q n one grown =
    packets_within o q (take n (missing o q)) one grown (omega (arith, length-take n (missing o q))) (All-take (λ (p : Stamped Plain). next p.at ≤ o.bound) n (missing o q) (missing_below o q one))

delivered_within : (o q : Waiting Plain) (n : ℕ) → AreOfOne o q → HasGrown q o → HasGrown (delivered o q n) o
delivered_within o q n one grown = by_test (n == length (missing o q))
  where
    all : HasGrown (with_packets q (missing o q)) o
    all = packets_within o q (missing o q) one grown (omega arith) (missing_below o q one)

    by_test : (b : Bool) → HasGrown (if b then raised_to (with_packets q (missing o q)) o.bound else with_packets q (take n (missing o q))) o
    by_test true = record { count = all.count; bound = (let low = all.bound in omega (arith, low)) }
    by_test false = first_within o q n one grown

-- the room doesn't count
room_within : (o q now : Waiting Plain) (spare : ℕ) → now ≡ with_room q spare → HasGrown q o → HasGrown now o
room_within o q now spare is grown = subst (λ (r : Waiting Plain). HasGrown r o) (sym is) (record { count = grown.count; bound = grown.bound })

pub arrives_within : (result : Delivered) (o : Waiting Plain) (port most : ℕ) (before now : Pending) → AreOfOne o (port_queue before port) → port < ports_in before → HasGrown (port_queue before port) o → Delivers result o port most before now
    → HasGrown (port_queue now port) o
arrives_within (Moved packets raised) o port most before now one there grown d =
    let q = port_queue before port in
    let spare = (port_queue now port).spare in
    room_within o (delivered o q packets) (port_queue now port) spare (ap (λ (w : Pending). port_queue w port) d.1 ∙ queue-there before port (with_room (delivered o q packets) spare) there) (delivered_within o q packets one grown)
arrives_within (OutOfMemory packets) o port most before now one there grown d =
    let q = port_queue before port in
    let spare = (port_queue now port).spare in
    let last = with_packets q (take packets (missing o q)) in
    room_within o last (port_queue now port) spare (ap (λ (w : Pending). port_queue w port) d.1 ∙ queue-there before port (with_room last spare) there) (first_within o q packets one grown)

delivered_count : (o q : Waiting Plain) (n : ℕ) → n ≤ length (missing o q) → count_of (delivered o q n) ≡ count_of q + n
delivered_count o q n few = by_test (n == length (missing o q)) refl
  where
    by_test : (b : Bool) → (n == length (missing o q)) ≡ b → count_of (if b then raised_to (with_packets q (missing o q)) o.bound else with_packets q (take n (missing o q))) ≡ count_of q + n
    by_test true e = omega (arith, packets_count q (missing o q), eqb-true n (length (missing o q)) e)
    by_test false e = omega (arith, packets_count q (take n (missing o q)), length-take n (missing o q), few)

-- the number of packets that came to a port rises by the number that the delivery tells
pub arrives_count : (result : Delivered) (o : Waiting Plain) (port most : ℕ) (before now : Pending) → port < ports_in before → Delivers result o port most before now
    → count_of (port_queue now port) ≡ count_of (port_queue before port) + packets_in result
arrives_count (Moved packets raised) o port most before now there d =
    let q = port_queue before port in
    let spare = (port_queue now port).spare in
    let is : port_queue now port ≡ with_room (delivered o q packets) spare = ap (λ (w : Pending). port_queue w port) d.1 ∙ queue-there before port (with_room (delivered o q packets) spare) there in
    let least = d.0 in
    ap count_of is ∙ delivered_count o q packets (omega (arith, least))
arrives_count (OutOfMemory packets) o port most before now there d =
    let q = port_queue before port in
    let spare = (port_queue now port).spare in
    let last = with_packets q (take packets (missing o q)) in
    let is : port_queue now port ≡ with_room last spare = ap (λ (w : Pending). port_queue w port) d.1 ∙ queue-there before port (with_room last spare) there in
    let least = d.0 in
    ap count_of is ∙ omega (arith, packets_count q (take packets (missing o q)), length-take packets (missing o q), least)

-- Other ports.

held_other : (held : Held Plain) (a b : Bool) (q : Waiting Plain) → (a ≡ true → b ≡ true → ⊥) → (a ≡ false → b ≡ false → ⊥)
    → IsLike (if b then (if a then record held { loop = q } else record held { main = q }).loop else (if a then record held { loop = q } else record held { main = q }).main) (if b then held.loop else held.main)
held_other held true true q both none = absurd (both refl refl)
held_other held false false q both none = absurd (none refl refl)
held_other held true false q both none = record { gone = refl; packets = refl; bound = refl }
held_other held false true q both none = record { gone = refl; packets = refl; bound = refl }

port_other : (w : Pending) (port other : ℕ) (q : Waiting Plain) → other ≢ port → port < ports_in w → other < ports_in w → IsLike (port_queue (with_port w port q) other) (port_queue w other)
port_other (Sets inbox) port other q differs there within = other_like inbox.pool port other q differs
port_other (Loop held) port other q differs there within =
    held_other held (port == 0) (other == 0) q
    (λ a b. let one = eqb-true port 0 a in let two = eqb-true other 0 b in differs (omega (arith, one, two)))
    (λ a b. differs (only_one port other there within (eqb-false port 0 a) (eqb-false other 0 b)))
  where
    only_one : (m n : ℕ) → m < 2 → n < 2 → m ≢ 0 → n ≢ 0 → n ≡ m
    only_one zero n less low first second = absurd (first refl)
    only_one (suc m) zero less low first second = absurd (second refl)
    only_one (suc m) (suc n) less low first second = omega (arith, less, low)

pub others_like : (result : Delivered) (o : Waiting Plain) (port most : ℕ) (before now : Pending) (other : ℕ) → other ≢ port → port < ports_in before → other < ports_in before → Delivers result o port most before now
    → IsLike (port_queue now other) (port_queue before other)
others_like (Moved packets raised) o port most before now other differs there within d =
    let q = with_room (delivered o (port_queue before port) packets) (port_queue now port).spare in
    subst (λ (w : Pending). IsLike (port_queue w other) (port_queue before other)) (sym d.1) (port_other before port other q differs there within)
others_like (OutOfMemory packets) o port most before now other differs there within d =
    let q = with_room (with_packets (port_queue before port) (take packets (missing o (port_queue before port)))) (port_queue now port).spare in
    subst (λ (w : Pending). IsLike (port_queue w other) (port_queue before other)) (sym d.1) (port_other before port other q differs there within)
