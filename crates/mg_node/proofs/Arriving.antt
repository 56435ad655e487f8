-- What arrives at a port keeps an intake lawful: it stays a prefix of the solution's stream.
use Rattle.std.proofs.Common.{◌≡◌, ℕ, zero, suc, ◌+◌, ◌<◌, ◌≤◌, List, [], ◌∷◌, ◌++◌, length, length-append, length-drop, map, take, drop, get_or, set, Some, slice_get, inl, inr, All, ap, ap₂, sym, refl, subst, ◌∙◌, arith}
use Rattle.std.specs.List.{AllZip, AllByRecursion}
use Rattle.std.proofs.lemmas.Bool.Decides.{eqb_tells}
use Rattle.std.proofs.lemmas.List.{length-map, get_or-map, take_all}
use Rattle.std.proofs.lemmas.List.Elements.{All-from_recursion, recursion_from_All}
use Rattle.mg_value.specs.Payload.{Plain}
use Rattle.mg_value.specs.Packet.{Stamped}
use Rattle.mg_settled.specs.Prefix.{StreamPrefix, IsPrefix, appended, raised, empty_prefix}
use Rattle.mg_settled.specs.Extension.{IsExtendedBy, AreExtendedBy}
use Rattle.mg_settled.proofs.Lemmas.{extended_by_itself, extended_further, appended_extends, raised_extends, all_by_themselves}
use Rattle.mg_stream.specs.Queue.{Waiting, StandsFor, count_of, with_packet, raised_to}
use Rattle.mg_stream.specs.Pool.{Backlog, empty_backlog, queue_of, queues_of, queue_at, backlog_of, with_queue}
use Rattle.mg_stream.proofs.QueueSteps.{stands_raised}
use Rattle.mg_policy.specs.Inbox.{Gathered}
use Rattle.mg_policy.proofs.Standing.{arrivals_keep}
use Rattle.mg_loopback.specs.Loopback.{Held}
use Rattle.mg_loopback.proofs.Standing.{arrivals_keep as answers_keep}
use Rattle.mg_node.specs.declared.pending.Pending.{Pending}
use Rattle.mg_node.specs.declared.pending.Pending.TheVariants.{Sets, Loop}
use Rattle.mg_node.specs.Ports.{ports_in, port_queue, with_port, with_room}
use Rattle.mg_node.specs.Delivery.{missing, with_packets, delivered, AreOfOne}
use Rattle.mg_calc.specs.Rules.{Laws}
use Rattle.mg_calc.specs.declared.law.Law.TheVariants.{Loopback}
use Rattle.mg_node.specs.Job.{LoggedJob, ports_of, law_of, streams_at}
use Rattle.mg_node.specs.Lawful.{HoldsSets, HoldsLoop, HoldsWaits}
use Rattle.mg_node.proofs.Delivering.{last_have, goes_on, counted, missing-is, of_one_next, missing-next}
use Rattle.mg_node.proofs.Zips.{zip_at, zip_set, zip_left, zip_long, map-set}

-- a queue stands for a prefix that a stream extends, and that extends what came before, with as many packets gone
pub record Came (stream before : StreamPrefix Plain) (old q : Waiting Plain) : Type 0 where
  pub now : StreamPrefix Plain
  pub stands : StandsFor q now
  pub extended : IsExtendedBy now stream
  pub further : IsExtendedBy before now
  pub gone : q.gone ≡ old.gone

-- a packet comes, and then others
came_further : (o q : Waiting Plain) (h : AreOfOne o q) (n : ℕ) (ps : List (Stamped Plain)) → missing o q ≡ ps → suc n ≤ length ps
    → ((p : Stamped Plain) (next : AreOfOne o (with_packet q p)) → n ≤ length (missing o (with_packet q p)) → Came next.stream next.came (with_packet q p) (with_packets (with_packet q p) (take n (missing o (with_packet q p)))))
    → Came h.stream h.came q (with_packets q (take (suc n) (missing o q)))
came_further o q h n [] is le again = absurd (omega (arith, le))
came_further o q h n (p ∷ ps) is le again =
    let first : slice_get (missing o q) 0 ≡ Some p = ap (λ (xs : List (Stamped Plain)). slice_get xs 0) is in
    let next = of_one_next o q p h first in
    let rest : missing o (with_packet q p) ≡ ps = missing-next o q p h.held ∙ ap (λ (xs : List (Stamped Plain)). drop 1 xs) is in
    let later : Came h.stream (appended h.came p) (with_packet q p) (with_packets (with_packet q p) (take n (missing o (with_packet q p)))) =
    again p next (let long = ap length rest in omega (arith, le, long)) in
    let go = goes_on h.stream h.came h.laid p h.whole h.extended_there h.extended (ap (λ (xs : List (Stamped Plain)). slice_get xs 0) (sym (missing-is o q h)) ∙ first) in
    let same : with_packets (with_packet q p) (take n (missing o (with_packet q p))) ≡ with_packets q (take (suc n) (missing o q)) =
    ap (λ (xs : List (Stamped Plain)). with_packets (with_packet q p) (take n xs)) rest ∙ ap (λ (xs : List (Stamped Plain)). with_packets q (take (suc n) xs)) (sym is) in
    record {
      now = later.now;
      stands = subst (λ (r : Waiting Plain). StandsFor r later.now) same later.stands;
      extended = later.extended;
      further = extended_further h.came (appended h.came p) later.now (appended_extends h.came p go.may) later.further;
      gone = ap (λ (r : Waiting Plain). r.gone) (sym same) ∙ later.gone;
    }

-- the first packets that are missing come
pub came_packets : (o q : Waiting Plain) (h : AreOfOne o q) (n : ℕ) → n ≤ length (missing o q) → Came h.stream h.came q (with_packets q (take n (missing o q)))
came_packets o q h zero le = record { now = h.came; stands = h.stands_there; extended = h.extended_there; further = extended_by_itself h.came; gone = refl }
came_packets o q h (suc n) le = came_further o q h n (missing o q) refl le (λ p next more. came_packets o (with_packet q p) next n more)

-- what holds of all elements after fewer first ones holds of all elements after more
suffix_has : {X : Type 0} (P : X → Type 0) (ps qs us vs : List X) → ps ++ us ≡ qs ++ vs → length qs ≤ length ps → AllByRecursion P vs → AllByRecursion P us
suffix_has P ps [] us vs same le a = last_have P ps us (subst (AllByRecursion P) (sym same) a)
suffix_has P [] (y ∷ qs) us vs same le a = absurd (omega (arith, le))
suffix_has P (x ∷ ps) (y ∷ qs) us vs same le a = suffix_has P ps qs us vs (cc) (omega (arith, le)) a

-- a port that has all that was laid is raised too
came_raised : (stream before laid : StreamPrefix Plain) (old q : Waiting Plain) → IsPrefix laid → IsExtendedBy laid stream → length laid.packets ≤ count_of q → Came stream before old q → Came stream before old (raised_to q laid.bound)
came_raised stream before laid old q is f all c =
    let e = c.extended in
    let above : All (λ p. laid.bound ≤ p.at) e.further =
    All-from_recursion (λ (p : Stamped Plain). laid.bound ≤ p.at) e.further
    (suffix_has (λ (p : Stamped Plain). laid.bound ≤ p.at) c.now.packets laid.packets e.further f.further (sym e.packets ∙ f.packets)
    (let n = counted q c.now c.stands in omega (arith, all, n)) (recursion_from_All (λ (p : Stamped Plain). laid.bound ≤ p.at) f.further f.above)) in
    let within = is.within in
    record {
      now = raised c.now laid.bound;
      stands = stands_raised q laid.bound c.now within c.stands;
      extended = record {
        further = e.further;
        packets = e.packets;
        bound = (let one = e.bound in let two = f.bound in omega (arith, one, two));
        above = (λ i d le. (let one = e.above i d le in let two = above i d le in omega (arith, one, two)));
      };
      further = extended_further before c.now (raised c.now laid.bound) c.further (raised_extends c.now laid.bound);
      gone = c.gone;
    }

pub came_delivered : (o q : Waiting Plain) (h : AreOfOne o q) (n : ℕ) → n ≤ length (missing o q) → Came h.stream h.came q (delivered o q n)
came_delivered o q h n le = elim (eqb_tells n (length (missing o q))) [
  | inl (test, same) ↦
      (let whole : take (length (missing o q)) (missing o q) ≡ missing o q = take_all (length (missing o q)) (missing o q) (omega arith) in
      let c : Came h.stream h.came q (with_packets q (missing o q)) =
      subst (λ (ps : List (Stamped Plain)). Came h.stream h.came q (with_packets q ps)) whole (came_packets o q h (length (missing o q)) (omega arith)) in
      let bound : h.laid.bound ≡ o.bound = sym h.stands.bound in
      let held = h.held in
      let all : length h.laid.packets ≤ count_of (with_packets q (missing o q)) =
      (let long = with_packets-count q (missing o q) in let left = ap length (missing-is o q h) in let n = counted q h.came h.stands_there in
      omega (arith, long, left, n, length-drop (length h.came.packets) h.laid.packets)) in
      rw test (subst (λ (b : ℕ). Came h.stream h.came q (raised_to (with_packets q (missing o q)) b)) bound (came_raised h.stream h.came h.laid q (with_packets q (missing o q)) h.stands.prefix h.extended all c)))
  | inr (test, other) ↦ rw test (came_packets o q h n le)
]
  where
    with_packets-count : (r : Waiting Plain) (ps : List (Stamped Plain)) → count_of (with_packets r ps) ≡ count_of r + length ps
    with_packets-count r [] = omega arith
    with_packets-count r (p ∷ ps) = (let later = with_packets-count (with_packet r p) ps in omega (arith, later, length-append r.packets (p ∷ [])))

-- the room doesn't count
pub came_room : (stream before : StreamPrefix Plain) (old q : Waiting Plain) (spare : ℕ) → Came stream before old q → Came stream before old (with_room q spare)
came_room stream before old q spare c = record {
  now = c.now;
  stands = record { prefix = c.stands.prefix; gone = c.stands.gone; waiting = c.stands.waiting; bound = c.stands.bound };
  extended = c.extended;
  further = c.further;
  gone = c.gone;
}

-- Intakes.

any_room : (a b : ℕ) (bs : List (Backlog Plain)) (ss : List (StreamPrefix Plain)) → AllZip StandsFor (map (queue_of a) bs) ss → AllZip StandsFor (map (queue_of b) bs) ss
any_room a b [] ss z = z
any_room a b (x ∷ bs) [] z = absurd z
any_room a b (x ∷ bs) (s ∷ ss) z = (record { prefix = z.0.prefix; gone = z.0.gone; waiting = z.0.waiting; bound = z.0.bound }, any_room a b bs ss z.1)

gone_same : (a b : ℕ) (bs : List (Backlog Plain)) (i : ℕ) (q : Waiting Plain) → q.gone ≡ (queue_of a (get_or bs i empty_backlog)).gone
    → map (λ r. r.gone) (map (queue_of b) (set bs i (backlog_of q))) ≡ map (λ r. r.gone) (map (queue_of a) bs)
gone_same a b [] i q same = refl
gone_same a b (x ∷ bs) zero q same = ap₂ (λ (n : ℕ) (ns : List ℕ). n ∷ ns) same (gones bs)
  where
    gones : (cs : List (Backlog Plain)) → map (λ r. r.gone) (map (queue_of b) cs) ≡ map (λ r. r.gone) (map (queue_of a) cs)
    gones [] = refl
    gones (c ∷ cs) = ap (λ (ns : List ℕ). c.gone ∷ ns) (gones cs)
gone_same a b (x ∷ bs) (suc i) q same = ap (λ (ns : List ℕ). x.gone ∷ ns) (gone_same a b bs i q same)

-- the stream at a port, and what came there
pub record AtPort {laws : Laws} (job : LoggedJob laws) (streams : List (StreamPrefix Plain)) (consumer claimed port : ℕ) (w : Pending) : Type 0 where
  pub came : StreamPrefix Plain
  pub stands : StandsFor (port_queue w port) came
  pub extended : IsExtendedBy came (get_or (streams_at streams (ports_of job.job.plan consumer)) port empty_prefix)
  pub keeps : (q : Waiting Plain) → Came (get_or (streams_at streams (ports_of job.job.plan consumer)) port empty_prefix) came (port_queue w port) q → HoldsWaits job streams consumer claimed (with_port w port q)

sets_keep : {laws : Laws} (job : LoggedJob laws) (streams : List (StreamPrefix Plain)) (consumer claimed port : ℕ) (inbox : Gathered) (h : HoldsSets job streams consumer claimed inbox) → port < length inbox.pool.ports
    → (q : Waiting Plain) → Came (get_or (streams_at streams (ports_of job.job.plan consumer)) port empty_prefix) (get_or h.came port empty_prefix) (queue_at inbox.pool port) q
    → HoldsSets job streams consumer claimed (record inbox { pool = with_queue inbox.pool port q })
sets_keep {laws} job streams consumer claimed port inbox h there q c =
    let ss = streams_at streams (ports_of job.job.plan consumer) in
    let now = set h.came port c.now in
    let here : port < length h.came = (let long = zip_long StandsFor (queues_of inbox.pool) h.came h.stands.each in let ports = length-map inbox.pool.ports (queue_of inbox.pool.spare) in omega (arith, there, long, ports)) in
    let each : AllZip StandsFor (map (queue_of q.spare) (set inbox.pool.ports port (backlog_of q))) now =
    subst (λ (qs : List (Waiting Plain)). AllZip StandsFor qs now) (sym (map-set (queue_of q.spare) inbox.pool.ports port (backlog_of q)))
    (zip_set StandsFor (map (queue_of q.spare) inbox.pool.ports) h.came port q c.now (any_room inbox.pool.spare q.spare inbox.pool.ports h.came h.stands.each) c.stands) in
    let grown : AreExtendedBy h.came now = grow h.came port c.now c.further in
    record {
      policy = h.policy;
      came = now;
      extended = zip_left IsExtendedBy h.came ss port c.now empty_prefix h.extended here c.extended;
      stands = arrivals_keep inbox.policy claimed (queues_of inbox.pool) (queues_of (with_queue inbox.pool port q)) h.came now h.stands each grown (gone_same inbox.pool.spare q.spare inbox.pool.ports port q c.gone);
    }
  where
    grow : (xs : List (StreamPrefix Plain)) (i : ℕ) (y : StreamPrefix Plain) → IsExtendedBy (get_or xs i empty_prefix) y → AreExtendedBy xs (set xs i y)
    grow [] i y e = tt
    grow (x ∷ xs) zero y e = (e, all_by_themselves xs)
    grow (x ∷ xs) (suc i) y e = (extended_by_itself x, grow xs i y e)

at_sets : {laws : Laws} (job : LoggedJob laws) (streams : List (StreamPrefix Plain)) (consumer claimed port : ℕ) (inbox : Gathered) → ¬ (law_of job.job.plan consumer ≡ Some Loopback) → HoldsSets job streams consumer claimed inbox → port < length inbox.pool.ports
    → AtPort job streams consumer claimed port (Sets inbox)
at_sets {laws} job streams consumer claimed port inbox other h there =
    let ss = streams_at streams (ports_of job.job.plan consumer) in
    let long = length-map inbox.pool.ports (queue_of inbox.pool.spare) in
    let in_queues : port < length (queues_of inbox.pool) = omega (arith, there, long) in
    let here : port < length h.came = (let same = zip_long StandsFor (queues_of inbox.pool) h.came h.stands.each in omega (arith, in_queues, same)) in
    record {
      came = get_or h.came port empty_prefix;
      stands = subst (λ (r : Waiting Plain). StandsFor r (get_or h.came port empty_prefix)) (get_or-map (queue_of inbox.pool.spare) inbox.pool.ports port empty_backlog (queue_of inbox.pool.spare empty_backlog) there)
          (zip_at StandsFor (queues_of inbox.pool) h.came port (queue_of inbox.pool.spare empty_backlog) empty_prefix h.stands.each in_queues);
      extended = zip_at IsExtendedBy h.came ss port empty_prefix empty_prefix h.extended here;
      keeps = (λ q c. (other, sets_keep job streams consumer claimed port inbox h there q c));
    }

loop_keeps : {laws : Laws} (job : LoggedJob laws) (streams : List (StreamPrefix Plain)) (consumer claimed : ℕ) (held now : Held Plain) (h : HoldsLoop job streams consumer claimed held) (main loop : StreamPrefix Plain)
    → StandsFor now.main main → StandsFor now.loop loop → IsExtendedBy h.main main → IsExtendedBy h.loop loop → now.main.gone ≡ held.main.gone → now.loop.gone ≡ held.loop.gone → now.previous ≡ held.previous
    → AreExtendedBy (loop ∷ main ∷ []) (streams_at streams (ports_of job.job.plan consumer)) → HoldsLoop job streams consumer claimed now
loop_keeps {laws} job streams consumer claimed held now h main loop at_main at_loop wider more gone gone_there previous extended = record {
  main = main;
  loop = loop;
  extended = extended;
  stands = answers_keep claimed held now h.main main h.loop loop h.stands wider more at_main at_loop (record { main = gone; loop = gone_there; previous = previous });
}

at_loop : {laws : Laws} (job : LoggedJob laws) (streams : List (StreamPrefix Plain)) (consumer claimed port : ℕ) (held : Held Plain) → law_of job.job.plan consumer ≡ Some Loopback → HoldsLoop job streams consumer claimed held → port < 2
    → AtPort job streams consumer claimed port (Loop held)
at_loop {laws} job streams consumer claimed zero held law h there =
    let ss = streams_at streams (ports_of job.job.plan consumer) in
    record {
      came = h.loop;
      stands = h.stands.at_loop;
      extended = zip_at IsExtendedBy (h.loop ∷ h.main ∷ []) ss 0 empty_prefix empty_prefix h.extended (omega arith);
      keeps = (λ q c. (
        law,
        loop_keeps job streams consumer claimed held (record held { loop = q }) h h.main c.now h.stands.at_main c.stands (extended_by_itself h.main) c.further refl c.gone refl
            (zip_left IsExtendedBy (h.loop ∷ h.main ∷ []) ss 0 c.now empty_prefix h.extended (omega arith) c.extended),
      ));
    }
at_loop {laws} job streams consumer claimed (suc zero) held law h there =
    let ss = streams_at streams (ports_of job.job.plan consumer) in
    record {
      came = h.main;
      stands = h.stands.at_main;
      extended = zip_at IsExtendedBy (h.loop ∷ h.main ∷ []) ss 1 empty_prefix empty_prefix h.extended (omega arith);
      keeps = (λ q c. (
        law,
        loop_keeps job streams consumer claimed held (record held { main = q }) h c.now h.loop c.stands h.stands.at_loop c.further (extended_by_itself h.loop) c.gone refl refl
            (zip_left IsExtendedBy (h.loop ∷ h.main ∷ []) ss 1 c.now empty_prefix h.extended (omega arith) c.extended),
      ));
    }
at_loop {laws} job streams consumer claimed (suc (suc port)) held law h there = absurd (omega (arith, there))

pub at_port : {laws : Laws} (job : LoggedJob laws) (streams : List (StreamPrefix Plain)) (consumer claimed port : ℕ) (w : Pending) → HoldsWaits job streams consumer claimed w → port < ports_in w → AtPort job streams consumer claimed port w
at_port {laws} job streams consumer claimed port (Sets inbox) h there = at_sets job streams consumer claimed port inbox h.0 h.1 there
at_port {laws} job streams consumer claimed port (Loop held) h there = at_loop job streams consumer claimed port held h.0 h.1 there

-- there are as many ports as streams
pub ports_long : {laws : Laws} (job : LoggedJob laws) (streams : List (StreamPrefix Plain)) (consumer claimed : ℕ) (w : Pending) → HoldsWaits job streams consumer claimed w → ports_in w ≡ length (ports_of job.job.plan consumer)
ports_long {laws} job streams consumer claimed (Sets inbox) h =
    sym (length-map inbox.pool.ports (queue_of inbox.pool.spare)) ∙ zip_long StandsFor (queues_of inbox.pool) h.1.came h.1.stands.each
    ∙ zip_long IsExtendedBy h.1.came (streams_at streams (ports_of job.job.plan consumer)) h.1.extended ∙ length-map (ports_of job.job.plan consumer) (λ number. get_or streams number empty_prefix)
ports_long {laws} job streams consumer claimed (Loop held) h =
    zip_long IsExtendedBy (h.1.loop ∷ h.1.main ∷ []) (streams_at streams (ports_of job.job.plan consumer)) h.1.extended ∙ length-map (ports_of job.job.plan consumer) (λ number. get_or streams number empty_prefix)
