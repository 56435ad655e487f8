-- The counts of full queues, if a queue is noted, stops or is relaxed, and what stays of the limits.
use Rattle.std.proofs.Common.{◌≡◌, ℕ, ◌+◌, ◌^◌, ◌<◌, zero, suc, Bool, true, false, ◌&&◌, cond, eqb, leb, List, [], ◌∷◌, ◌++◌, length, map, take, drop, get_or, slice_set, replicate, All, Some, ◌∙◌, sym, ap, subst, inl, inr, refl, arith, length-set, get_or-set_same, get_or-set_other}
use Rattle.std.proofs.Math.Seq.{map-set_same, take-append_seam}
use Rattle.std.proofs.lemmas.Bool.{cases_eq, cases_Bool, false≢true, and_left, and_right, lt-leb}
use Rattle.std.proofs.lemmas.List.{length-map, get_or-map, get_or_default, get_or-replicate, length-replicate}
use Rattle.std.proofs.lemmas.List.Elements.{All-map, All-weaker, All-set}
use Rattle.std.proofs.lemmas.List.Sums.{sum_by-set}
use Rattle.std.specs.Prelude.{count_by}
use Rattle.mg_calc.specs.declared.plan.Plan.{Plan}
use Rattle.mg_throttle.specs.declared.queue.Queue.{Queue}
use Rattle.mg_throttle.specs.Throttle.{QueueLimits, AreLimitsOf, is_full, stopped, relaxed, noted, is_reached}
use Rattle.mg_throttle.specs.Code.Rows.{part}
use Rattle.mg_throttle.specs.Code.Kept.{presses, AreCounted, IsKept}
use Rattle.mg_throttle.proofs.Queues.{count_none}

-- a queue of the same node with other packets
abbrev pub with_packets : Queue → ℕ → Queue
with_packets q packets = record { node = q.node; waiting = packets; limit = q.limit; counts = q.counts }

pub press_part : (rows : List (List Bool)) (f : ℕ) (q : Queue) → cond (presses rows f q) 1 0 ≡ part (is_reached rows f q.node) (cond (is_full q) 1 0)
press_part rows f q = go (is_full q) (is_reached rows f q.node)
  where
    go : (a b : Bool) → cond (a && b) 1 0 ≡ part b (cond a 1 0)
    go true true = refl
    go true false = refl
    go false true = refl
    go false false = refl

-- the count if one queue is noted
pub count-noted : (rows : List (List Bool)) (f : ℕ) (queues : List Queue) (i : ℕ) (q : Queue) (packets : ℕ) → i < length queues → q ≡ get_or queues i q
    → count_by (presses rows f) (slice_set queues i (with_packets q packets)) + part (is_reached rows f q.node) (cond (is_full q) 1 0)
    ≡ count_by (presses rows f) queues + part (is_reached rows f q.node) (cond (is_full (with_packets q packets)) 1 0)
count-noted rows f queues i q packets within read =
    let test : Queue → ℕ = λ x. cond (presses rows f x) 1 0 in
    let sums = sum_by-set test queues i (with_packets q packets) q within in
    let old : test (get_or queues i q) ≡ part (is_reached rows f q.node) (cond (is_full q) 1 0) = ap test (sym read) ∙ press_part rows f q in
    let new : test (with_packets q packets) ≡ part (is_reached rows f q.node) (cond (is_full (with_packets q packets)) 1 0) = press_part rows f (with_packets q packets) in
    omega (arith, sums, old, new)

node_noted : (queues : List Queue) (i : ℕ) (q : Queue) (packets j : ℕ) (e : Queue) → i < length queues → q ≡ get_or queues i q
    → (get_or (slice_set queues i (with_packets q packets)) j e).node ≡ (get_or queues j e).node
node_noted queues i q packets j e within read = elim (cases_eq j i) [
  | inl same ↦ ap (λ x. x.node) (ap (λ k. get_or (slice_set queues i (with_packets q packets)) k e) same ∙ get_or-set_same queues i (with_packets q packets) e within)
      ∙ ap (λ x. x.node) (read ∙ get_or_default queues i q e within ∙ ap (λ k. get_or queues k e) (sym same))
  | inr other ↦ ap (λ x. x.node) (get_or-set_other queues i j (with_packets q packets) e other)
]

-- limits are kept if one queue is noted and the counts are those of the new queues
pub IsKept-noted : (queues : List Queue) (rows : List (List Bool)) (counts new : List ℕ) (i : ℕ) (q : Queue) (packets : ℕ) → IsKept queues rows counts
    → i < length queues → q ≡ get_or queues i q → packets + 1 < 2 ^ 64 → length new ≡ length counts
    → ((f : ℕ) → f < length counts → get_or new f 0 + part (is_reached rows f q.node) (cond (is_full q) 1 0)
    ≡ get_or counts f 0 + part (is_reached rows f q.node) (cond (is_full (with_packets q packets)) 1 0))
    → IsKept (slice_set queues i (with_packets q packets)) rows new
IsKept-noted queues rows counts new i q packets kept within read small len counted =
    let more : List Queue = slice_set queues i (with_packets q packets) in
    let long : length more ≡ length queues = length-set queues i (with_packets q packets) in
    record {
      few = let f = kept.few in omega arith;
      by_node = λ a b e le inside.
          let rise = kept.by_node a b e le (omega arith) in
          let left = node_noted queues i q packets a e within read in
          let right = node_noted queues i q packets b e within read in
          omega arith;
      nodes = All-set (λ x. x.counts ≡ true → x.node < length rows) queues i (with_packets q packets)
          (subst (λ x. x.counts ≡ true → x.node < length rows) (sym read) (kept.nodes i q within)) kept.nodes;
      lengths = All-set (λ x. x.waiting + 1 < 2 ^ 64) queues i (with_packets q packets) small kept.lengths;
      marks = All-weaker (λ row. length row ≡ length counts) (λ row. length row ≡ length new) (λ row e. e ∙ sym len) rows kept.marks;
      counted = λ f inside.
          let fits : f < length counts = omega arith in
          let a = counted f fits in
          let b = kept.counted f fits in
          let d = count-noted rows f queues i q packets within read in
          omega arith;
    }

noted-set : (queues : List Queue) (i packets : ℕ) (q : Queue) → i < length queues → q ≡ get_or queues i q → slice_set queues i (with_packets q packets) ≡ noted queues i packets
noted-set [] i packets q within read = absurd (omega arith)
noted-set (x ∷ xs) zero packets q within read = ap (λ y. with_packets y packets ∷ xs) read
noted-set (x ∷ xs) (suc i) packets q within read = ap (λ ys. x ∷ ys) (noted-set xs i packets q (omega arith) read)

-- limits as contracts see them
abbrev pub limits_with : List Queue → List (List Bool) → ℕ → QueueLimits
limits_with queues rows count = record { queues = queues; reached = rows; feeders = count }

-- what contracts see of it
pub View-noted : (queues : List Queue) (rows : List (List Bool)) (count : ℕ) (old : QueueLimits) (i packets : ℕ) (q : Queue)
    → limits_with queues rows count ≡ old → i < length queues → q ≡ get_or queues i q
    → limits_with (slice_set queues i (with_packets q packets)) rows count
    ≡ limits_with (noted old.queues i packets) old.reached old.feeders
View-noted queues rows count old i packets q is_old within read =
    let now : QueueLimits = limits_with (slice_set queues i (with_packets q packets)) rows count in
    subst (λ t. now ≡ limits_with (noted t.queues i packets) t.reached t.feeders) is_old
    (ap (λ qs. limits_with qs rows count) (noted-set queues i packets q within read))

-- other queues of the same nodes are of the same plan, if those of the collector don't count
AreLimitsOf-kept : (plan : Plan) (queues more : List Queue) (rows : List (List Bool)) (count : ℕ) → AreLimitsOf plan (limits_with queues rows count)
    → map (λ q. q.node) more ≡ map (λ q. q.node) queues → All (λ q. q.node ≡ length plan.nodes → q.counts ≡ false) more
    → AreLimitsOf plan (limits_with more rows count)
AreLimitsOf-kept plan queues more rows count of same none = record {
  queues = same ∙ of.queues;
  collector = none;
  marked_nodes = of.marked_nodes;
  marked_feeders = of.marked_feeders;
  reached = of.reached;
}

-- the same of what contracts see
pub AreLimitsOf-noted : (queues : List Queue) (rows : List (List Bool)) (count : ℕ) (old : QueueLimits) (i packets : ℕ) (q : Queue) → limits_with queues rows count ≡ old
    → i < length queues → q ≡ get_or queues i q → (plan : Plan) → AreLimitsOf plan old → AreLimitsOf plan (limits_with (slice_set queues i (with_packets q packets)) rows count)
AreLimitsOf-noted queues rows count old i packets q is_old within read plan of_old =
    let of : AreLimitsOf plan (limits_with queues rows count) = subst (AreLimitsOf plan) (sym is_old) of_old in
    let named : (λ (x : Queue). x.node) (with_packets q packets) ≡ (get_or queues i q).node = ap (λ x. x.node) read in
    AreLimitsOf-kept plan queues (slice_set queues i (with_packets q packets)) rows count of
    (map-set_same (λ x. x.node) queues i (with_packets q packets) q named)
    (All-set (λ x. x.node ≡ length plan.nodes → x.counts ≡ false) queues i (with_packets q packets)
    (subst (λ x. x.node ≡ length plan.nodes → x.counts ≡ false) (sym read) (of.collector i q within)) of.collector)

AreLimitsOf-map : (f : Queue → Queue) (same_node : (q : Queue) → (f q).node ≡ q.node) (quiet : (q : Queue) → q.counts ≡ false → (f q).counts ≡ false)
    (queues : List Queue) (rows : List (List Bool)) (count : ℕ) (plan : Plan) → AreLimitsOf plan (limits_with queues rows count) → AreLimitsOf plan (limits_with (map f queues) rows count)
AreLimitsOf-map f same_node quiet queues rows count plan of =
    AreLimitsOf-kept plan queues (map f queues) rows count of
    (nodes_of queues)
    (All-map (λ x. x.node ≡ length plan.nodes → x.counts ≡ false) f queues
    (All-weaker (λ x. x.node ≡ length plan.nodes → x.counts ≡ false) (λ x. (f x).node ≡ length plan.nodes → (f x).counts ≡ false)
    (λ x none at. quiet x (none (sym (same_node x) ∙ at))) queues of.collector))
  where
    nodes_of : (qs : List Queue) → map (λ q. q.node) (map f qs) ≡ map (λ q. q.node) qs
    nodes_of [] = refl
    nodes_of (q ∷ qs) = ap (λ n. n ∷ map (λ x. x.node) (map f qs)) (same_node q) ∙ ap (λ ns. q.node ∷ ns) (nodes_of qs)

-- a queue that stops keeps its node, and so does one that is relaxed
node_stopped : (node : ℕ) (q : Queue) → (stopped node q).node ≡ q.node
node_stopped node q = go (eqb q.node node)
  where
    go : (b : Bool) → (cond b (record q { counts = false }) q).node ≡ q.node
    go true = refl
    go false = refl

quiet_stopped : (node : ℕ) (q : Queue) → q.counts ≡ false → (stopped node q).counts ≡ false
quiet_stopped node q quiet = go (eqb q.node node)
  where
    go : (b : Bool) → (cond b (record q { counts = false }) q).counts ≡ false
    go true = refl
    go false = quiet

node_relaxed : (q : Queue) → (relaxed q).node ≡ q.node
node_relaxed q = go (is_full q)
  where
    go : (b : Bool) → (cond b (record q { limit = Some (q.waiting + 1) }) q).node ≡ q.node
    go true = refl
    go false = refl

counts_relaxed : (q : Queue) → (relaxed q).counts ≡ q.counts
counts_relaxed q = go (is_full q)
  where
    go : (b : Bool) → (cond b (record q { limit = Some (q.waiting + 1) }) q).counts ≡ q.counts
    go true = refl
    go false = refl

waiting_relaxed : (q : Queue) → (relaxed q).waiting ≡ q.waiting
waiting_relaxed q = go (is_full q)
  where
    go : (b : Bool) → (cond b (record q { limit = Some (q.waiting + 1) }) q).waiting ≡ q.waiting
    go true = refl
    go false = refl

waiting_stopped : (node : ℕ) (q : Queue) → (stopped node q).waiting ≡ q.waiting
waiting_stopped node q = go (eqb q.node node)
  where
    go : (b : Bool) → (cond b (record q { counts = false }) q).waiting ≡ q.waiting
    go true = refl
    go false = refl

-- limits whose queues are mapped by such a change
IsKept-map : (f : Queue → Queue) (same_node : (q : Queue) → (f q).node ≡ q.node) (counting : (q : Queue) → (f q).counts ≡ true → q.counts ≡ true)
    (same_waiting : (q : Queue) → (f q).waiting ≡ q.waiting) (queues : List Queue) (rows : List (List Bool)) (counts new : List ℕ) → IsKept queues rows counts
    → length new ≡ length counts → AreCounted (map f queues) rows new → IsKept (map f queues) rows new
IsKept-map f same_node counting same_waiting queues rows counts new kept len counted =
    let long = length-map queues f in
    record {
      few = let few = kept.few in omega arith;
      by_node = λ a b e le inside.
          let in_b : b < length queues = omega arith in
          let in_a : a < length queues = omega arith in
          let left : (get_or (map f queues) a e).node ≡ (get_or queues a e).node = ap (λ x. x.node) (get_or-map f queues a e e in_a) ∙ same_node (get_or queues a e) in
          let right : (get_or (map f queues) b e).node ≡ (get_or queues b e).node = ap (λ x. x.node) (get_or-map f queues b e e in_b) ∙ same_node (get_or queues b e) in
          let rise = kept.by_node a b e le in_b in omega arith;
      nodes = All-map (λ x. x.counts ≡ true → x.node < length rows) f queues
          (All-weaker (λ x. x.counts ≡ true → x.node < length rows) (λ x. (f x).counts ≡ true → (f x).node < length rows)
          (λ x below on. let b = below (counting x on) in let s = same_node x in omega arith) queues kept.nodes);
      lengths = All-map (λ x. x.waiting + 1 < 2 ^ 64) f queues
          (All-weaker (λ x. x.waiting + 1 < 2 ^ 64) (λ x. (f x).waiting + 1 < 2 ^ 64) (λ x small. let s = same_waiting x in omega arith) queues kept.lengths);
      marks = All-weaker (λ row. length row ≡ length counts) (λ row. length row ≡ length new) (λ row e. e ∙ sym len) rows kept.marks;
      counted = counted;
    }

pub IsKept-stopping : (node : ℕ) (queues : List Queue) (rows : List (List Bool)) (counts new : List ℕ) → IsKept queues rows counts → length new ≡ length counts
    → AreCounted (map (stopped node) queues) rows new → IsKept (map (stopped node) queues) rows new
IsKept-stopping node queues rows counts new kept len counted =
    IsKept-map (stopped node) (node_stopped node) (counting node) (waiting_stopped node) queues rows counts new kept len counted
  where
    counting : (node : ℕ) (q : Queue) → (stopped node q).counts ≡ true → q.counts ≡ true
    counting node q = go (eqb q.node node)
      where
        go : (b : Bool) → (cond b (record q { counts = false }) q).counts ≡ true → q.counts ≡ true
        go true on = absurd (false≢true on)
        go false on = on

-- ---- a relaxed queue is not full
pub not_full_relaxed : (q : Queue) → is_full (relaxed q) ≡ false
not_full_relaxed q = elim (cases_Bool (is_full q)) [
  | inl full ↦ ap (λ b. is_full (cond b (record q { limit = Some (q.waiting + 1) }) q)) full
      ∙ and_right q.counts (leb (q.waiting + 1) q.waiting) (lt-leb (q.waiting + 1) q.waiting (omega arith))
  | inr other ↦ ap (λ b. is_full (cond b (record q { limit = Some (q.waiting + 1) }) q)) other ∙ other
]

pub IsKept-relaxed : (queues : List Queue) (rows : List (List Bool)) (counts new : List ℕ) (n : ℕ) → IsKept queues rows counts → new ≡ replicate n 0 → n ≡ length counts
    → IsKept (map relaxed queues) rows new
IsKept-relaxed queues rows counts new n kept is_new is_n =
    let len : length new ≡ length counts = ap length is_new ∙ length-replicate n 0 ∙ is_n in
    IsKept-map relaxed node_relaxed (λ q on. sym (counts_relaxed q) ∙ on) waiting_relaxed queues rows counts new kept len
    (λ f inside. ap (λ xs. get_or xs f 0) is_new ∙ get_or-replicate n f 0 0 (omega arith)
    ∙ sym (count_none (presses rows f) (map relaxed queues)
    (All-map (λ q. presses rows f q ≡ false) relaxed queues (λ k d within. and_left (is_full (relaxed (get_or queues k d))) (is_reached rows f (relaxed (get_or queues k d)).node)
    (not_full_relaxed (get_or queues k d))))))

pub AreLimitsOf-relaxed : (queues : List Queue) (rows : List (List Bool)) (count : ℕ) (old : QueueLimits) → limits_with queues rows count ≡ old
    → (plan : Plan) → AreLimitsOf plan old → AreLimitsOf plan (limits_with (map relaxed queues) rows count)
AreLimitsOf-relaxed queues rows count old is_old plan of =
    AreLimitsOf-map relaxed node_relaxed (λ q quiet. counts_relaxed q ∙ quiet) queues rows count plan (subst (AreLimitsOf plan) (sym is_old) of)

pub AreLimitsOf-stopped : (node : ℕ) (queues : List Queue) (rows : List (List Bool)) (count : ℕ) (old : QueueLimits) → limits_with queues rows count ≡ old
    → (plan : Plan) → AreLimitsOf plan old → AreLimitsOf plan (limits_with (map (stopped node) queues) rows count)
AreLimitsOf-stopped node queues rows count old is_old plan of =
    AreLimitsOf-map (stopped node) (node_stopped node) (quiet_stopped node) queues rows count plan (subst (AreLimitsOf plan) (sym is_old) of)

-- what is lent whole comes back whole
pub whole : {X : Type 0} (n : ℕ) (new old : List X) → length new ≡ n → take n (new ++ drop (length new) old) ≡ new
whole n new old len = rw (← len) (take-append_seam new (drop (length new) old))
