-- The counts of full queues after a call.
use Rattle.std.proofs.Common.{◌≡◌, ◌≢◌, ℕ, ℤ, pos, negsuc, ◌+◌, ◌^◌, ◌<◌, ◌≤◌, ◌↔◌, ◌⊎◌, zero, suc, Bool, true, false, not, ◌&&◌, cond, eqb, ltb, leb, List, [], ◌∷◌, length, map, get_or, slice_set, replicate, Any, Option, Some, slice_get, ◌∙◌, sym, ap, subst, inl, inr, refl, arith, eq-eqb, All}
use Rattle.std.proofs.lemmas.Bool.{cases_eq, cases_Bool, cases_lt, false≢true, ne_eqb, eqb-false, and_left, and_right, and_from, lt-leb, ltb-true, le-ltb}
use Rattle.std.proofs.lemmas.List.{length-map, get_or-map, get_or_default, get_or_past, get_or-replicate, length-replicate}
use Rattle.std.proofs.lemmas.List.Elements.{All-map, All-weaker}
use Rattle.std.specs.Prelude.{count_by}
use mathlib.Core.Bool.{beq}
use mir.Val.{bool_byte}
use Rattle.mg_calc.specs.declared.plan.Plan.{Plan}
use Rattle.mg_calc.specs.declared.edge.Edge.{Edge}
use Rattle.mg_calc.specs.Plan.{IsValid, Feeder, feeders}
use Rattle.mg_throttle.specs.declared.queue.Queue.{Queue}
use Rattle.mg_throttle.specs.Throttle.{AreLimitsOf, IsThrottled, is_full, is_limit_reached, limit_of, new_queue, stopped, is_reached, reached_at}
use Rattle.mg_throttle.specs.Code.Rows.{part, is_marked, Changes}
use Rattle.mg_throttle.specs.Code.Reach.{HasRows, IsReachedBy}
use Rattle.mg_throttle.specs.Code.Kept.{presses, is_full_at, IsKept}
use Rattle.mg_throttle.proofs.Queues.{count-cons, count_none}
use Rattle.mg_throttle.proofs.Edges.{edges_rise}
use Rattle.mg_throttle.proofs.Counts.{with_packets, limits_with, press_part, IsKept-noted, IsKept-stopping}

-- ---- a queue is noted
byte_of : (b : Bool) → bool_byte b ≡ cond b 1 0
byte_of true = refl
byte_of false = refl

apart_of : (a b : Bool) → not (beq a b) ≡ true → a ≢ b
apart_of true true e s = false≢true e
apart_of true false e s = false≢true (sym s)
apart_of false true e s = false≢true s
apart_of false false e s = false≢true e

same_of : (a b : Bool) → not (beq a b) ≡ false → a ≡ b
same_of true true e = refl
same_of true false e = absurd (false≢true (sym e))
same_of false true e = absurd (false≢true (sym e))
same_of false false e = refl

-- the row of a node, read
pub row_read : (rows : List (List Bool)) (node : ℕ) (row : List Bool) (f : ℕ) → node < length rows → row ≡ get_or rows node row → is_marked row f ≡ is_reached rows f node
row_read rows node row f within read = ap (λ r. is_marked r f) (read ∙ get_or_default rows node row [] within)

-- a queue that becomes full, or stops being full, is one that counts
node_within : (queues : List Queue) (rows : List (List Bool)) (counts : List ℕ) (i : ℕ) (q : Queue) (packets : ℕ) → IsKept queues rows counts → i < length queues
    → q ≡ get_or queues i q → is_full q ≢ is_full (with_packets q packets) → q.node < length rows
node_within queues rows counts i q packets kept within read apart = elim (cases_Bool q.counts) [
  | inl on ↦ subst (λ x. x.counts ≡ true → x.node < length rows) (sym read) (kept.nodes i q within) on
  | inr off ↦ absurd (apart (and_left q.counts (is_limit_reached q.limit q.waiting) off ∙ sym (and_left q.counts (is_limit_reached q.limit packets) off)))
]

pub IsKept-changed : (queues : List Queue) (rows : List (List Bool)) (counts lent new : List ℕ) (i : ℕ) (q : Queue) (packets more less : ℕ) (was is : Bool) (row : List Bool)
    → IsKept queues rows counts → i < length queues → q ≡ get_or queues i q → packets + 1 < 2 ^ 64 → lent ≡ counts → was ≡ is_full q → is ≡ is_full (with_packets q packets)
    → not (beq was is) ≡ true → more ≡ bool_byte is → less ≡ bool_byte was → row ≡ get_or rows q.node row → Changes (is_marked row) more less lent new
    → IsKept (slice_set queues i (with_packets q packets)) rows new
IsKept-changed queues rows counts lent new i q packets more less was is row kept within read small is_lent is_was is_is apart is_more is_less row_at changes =
    let inside : q.node < length rows = node_within queues rows counts i q packets kept within read (λ e. apart_of was is apart (is_was ∙ e ∙ sym is_is)) in
    let lens = ap length is_lent in
    IsKept-noted queues rows counts new i q packets kept within read small (changes.len ∙ lens)
    (λ f fits.
    let marked : is_marked row f ≡ is_reached rows f q.node = row_read rows q.node row f inside row_at in
    let sums : get_or new f 0 + part (is_marked row f) less ≡ get_or lent f 0 + part (is_marked row f) more = changes.counts f (omega arith) in
    let from_less : less ≡ cond (is_full q) 1 0 = is_less ∙ byte_of was ∙ ap (λ b. cond b 1 0) is_was in
    let from_more : more ≡ cond (is_full (with_packets q packets)) 1 0 = is_more ∙ byte_of is ∙ ap (λ b. cond b 1 0) is_is in
    let left : part (is_marked row f) less ≡ part (is_reached rows f q.node) (cond (is_full q) 1 0) = ap (λ b. part b less) marked ∙ ap (λ n. part (is_reached rows f q.node) n) from_less in
    let right : part (is_marked row f) more ≡ part (is_reached rows f q.node) (cond (is_full (with_packets q packets)) 1 0) =
    ap (λ b. part b more) marked ∙ ap (λ n. part (is_reached rows f q.node) n) from_more in
    let same : get_or lent f 0 ≡ get_or counts f 0 = ap (λ xs. get_or xs f 0) is_lent in
    omega arith)

-- a queue that is noted stays full, or isn't still
pub still_full : (q : Queue) (packets : ℕ) (was is : Bool) → was ≡ is_full q → is ≡ is_full (with_packets q packets) → not (beq was is) ≡ false → is_full q ≡ is_full (with_packets q packets)
still_full q packets was is is_was is_is same = sym is_was ∙ same_of was is same ∙ is_is

pub IsKept-unchanged : (queues : List Queue) (rows : List (List Bool)) (counts : List ℕ) (i : ℕ) (q : Queue) (packets : ℕ) (was is : Bool)
    → IsKept queues rows counts → i < length queues → q ≡ get_or queues i q → packets + 1 < 2 ^ 64 → was ≡ is_full q → is ≡ is_full (with_packets q packets)
    → not (beq was is) ≡ false → IsKept (slice_set queues i (with_packets q packets)) rows counts
IsKept-unchanged queues rows counts i q packets was is kept within read small is_was is_is same =
    let one = still_full q packets was is is_was is_is same in
    IsKept-noted queues rows counts counts i q packets kept within read small refl
    (λ f fits. ap (λ b. get_or counts f 0 + part (is_reached rows f q.node) (cond b 1 0)) one)

-- ---- a node stops
part_sum : (b : Bool) (m n : ℕ) → part b (m + n) ≡ part b m + part b n
part_sum true m n = refl
part_sum false m n = omega arith

part_zero : (b : Bool) → part b 0 ≡ 0
part_zero true = refl
part_zero false = refl

-- what one queue gives to the count, and what it takes if its node stops
one_stopped : (rows : List (List Bool)) (f node : ℕ) (q : Queue)
    → cond (presses rows f (stopped node q)) 1 0 + part (is_reached rows f node) (cond (is_full_at node q) 1 0) ≡ cond (presses rows f q) 1 0
one_stopped rows f node q = elim (cases_eq q.node node) [
  | inl here ↦
      let quiet : stopped node q ≡ record q { counts = false } = rw (eq-eqb q.node node here) refl in
      let none : cond {A = ℕ} (presses rows f (stopped node q)) 1 0 ≡ 0 = ap (λ x. cond (presses rows f x) 1 0) quiet in
      let full : is_full_at node q ≡ is_full q = ap (λ b. is_full q && b) (eq-eqb q.node node here) ∙ and_yes (is_full q) in
      let taken : part (is_reached rows f node) (cond (is_full_at node q) 1 0) ≡ part (is_reached rows f q.node) (cond (is_full q) 1 0) =
      ap (λ b. part (is_reached rows f node) (cond b 1 0)) full ∙ ap (λ n. part (is_reached rows f n) (cond (is_full q) 1 0)) (sym here) in
      let given = press_part rows f q in
      omega arith
  | inr other ↦
      let same : stopped node q ≡ q = rw (ne_eqb q.node node other) refl in
      let keeps : cond {A = ℕ} (presses rows f (stopped node q)) 1 0 ≡ cond {A = ℕ} (presses rows f q) 1 0 = ap (λ x. cond (presses rows f x) 1 0) same in
      let fails : is_full_at node q ≡ false = and_right (is_full q) (eqb q.node node) (ne_eqb q.node node other) in
      let nothing : part (is_reached rows f node) (cond (is_full_at node q) 1 0) ≡ 0 = ap (λ b. part (is_reached rows f node) (cond b 1 0)) fails ∙ part_zero (is_reached rows f node) in
      omega arith
]
  where
    and_yes : (b : Bool) → (b && true) ≡ b
    and_yes true = refl
    and_yes false = refl

pub count-stopped : (rows : List (List Bool)) (f node : ℕ) (queues : List Queue)
    → count_by (presses rows f) (map (stopped node) queues) + part (is_reached rows f node) (count_by (is_full_at node) queues) ≡ count_by (presses rows f) queues
count-stopped rows f node [] = let z = part_zero (is_reached rows f node) in omega arith
count-stopped rows f node (q ∷ qs) =
    let a = count-cons (presses rows f) (stopped node q) (map (stopped node) qs) in
    let b = count-cons (presses rows f) q qs in
    let d : part (is_reached rows f node) (count_by (is_full_at node) (q ∷ qs)) ≡ part (is_reached rows f node) (cond (is_full_at node q) 1 0) + part (is_reached rows f node) (count_by (is_full_at node) qs) =
    ap (λ n. part (is_reached rows f node) n) (count-cons (is_full_at node) q qs) ∙ part_sum (is_reached rows f node) (cond (is_full_at node q) 1 0) (count_by (is_full_at node) qs) in
    let e = one_stopped rows f node q in
    let rest = count-stopped rows f node qs in
    omega arith

-- enough is counted of what stops
pub enough_stopped : (queues lent_queues : List Queue) (rows : List (List Bool)) (counts lent : List ℕ) (node full : ℕ) (row : List Bool) → IsKept queues rows counts → node < length rows
    → lent_queues ≡ queues → full ≡ count_by (is_full_at node) lent_queues → row ≡ get_or rows node row → lent ≡ counts
    → (f : ℕ) → is_marked row f ≡ true → full ≤ get_or lent f 0
enough_stopped queues lent_queues rows counts lent node full row kept within is_queues is_full row_at is_lent f marked =
    let is_marked_row : is_marked row f ≡ is_reached rows f node = row_read rows node row f within row_at in
    let reached : is_reached rows f node ≡ true = sym is_marked_row ∙ marked in
    let fits : f < length counts = elim (cases_lt f (length (reached_at rows node))) [
      | inl low ↦ let e = kept.marks node [] within in omega arith
      | inr past ↦ absurd (false≢true (sym (get_or_past (reached_at rows node) f false past) ∙ reached))
    ] in
    let sums = count-stopped rows f node queues in
    let all : part (is_reached rows f node) (count_by (is_full_at node) queues) ≡ count_by (is_full_at node) queues = ap (λ b. part b (count_by (is_full_at node) queues)) reached in
    let counted = kept.counted f fits in
    let same : get_or lent f 0 ≡ get_or counts f 0 = ap (λ xs. get_or xs f 0) is_lent in
    let is_count : full ≡ count_by (is_full_at node) queues = is_full ∙ ap (count_by (is_full_at node)) is_queues in
    omega arith

pub IsKept-stopped : (queues lent_queues : List Queue) (rows : List (List Bool)) (counts lent new : List ℕ) (node full : ℕ) (row : List Bool) → IsKept queues rows counts → node < length rows
    → lent_queues ≡ queues → full ≡ count_by (is_full_at node) lent_queues → row ≡ get_or rows node row → lent ≡ counts → Changes (is_marked row) 0 full lent new
    → IsKept (map (stopped node) queues) rows new
IsKept-stopped queues lent_queues rows counts lent new node full row kept within is_queues is_full row_at is_lent changes =
    let lens = ap length is_lent in
    let len : length new ≡ length counts = changes.len ∙ lens in
    IsKept-stopping node queues rows counts new kept len
    (λ f inside.
    let marked : is_marked row f ≡ is_reached rows f node = row_read rows node row f within row_at in
    let sums : get_or new f 0 + part (is_marked row f) full ≡ get_or lent f 0 + part (is_marked row f) 0 = changes.counts f (omega arith) in
    let nothing : part (is_marked row f) 0 ≡ 0 = part_zero (is_marked row f) in
    let is_count : full ≡ count_by (is_full_at node) queues = is_full ∙ ap (count_by (is_full_at node)) is_queues in
    let taken : part (is_marked row f) full ≡ part (is_reached rows f node) (count_by (is_full_at node) queues) =
    ap (λ b. part b full) marked ∙ ap (λ n. part (is_reached rows f node) n) is_count in
    let counted = kept.counted f (omega arith) in
    let all = count-stopped rows f node queues in
    let same : get_or lent f 0 ≡ get_or counts f 0 = ap (λ xs. get_or xs f 0) is_lent in
    omega arith)

-- none of them was full
pub IsKept-stopped_none : (queues lent_queues : List Queue) (rows : List (List Bool)) (counts : List ℕ) (node full : ℕ) → IsKept queues rows counts
    → lent_queues ≡ queues → full ≡ count_by (is_full_at node) lent_queues → full ≤ 0 → IsKept (map (stopped node) queues) rows counts
IsKept-stopped_none queues lent_queues rows counts node full kept is_queues is_full none =
    IsKept-stopping node queues rows counts counts kept refl
    (λ f inside.
    let is_count : count_by (is_full_at node) queues ≡ 0 = sym (is_full ∙ ap (count_by (is_full_at node)) is_queues) ∙ omega arith in
    let nothing : part (is_reached rows f node) (count_by (is_full_at node) queues) ≡ 0 = ap (λ n. part (is_reached rows f node) n) is_count ∙ part_zero (is_reached rows f node) in
    let counted = kept.counted f inside in
    let all = count-stopped rows f node queues in
    omega arith)

-- ---- whether a feeder may feed
any_or_none : (p : Queue → Bool) (xs : List Queue) → Any (λ x. p x ≡ true) xs ⊎ (count_by p xs ≡ 0)
any_or_none p [] = inr refl
any_or_none p (x ∷ xs) = elim (cases_Bool (p x)) [
  | inl here ↦ inl (0, x, (let e : 0 < length (x ∷ xs) = omega arith in e), refl, here)
  | inr fails ↦ elim (any_or_none p xs) [
    | inl (k, y, within, read, passes) ↦ inl (suc k, y, (let e : suc k < length (x ∷ xs) = omega arith in e), read, passes)
    | inr none ↦ inr (count-cons p x xs ∙ ap (λ b. cond b 1 0 + count_by p xs) fails ∙ omega arith)
  ]
]

some_counted : (p : Queue → Bool) (xs : List Queue) (k : ℕ) (d : Queue) → k < length xs → p (get_or xs k d) ≡ true → 0 < count_by p xs
some_counted p [] k d within passes = absurd (omega arith)
some_counted p (x ∷ xs) zero d within passes = let a = count-cons p x xs in let b : cond {A = ℕ} (p x) 1 0 ≡ 1 = ap (λ y. cond y 1 0) passes in omega arith
some_counted p (x ∷ xs) (suc k) d within passes = let a = count-cons p x xs in let b = some_counted p xs k d (omega arith) passes in omega arith

both_true : (a b : Bool) → (a && b) ≡ true → (a ≡ true) × (b ≡ true)
both_true true b e = (refl, e)
both_true false b e = absurd (false≢true e)

-- a feeder is throttled exactly if its count isn't 0
pub throttled_by_count : (queues : List Queue) (rows : List (List Bool)) (counts : List ℕ) (count f : ℕ) (x : ℕ) → IsKept queues rows counts → f < length counts → x ≡ get_or counts f x
    → (plan : Plan) (feeder : Feeder) → AreLimitsOf plan (limits_with queues rows count) → slice_get (feeders plan) f ≡ Some feeder
    → (eqb x 0 ≡ false) ↔ IsThrottled plan (limits_with queues rows count) feeder
throttled_by_count queues rows counts count f x kept fits read plan feeder of at =
    let is_count : x ≡ count_by (presses rows f) queues = read ∙ get_or_default counts f x 0 fits ∙ kept.counted f fits in
    let node_in : (k : ℕ) (q : Queue) → k < length queues → get_or queues k q ≡ q → is_full q ≡ true → q.node < length plan.nodes = λ k q within here full.
    let on : q.counts ≡ true = (both_true q.counts (is_limit_reached q.limit q.waiting) full).0 in
    let low : q.node < length rows = subst (λ y. y.counts ≡ true → y.node < length rows) here (kept.nodes k q within) on in
    let e = of.marked_nodes in omega arith in (
      λ some. elim (any_or_none (presses rows f) queues) [
        | inl (k, q, within, here, passes) ↦
            let parts = both_true (is_full q) (is_reached rows f q.node) passes in
            (k, q, within, here, (parts.0, (of.reached q.node f feeder (node_in k q within here parts.0) at).0 parts.1))
        | inr none ↦ absurd (eqb-false x 0 some (is_count ∙ none))
      ],
      λ (k, q, within, here, both).
          let full : is_full q ≡ true = both.0 in
          let reached : is_reached rows f q.node ≡ true = (of.reached q.node f feeder (node_in k q within here full) at).1 both.1 in
          let passes : presses rows f (get_or queues k q) ≡ true = subst (λ y. presses rows f y ≡ true) (sym here) (and_from (is_full q) (is_reached rows f q.node) full reached) in
          let some = some_counted (presses rows f) queues k q within passes in
          ne_eqb x 0 (λ e. omega arith),
    )

-- ---- at first
-- a limit is at least 1
limit_above : (z : ℤ) → is_limit_reached (limit_of z) 0 ≡ false
limit_above (negsuc n) = refl
limit_above (pos n) = elim (cases_eq n 0) [
  | inl zero_limit ↦ ap (λ b. leb (cond b 100 n) 0) (eq-eqb n 0 zero_limit) ∙ lt-leb 100 0 (omega arith)
  | inr other ↦ ap (λ b. leb (cond b 100 n) 0) (ne_eqb n 0 other) ∙ lt-leb n 0 (omega arith)
]

pub none_full : (nodes : ℕ) (edges : List Edge) (queues : List Queue) (limit : Option ℕ) (z : ℤ) → limit ≡ limit_of z → queues ≡ map (new_queue nodes limit) edges → All (λ q. is_full q ≡ false) queues
none_full nodes edges queues limit z is_limit is_new =
    let f : Edge → Queue = new_queue nodes limit in
    subst (All (λ q. is_full q ≡ false)) (sym is_new)
    (All-map (λ q. is_full q ≡ false) f edges
    (λ k d within. and_right (ltb (get_or edges k d).node nodes) (is_limit_reached limit 0) (ap (λ l. is_limit_reached l 0) is_limit ∙ limit_above z)))

pub IsKept-fresh : (plan : Plan) → IsValid plan → (queues : List Queue) (rows : List (List Bool)) (counts : List ℕ) (limit : Option ℕ) (z : ℤ) (n : ℕ)
    → limit ≡ limit_of z → length plan.edges < 2 ^ 32 → queues ≡ map (new_queue (length plan.nodes) limit) plan.edges → HasRows plan rows → counts ≡ replicate n 0
    → n ≡ length (feeders plan) → IsKept queues rows counts
IsKept-fresh plan valid queues rows counts limit z n is_limit few is_new shape is_counts is_n =
    let f : Edge → Queue = new_queue (length plan.nodes) limit in
    let len : length counts ≡ length (feeders plan) = ap length is_counts ∙ length-replicate n 0 ∙ is_n in
    let long = length-map plan.edges f in
    rw is_new record {
      few = omega arith;
      by_node = λ a b e le inside.
          let in_b : b < length plan.edges = omega arith in
          let d : Edge = record { stream = 0; node = 0; port = 0; back = false } in
          let left : (get_or (map f plan.edges) a e).node ≡ (get_or plan.edges a d).node = ap (λ x. x.node) (get_or-map f plan.edges a d e (omega arith)) in
          let right : (get_or (map f plan.edges) b e).node ≡ (get_or plan.edges b d).node = ap (λ x. x.node) (get_or-map f plan.edges b d e in_b) in
          let rise = edges_rise plan valid a b d le in_b in omega arith;
      nodes = All-map (λ x. x.counts ≡ true → x.node < length rows) f plan.edges (λ k d within on.
          let low = ltb-true (get_or plan.edges k d).node (length plan.nodes) on in let e = shape.nodes in omega arith);
      lengths = All-map (λ x. x.waiting + 1 < 2 ^ 64) f plan.edges (λ k d within. let small : 0 + 1 < 2 ^ 64 = omega arith in small);
      marks = All-weaker (λ row. length row ≡ length (feeders plan)) (λ row. length row ≡ length counts) (λ row e. e ∙ sym len) rows shape.marks;
      counted = λ g inside. ap (λ xs. get_or xs g 0) is_counts ∙ get_or-replicate n g 0 0 (omega arith)
          ∙ sym (count_none (presses rows g) (map f plan.edges)
          (All-map (λ q. presses rows g q ≡ false) f plan.edges (λ k d within. and_left (is_full (f (get_or plan.edges k d))) (is_reached rows g (get_or plan.edges k d).node)
          (and_right (ltb (get_or plan.edges k d).node (length plan.nodes)) (is_limit_reached limit 0) (ap (λ l. is_limit_reached l 0) is_limit ∙ limit_above z)))));
    }

pub AreLimitsOf-fresh : (plan : Plan) (queues : List Queue) (rows : List (List Bool)) (count : ℕ) (limit : Option ℕ)
    → queues ≡ map (new_queue (length plan.nodes) limit) plan.edges → HasRows plan rows → count ≡ length (feeders plan)
    → ((n : ℕ) → n < length plan.nodes → IsReachedBy plan rows n) → AreLimitsOf plan (limits_with queues rows count)
AreLimitsOf-fresh plan queues rows count limit is_new shape is_count reached =
    let f : Edge → Queue = new_queue (length plan.nodes) limit in
    rw is_new record {
      queues = nodes_of plan.edges;
      collector = All-map (λ q. q.node ≡ length plan.nodes → q.counts ≡ false) f plan.edges
          (λ k d within at. le-ltb (get_or plan.edges k d).node (length plan.nodes) (omega arith));
      marked_nodes = shape.nodes;
      marked_feeders = is_count;
      reached = λ node number feeder small at. reached node small number feeder at;
    }
  where
    nodes_of : (es : List Edge) → map (λ q. q.node) (map (new_queue (length plan.nodes) limit) es) ≡ map (λ e. e.node) es
    nodes_of [] = refl
    nodes_of (e ∷ es) = ap (λ ns. e.node ∷ ns) (nodes_of es)
