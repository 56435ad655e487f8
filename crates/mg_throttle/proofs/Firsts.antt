-- The first marked place that has the count 0, found word by word, and which feeders these are.
use Rattle.std.proofs.Common.{◌≡◌, ℕ, ◌+◌, ◌*◌, ◌<◌, ◌≤◌, Bool, true, false, ◌&&◌, eqb, List, [], length, get_or, slice_set, slice_get, map, Option, Some, None, MatchOption, IfSome, IfNone, ◌∙◌, sym, ap, subst, inl, inr, refl, arith, get_or-set_other, length-set, ◌↔◌}
use Rattle.std.proofs.lemmas.Bool.{cases_eq, cases_lt, false≢true}
use Rattle.std.proofs.lemmas.List.{get_or-map, get_or_default, get_or_past, length-map}
use Rattle.std.proofs.lemmas.Option.{get_or_from_slice_get}
use Rattle.mg_calc.specs.declared.plan.Plan.{Plan}
use Rattle.mg_calc.specs.declared.edge.Edge.{Edge}
use Rattle.mg_calc.specs.Plan.{Feeder, feeders}
use Rattle.mg_throttle.specs.declared.queue.Queue.{Queue}
use Rattle.mg_throttle.specs.Throttle.{QueueLimits, AreLimitsOf, IsThrottled, FeederReaches, reached_at}
use Rattle.mg_throttle.specs.Code.Rows.{bit_in, is_marked, is_uncounted, NoneFrom, IsFirstFrom}
use Rattle.mg_throttle.specs.Code.Kept.{IsKept}
use Rattle.mg_throttle.proofs.RowMarks.{bit_in-zero, bit_in-low, bit_in-high}
use Rattle.mg_throttle.proofs.Counts.{with_packets, limits_with}
use Rattle.mg_throttle.proofs.Pressing.{row_read, throttled_by_count}

both_true : (a b : Bool) → (a && b) ≡ true → (a ≡ true) × (b ≡ true)
both_true true b e = (refl, e)
both_true false b e = absurd (false≢true e)

second_false : (a b : Bool) → a ≡ true → (a && b) ≡ false → b ≡ false
second_false true b is e = e
second_false false b is e = absurd (false≢true is)

-- the marks at the places of a word are its bits
abbrev pub AreBitsOf : List Bool → ℕ → ℕ → Type 0
AreBitsOf marks word first = (k : ℕ) → first ≤ k → k < first + 64 → k < length marks → is_marked marks k ≡ bit_in word first k

-- a word of no bits has none
pub no_bit_uncounted : (counts : List ℕ) (first k : ℕ) → is_uncounted (bit_in 0 first) counts k ≡ false
no_bit_uncounted counts first k = ap (λ (b : Bool). b && eqb (get_or counts k 0) 0) (bit_in-zero first k)

-- one word more, among whose places there is none
pub none_in_word : (marks : List Bool) (counts : List ℕ) (word from i : ℕ) → length counts ≡ length marks → AreBitsOf marks word (i * 64)
    → NoneFrom (is_uncounted (is_marked marks) counts) from (i * 64) → NoneFrom (is_uncounted (bit_in word (i * 64)) counts) from (length counts)
    → NoneFrom (is_uncounted (is_marked marks) counts) from ((i + 1) * 64)
none_in_word marks counts word from i len bits before here k low high = elim (cases_lt k (i * 64)) [
  | inl below ↦ before k low below
  | inr past ↦ elim (cases_lt k (length marks)) [
    | inl within ↦ ap (λ (b : Bool). b && eqb (get_or counts k 0) 0) (bits k past (omega (arith, high)) within) ∙ here k low (omega (arith, within, len))
    | inr out ↦ ap (λ (b : Bool). b && eqb (get_or counts k 0) 0) (get_or_past marks k false out)
  ]
]

-- the first one stands in a word
pub first_in_word : (marks : List Bool) (counts : List ℕ) (word from i place : ℕ) → length counts ≡ length marks → AreBitsOf marks word (i * 64)
    → NoneFrom (is_uncounted (is_marked marks) counts) from (i * 64) → IsFirstFrom (is_uncounted (bit_in word (i * 64)) counts) from (length counts) place
    → IsFirstFrom (is_uncounted (is_marked marks) counts) from (length counts) place
first_in_word marks counts word from i place len bits before first =
    let bit : bit_in word (i * 64) place ≡ true = (both_true (bit_in word (i * 64) place) (eqb (get_or counts place 0) 0) first.passes).0 in
    let low : i * 64 ≤ place = bit_in-low word (i * 64) place bit in
    let high : place < i * 64 + 64 = bit_in-high word (i * 64) place bit in
    let below : place < length counts = first.below in
    record {
      above = first.above;
      below = below;
      passes = ap (λ (b : Bool). b && eqb (get_or counts place 0) 0) (bits place low high (omega (arith, below, len))) ∙ first.passes;
      none = λ k from_on upto. elim (cases_lt k (i * 64)) [
        | inl early ↦ before k from_on early
        | inr past ↦ ap (λ (b : Bool). b && eqb (get_or counts k 0) 0) (bits k past (omega (arith, upto, high)) (omega (arith, upto, below, len))) ∙ first.none k from_on upto
      ];
    }

-- no word is left
pub none_in_words : (marks : List Bool) (counts : List ℕ) (from words : ℕ) → length counts ≤ words * 64 → NoneFrom (is_uncounted (is_marked marks) counts) from (words * 64)
    → NoneFrom (is_uncounted (is_marked marks) counts) from (length counts)
none_in_words marks counts from words all none k low high = none k low (omega (arith, high, all))

-- Feeders.

-- what was found among counts that are lent
abbrev pub FindsFirst : List Bool → List ℕ → ℕ → Option ℕ → Type 0
FindsFirst row counts from result = MatchOption result (NoneFrom (is_uncounted (is_marked row) counts) from (length counts)) (IsFirstFrom (is_uncounted (is_marked row) counts) from (length counts))

pub if_found : (row : List Bool) (counts : List ℕ) (from : ℕ) (P : ℕ → Type 0) (result : Option ℕ) → FindsFirst row counts from result
    → ((p : ℕ) → IsFirstFrom (is_uncounted (is_marked row) counts) from (length counts) p → P p) → IfSome result P
if_found row counts from P None h f = tt
if_found row counts from P (Some p) h f = f p h

pub if_none_found : (row : List Bool) (counts : List ℕ) (from : ℕ) (Q : Type 0) (result : Option ℕ) → FindsFirst row counts from result
    → (NoneFrom (is_uncounted (is_marked row) counts) from (length counts) → Q) → IfNone result Q
if_none_found row counts from Q None h f = f h
if_none_found row counts from Q (Some p) h f = tt

-- a row has a mark for each count
pub row_len : (queues : List Queue) (rows : List (List Bool)) (counts lent : List ℕ) (node : ℕ) (row : List Bool) → IsKept queues rows counts → node < length rows → row ≡ get_or rows node row → lent ≡ counts
    → length lent ≡ length row
row_len queues rows counts lent node row kept within read is =
    ap length is ∙ sym (kept.marks node [] within) ∙ sym (ap length (read ∙ get_or_default rows node row [] within))

module _ (queues : List Queue) (rows : List (List Bool)) (counts : List ℕ) (count node : ℕ) (row : List Bool) (kept : IsKept queues rows counts) (within : node < length rows)
    (read : row ≡ get_or rows node row) (plan : Plan) (of : AreLimitsOf plan (limits_with queues rows count)) where
  counted : (f : ℕ) → f < length counts → (feeder : Feeder) → slice_get (feeders plan) f ≡ Some feeder
      → (eqb (get_or counts f 0) 0 ≡ false) ↔ IsThrottled plan (limits_with queues rows count) feeder
  counted f fits feeder at = throttled_by_count queues rows counts count f (get_or counts f 0) kept fits (get_or_default counts f 0 (get_or counts f 0) fits) plan feeder of at

  -- one that is found
  pub found_feeder : (from f : ℕ) (feeder : Feeder) → IsFirstFrom (is_uncounted (is_marked row) counts) from (length counts) f → slice_get (feeders plan) f ≡ Some feeder
      → FeederReaches plan feeder node × ¬ IsThrottled plan (limits_with queues rows count) feeder
  found_feeder from f feeder first at =
      let parts = both_true (is_marked row f) (eqb (get_or counts f 0) 0) first.passes in
      let nodes = of.marked_nodes in (
        (of.reached node f feeder (omega (arith, within, nodes)) at).0 (sym (row_read rows node row f within read) ∙ parts.0),
        λ throttled. false≢true (sym ((counted f first.below feeder at).1 throttled) ∙ parts.1),
      )

  -- one that is passed over
  pub missed_feeder : (from end f : ℕ) (feeder : Feeder) → NoneFrom (is_uncounted (is_marked row) counts) from end → (f < length counts → f < end) → slice_get (feeders plan) f ≡ Some feeder
      → from ≤ f → FeederReaches plan feeder node → IsThrottled plan (limits_with queues rows count) feeder
  missed_feeder from end f feeder none inside at low reaches =
      let nodes = of.marked_nodes in
      let marked : is_marked row f ≡ true = row_read rows node row f within read ∙ (of.reached node f feeder (omega (arith, within, nodes)) at).1 reaches in
      elim (cases_lt f (length counts)) [
        | inl fits ↦ (counted f fits feeder at).0 (second_false (is_marked row f) (eqb (get_or counts f 0) 0) marked (none f low (inside fits)))
        | inr past ↦ absurd (let long : length (reached_at rows node) ≡ length counts = kept.marks node [] within in
            false≢true (sym (get_or_past (reached_at rows node) f false (omega (arith, past, long))) ∙ sym (row_read rows node row f within read) ∙ marked))
      ]

-- who is let go when a queue is noted reaches the consumer
pub let_go_reaches : (queues : List Queue) (rows : List (List Bool)) (count : ℕ) (old : QueueLimits) (i packets : ℕ) (q : Queue) → limits_with queues rows count ≡ old
    → (plan : Plan) (f : Feeder) (e : Edge) → AreLimitsOf plan old → slice_get plan.edges i ≡ Some e → IsThrottled plan old f
    → ¬ IsThrottled plan (limits_with (slice_set queues i (with_packets q packets)) rows count) f → FeederReaches plan f e.node
let_go_reaches queues rows count old i packets q is plan f e of at throttled free =
    of_queues (subst (AreLimitsOf plan) (sym is) of) (subst (λ (t : QueueLimits). IsThrottled plan t f) (sym is) throttled)
  where
    of_queues : AreLimitsOf plan (limits_with queues rows count) → IsThrottled plan (limits_with queues rows count) f → FeederReaches plan f e.node
    of_queues of (k, p, within, here, (full, reaches)) = elim (cases_eq k i) [
      | inl same ↦
          (let edges = of.queues in
          let long : length plan.edges ≡ length queues = sym (length-map plan.edges (λ (x : Edge). x.node)) ∙ sym (ap length edges) ∙ length-map queues (λ (x : Queue). x.node) in
          let left : get_or (map (λ (x : Queue). x.node) queues) k 0 ≡ p.node = get_or-map (λ (x : Queue). x.node) queues k p 0 within ∙ ap (λ (x : Queue). x.node) here in
          let right : get_or (map (λ (x : Edge). x.node) plan.edges) k 0 ≡ e.node = get_or-map (λ (x : Edge). x.node) plan.edges k e 0 (omega (arith, within, long))
          ∙ ap (λ (x : Edge). x.node) (ap (λ (n : ℕ). get_or plan.edges n e) same ∙ get_or_from_slice_get plan.edges i e e at) in
          subst (FeederReaches plan f) (sym left ∙ ap (λ (ns : List ℕ). get_or ns k 0) edges ∙ right) reaches)
      | inr other ↦ absurd (free (
        k,
        p,
        (let long = length-set queues i (with_packets q packets) in omega (arith, within, long)),
        get_or-set_other queues i k (with_packets q packets) p other ∙ here,
        (full, reaches),
      ))
    ]
