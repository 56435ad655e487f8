-- The packets that are made for a graph fit its plan: a prefix for each input, and a place for each side packet. More packets go on from those
-- before.
use Rattle.std.proofs.Common.{◌≡◌, ◌≤◌, ◌<◌, ◌+◌, ◌*◌, ◌/◌, ◌%◌, ◌-◌, ◌^◌, ℕ, zero, suc, Bool, true, false, List, [], ◌∷◌, length, replicate, pos, Some, IfSome, slice_get, refl, sym, ap, ◌∙◌, subst, arith, div-add-mod', div-le_self, lt_of_mul-lt-mul_right, le_refl}
use Rattle.std.specs.List.{AllByRecursion as Each}
use Rattle.std.proofs.lemmas.Bool.Decides.{nat_tests}
use Rattle.std.proofs.lemmas.List.{length-map, length-replicate}
use Rattle.std.proofs.lemmas.List.Elements.{All-from_recursion}
use Rattle.mg_time.specs.Time.{pre_stream, greatest, next}
use Rattle.mg_value.specs.declared.kind.Kind.{Kind}
use Rattle.mg_value.specs.Payload.{Plain, int}
use Rattle.mg_value.specs.Packet.{Stamped}
use Rattle.mg_settled.specs.Prefix.{StreamPrefix, IsPrefix, MayFollow, empty_prefix, appended}
use Rattle.mg_settled.specs.Extension.{IsExtendedBy, AreExtendedBy}
use Rattle.mg_settled.proofs.Lemmas.{appended_is_prefix, closed_is_prefix, extended_by_itself, extended_further, all_by_themselves, all_further, appended_extends, closed_extends}
use Rattle.mg_calc.specs.declared.plan.Plan.{Plan}
use Rattle.mg_calc.specs.declared.edge.Edge.{Edge}
use Rattle.mg_calc.specs.declared.law.Law.{Law}
use Rattle.mg_calc.specs.Plan.{HoldsTogether, InputsFit}
use Rattle.mg_feed.specs.Graph.{inputs_of}
use Rattle.mg_feed.specs.Accepted.{stepped}
use Rattle.mg_feed.specs.Given.{ended_stream, ended_streams}
use Rattle.mg_feed.specs.Generated.{generated_streams, generated_packet, generated_sides}
use Rattle.mg_feed.proofs.Judging.{if-weaker, if-always}
use Rattle.mg_feed.proofs.PiecesMade.{size-generated}
use Rattle.mg_answer.specs.Answer.{generated_inputs}
use Rattle.mg_answer.proofs.Fitting.{input-count, side-count}
use Rattle.mg_answer.proofs.Prefixes.{each-stepped, each-fresh}

-- Rounds --

-- of two numbers with the same remainder the later has the higher quotient
later-round : (k i m : ℕ) → i < m → m % k ≡ i % k → i / k < m / k
later-round k i m lt same =
    let one = div-add-mod' i k in
    let two = div-add-mod' m k in
    let more : i / k * k < m / k * k = omega (arith, one, two, same, lt) in
    lt_of_mul-lt-mul_right k more

-- the time of a round
abbrev round_time : ℕ → ℕ
round_time round = 10 * round + 2 ^ 63

next-by : (t : ℕ) → pre_stream < t → t < greatest → next t ≡ t + 1
next-by t low high = grind (arith, nat_tests)

-- a stream's bound is at most the time of any packet that is still to come for it
abbrev Waits : ℕ → ℕ → List (StreamPrefix Plain) → Type 0
Waits k i ss = (m : ℕ) → i ≤ m → IfSome (slice_get ss (m % k)) (λ s. s.bound ≤ round_time (m / k))

waits-empty : (n j t : ℕ) → pre_stream ≤ t → IfSome (slice_get (replicate n (empty_prefix {X = Plain})) j) (λ s. s.bound ≤ t)
waits-empty zero j t le = tt
waits-empty (suc n) zero t le = le
waits-empty (suc n) (suc j) t le = waits-empty n j t le

-- what holds at a place holds after a step at another place. It holds at the step's own place if the step gives it
some-stepped : {X : Type 0} (P : X → Type 0) (i j : ℕ) (f : X → X) (xs : List X) → IfSome (slice_get xs j) P → (i ≡ j → IfSome (slice_get xs j) (λ x. P (f x)))
    → IfSome (slice_get (stepped i f xs) j) P
some-stepped P i j f [] h here = tt
some-stepped P zero zero f (x ∷ xs) h here = here refl
some-stepped P zero (suc j) f (x ∷ xs) h here = h
some-stepped P (suc i) zero f (x ∷ xs) h here = h
some-stepped P (suc i) (suc j) f (x ∷ xs) h here = some-stepped P i j f xs h (λ e. here (ap suc e))

-- Packets --

-- the packets so far make prefixes, and the next ones may follow
record Made (kinds : List Kind) (i : ℕ) (ss : List (StreamPrefix Plain)) : Type 0 where
  each : Each IsPrefix ss
  waits : Waits (length kinds) i ss

may-follow : (t : ℕ) (s : StreamPrefix Plain) (p : Stamped Plain) → p.at ≡ round_time t → t < 2 ^ 32 → s.bound ≤ round_time t → MayFollow s p
may-follow t s p is few low = record {
  allowed = (omega (arith, is, few), omega (arith, is, few));
  above = omega (arith, is, low);
  alone = λ e. absurd (omega (arith, is, few, e));
}

made-next : (kinds : List Kind) (i : ℕ) (ss : List (StreamPrefix Plain)) → i < 2 ^ 32 → Made kinds i ss
    → Made kinds (suc i) (stepped (i % length kinds) (λ s. appended s (generated_packet kinds i)) ss)
made-next kinds i ss few made =
    let k = length kinds in
    let p = generated_packet kinds i in
    let round : i / k < 2 ^ 32 = let le = div-le_self i k in omega (arith, le, few) in
    let after : next (round_time (i / k)) ≡ round_time (i / k) + 1 = next-by (round_time (i / k)) (omega (arith, round)) (omega (arith, round)) in
    record {
      each = each-stepped IsPrefix (i % k) (λ s. appended s p) ss
          (if-weaker (slice_get ss (i % k)) (λ s. s.bound ≤ round_time (i / k)) (λ s. IsPrefix s → IsPrefix (appended s p))
          (λ s low is. appended_is_prefix s p is (may-follow (i / k) s p refl round low)) (made.waits i (le_refl i)))
          made.each;
      waits = λ m le.
          some-stepped (λ s. s.bound ≤ round_time (m / k)) (i % k) (m % k) (λ s. appended s p) ss (made.waits m (omega (arith, le)))
          (λ same. if-always (slice_get ss (m % k)) (λ s. next (round_time (i / k)) ≤ round_time (m / k))
          (λ s. let later = later-round k i m (omega (arith, le)) (sym same) in omega (arith, after, later)));
    }

made-all : (kinds : List Kind) (n : ℕ) → n < 2 ^ 32 → Made kinds n (generated_streams kinds n)
made-all kinds zero few = record {
  each = each-fresh (length kinds);
  waits = λ m le. waits-empty (length kinds) (m % length kinds) (round_time (m / length kinds)) (omega arith);
}
made-all kinds (suc n) few = made-next kinds n (generated_streams kinds n) (omega (arith, few)) (made-all kinds n (omega (arith, few)))

-- Streams --

each-ended : (ended : Bool) (ss : List (StreamPrefix Plain)) → Each IsPrefix ss → Each IsPrefix (ended_streams ended ss)
each-ended ended [] all = tt
each-ended true (s ∷ ss) all = (closed_is_prefix s all.0, each-ended true ss all.1)
each-ended false (s ∷ ss) all = (all.0, each-ended false ss all.1)

-- so many packets fit, also if more are to come
pub made-fit : {L : Law → Type 0} {E : Plan → Edge → Type 0} (plan : Plan) (number : ℕ) (ended : Bool) → HoldsTogether L E plan → number < 2 ^ 32
    → InputsFit plan (record { streams = ended_streams ended (generated_streams (inputs_of plan).kinds number); sides = generated_sides (length (inputs_of plan).sides); ended = ended })
made-fit plan number ended valid few =
    let graph = inputs_of plan in
    let made = made-all graph.kinds number few in
    record {
      streams = length-map (generated_streams graph.kinds number) (ended_stream ended) ∙ size-generated graph.kinds number ∙ input-count plan valid;
      prefixes = All-from_recursion IsPrefix (ended_streams ended (generated_streams graph.kinds number)) (each-ended ended (generated_streams graph.kinds number) made.each);
      sides = length-replicate (length graph.sides) (Some (int (pos 1))) ∙ side-count plan.sides;
    }

pub generated-fit : {L : Law → Type 0} {E : Plan → Edge → Type 0} (plan : Plan) (number : ℕ) → HoldsTogether L E plan → number < 2 ^ 32 → InputsFit plan (generated_inputs (inputs_of plan) number)
generated-fit plan number valid few = made-fit plan number true valid few

-- With more packets --

zip-stepped : (i : ℕ) (f : StreamPrefix Plain → StreamPrefix Plain) (ss ts : List (StreamPrefix Plain)) → IfSome (slice_get ts i) (λ t. IsExtendedBy t (f t)) → AreExtendedBy ss ts → AreExtendedBy ss (stepped i f ts)
zip-stepped i f [] [] step all = all
zip-stepped i f [] (t ∷ ts) step all = absurd all
zip-stepped i f (s ∷ ss) [] step all = absurd all
zip-stepped zero f (s ∷ ss) (t ∷ ts) step all = (extended_further s t (f t) all.0 step, all.1)
zip-stepped (suc i) f (s ∷ ss) (t ∷ ts) step all = (all.0, zip-stepped i f ss ts step all.1)

ended-extend : (ended : Bool) (ss : List (StreamPrefix Plain)) → Each IsPrefix ss → AreExtendedBy ss (ended_streams ended ss)
ended-extend ended [] all = tt
ended-extend true (s ∷ ss) all = (closed_extends s all.0, ended-extend true ss all.1)
ended-extend false (s ∷ ss) all = (extended_by_itself s, ended-extend false ss all.1)

more-extend : (kinds : List Kind) (n more now : ℕ) → now ≡ more + n → now < 2 ^ 32 → AreExtendedBy (generated_streams kinds n) (generated_streams kinds now)
more-extend kinds n zero now is few =
    let same : n ≡ now = omega (arith, is) in
    subst (λ m. AreExtendedBy (generated_streams kinds n) (generated_streams kinds m)) same (all_by_themselves (generated_streams kinds n))
more-extend kinds n (suc more) now is few =
    let k = length kinds in
    let i = more + n in
    let p = generated_packet kinds i in
    let one : suc i ≡ now = omega (arith, is) in
    let within : i < 2 ^ 32 = omega (arith, one, few) in
    let round : i / k < 2 ^ 32 = let le = div-le_self i k in omega (arith, le, within) in
    subst (λ m. AreExtendedBy (generated_streams kinds n) (generated_streams kinds m)) one
    (zip-stepped (i % k) (λ s. appended s p) (generated_streams kinds n) (generated_streams kinds i)
    (if-weaker (slice_get (generated_streams kinds i) (i % k)) (λ s. s.bound ≤ round_time (i / k)) (λ s. IsExtendedBy s (appended s p))
    (λ s low. appended_extends s p (may-follow (i / k) s p refl round low)) ((made-all kinds i within).waits i (le_refl i)))
    (more-extend kinds n more i refl within))

-- the streams of so many packets are extended by those of more
pub generated-grow : (kinds : List Kind) (before now : ℕ) (ended : Bool) → before ≤ now → now < 2 ^ 32 → AreExtendedBy (generated_streams kinds before) (ended_streams ended (generated_streams kinds now))
generated-grow kinds before now ended le few =
    let same : now - before + before ≡ now = omega (arith, le) in
    all_further (generated_streams kinds before) (generated_streams kinds now) (ended_streams ended (generated_streams kinds now))
    (more-extend kinds before (now - before) now (sym same) few)
    (ended-extend ended (generated_streams kinds now) (made-all kinds now few).each)
