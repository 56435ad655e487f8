-- Prefixes without some of their packets: they are prefixes too; and those without what stands at a time or before it.
use Rattle.std.proofs.Common.{◌≡◌, ℕ, zero, suc, ◌+◌, ◌<◌, ◌≤◌, Bool, false, inl, inr, List, [], ◌∷◌, map, take, drop, length, length-drop, All, ap, sym, refl, ◌∙◌, arith, leb, ltb}
use Rattle.std.specs.List.{AllByRecursion, prefix_len}
use Rattle.std.proofs.lemmas.Bool.{cases_Bool, leb-false, lt-leb}
use Rattle.std.proofs.lemmas.List.{get_or-drop}
use Rattle.std.proofs.lemmas.List.Elements.{recursion_from_All, All-from_recursion, All-drop, All-weaker, All-map}
use Rattle.mg_time.specs.Time.{IsAllowed, post_stream}
use Rattle.mg_value.specs.Packet.{Stamped}
use Rattle.mg_value.specs.Payload.{Plain}
use Rattle.mg_value.specs.declared.policy.Policy.{Policy}
use Rattle.mg_settled.specs.Prefix.{StreamPrefix, IsPrefix, Ascends, StandsAlone, first_time}
use Rattle.mg_settled.specs.Left.{set_times, goes, without, after_sets, without_first}
use Rattle.mg_settled.specs.FirstSet.{from, behind}
use Rattle.mg_settled.proofs.PrefixSteps.{next_above}
use Rattle.mg_settled.proofs.Climbs.{Climbs, Climbs-from}
use Rattle.mg_settled.proofs.Leaving.{left_of, left_of-all}
use Rattle.mg_settled.proofs.Fronts.{one_more}

-- without first packets
Ascends-drop : {X : Type 0} (n b : ℕ) (ps : List (Stamped X)) → Ascends ps b → Ascends (drop n ps) b
Ascends-drop zero b ps h = h
Ascends-drop (suc n) b [] h = h
Ascends-drop (suc n) b (p ∷ ps) h = Ascends-drop n b ps h.1

pub drop_is_prefix : {X : Type 0} (n : ℕ) (s : StreamPrefix X) → IsPrefix s → IsPrefix (record { packets = drop n s.packets; bound = s.bound })
drop_is_prefix {X} n s h = record {
  opened = h.opened;
  within = h.within;
  allowed = All-drop (λ (p : Stamped X). IsAllowed p.at) n s.packets h.allowed;
  ascends = Ascends-drop n s.bound s.packets h.ascends;
  alone = λ k d lt e. (
      let one = h.alone (n + k) d (omega (arith, lt, length-drop n s.packets)) (ap (λ (p : Stamped X). p.at) (sym (get_or-drop n s.packets k d)) ∙ e) in
      omega (arith, one, lt, length-drop n s.packets));
}

-- without the packets at some times
each_left : {X : Type 0} (P : Stamped X → Type 0) (test : ℕ → Bool) (ps : List (Stamped X)) → AllByRecursion P ps → AllByRecursion P (left_of test ps)
each_left P test [] h = tt
each_left P test (p ∷ ps) h = elim (cases_Bool (test p.at)) [
  | inl goes ↦ rw goes (each_left P test ps h.1)
  | inr stays ↦ rw stays (h.0, each_left P test ps h.1)
]

Ascends-left : {X : Type 0} (test : ℕ → Bool) (b : ℕ) (ps : List (Stamped X)) → AllByRecursion (λ p. IsAllowed p.at) ps → Ascends ps b → Ascends (left_of test ps) b × (first_time ps b ≤ first_time (left_of test ps) b)
Ascends-left test b [] allowed h = (tt, omega arith)
Ascends-left test b (p ∷ ps) allowed h =
    let later = Ascends-left test b ps allowed.1 h.1 in
    let first = later.1 in
    let up = next_above p.at allowed.0 in
    elim (cases_Bool (test p.at)) [
      | inl goes ↦ rw goes (later.0, omega (arith, first, up, h.0))
      | inr stays ↦ rw stays ((omega (arith, first, h.0), later.0), omega arith)
    ]

StandsAlone-left : {X : Type 0} (test : ℕ → Bool) (ps : List (Stamped X)) → StandsAlone ps → StandsAlone (left_of test ps)
StandsAlone-left test [] h = h
StandsAlone-left test (p ∷ []) h = elim (cases_Bool (test p.at)) [
  | inl goes ↦ rw goes (λ k d lt. absurd (omega (arith, lt)))
  | inr stays ↦ rw stays h
]
StandsAlone-left {X} test (p ∷ q ∷ qs) h =
    let ps = p ∷ q ∷ qs in
    let Other : Stamped X → Type 0 = λ r. r.at ≡ post_stream → ⊥ in
    let others = recursion_from_All Other ps (All-weaker (λ (r : Stamped X). r.at ≡ post_stream → length ps ≡ 1) Other (λ r one e. (let is = one e in omega (arith, is))) ps h) in
    All-weaker Other (λ (r : Stamped X). r.at ≡ post_stream → length (left_of test ps) ≡ 1) (λ r out e. absurd (out e)) (left_of test ps) (All-from_recursion Other (left_of test ps) (each_left Other test ps others))

pub without_is_prefix : {X : Type 0} (test : ℕ → Bool) (s : StreamPrefix X) → IsPrefix s → IsPrefix (without test s)
without_is_prefix {X} test s h =
    let allowed = recursion_from_All (λ (p : Stamped X). IsAllowed p.at) s.packets h.allowed in
    record {
      opened = h.opened;
      within = h.within;
      allowed = All-from_recursion (λ (p : Stamped X). IsAllowed p.at) (left_of test s.packets) (each_left (λ p. IsAllowed p.at) test s.packets allowed);
      ascends = (Ascends-left test s.bound s.packets allowed h.ascends).0;
      alone = StandsAlone-left test s.packets h.alone;
    }

-- what stands after a time is what is left without the other packets
pub left_of-same : {X : Type 0} (f g : ℕ → Bool) (ps : List (Stamped X)) → AllByRecursion (λ p. f p.at ≡ g p.at) ps → left_of f ps ≡ left_of g ps
left_of-same f g [] h = refl
left_of-same {X} f g (p ∷ ps) h = elim (cases_Bool (g p.at)) [
  | inl goes ↦ rw (h.0, goes) (left_of-same f g ps h.1)
  | inr stays ↦ rw (h.0, stays) (ap (λ (rest : List (Stamped X)). p ∷ rest) (left_of-same f g ps h.1))
]

pub above_all : {X : Type 0} (t a b : ℕ) (ps : List (Stamped X)) → t < a → Climbs a ps b → AllByRecursion (λ p. leb p.at t ≡ false) ps
above_all {X} t a b ps lt h =
    let From : Stamped X → Type 0 = λ p. a ≤ p.at in
    let Out : Stamped X → Type 0 = λ p. leb p.at t ≡ false in
    recursion_from_All Out ps (All-weaker From Out (λ p le. lt-leb p.at t (omega (arith, le, lt))) ps (All-from_recursion From ps (Climbs-from a b ps h)))

pub behind-left : {X : Type 0} (t a b : ℕ) (ps : List (Stamped X)) → Climbs a ps b → drop (prefix_len (λ p. leb p.at t) ps) ps ≡ left_of (λ u. leb u t) ps
behind-left t a b [] h = refl
behind-left {X} t a b (p ∷ ps) h = elim (cases_Bool (leb p.at t)) [
  | inl passed ↦ rw (passed, one_more (prefix_len (λ (q : Stamped X). leb q.at t) ps)) (behind-left t (p.at + 1) b ps h.1)
  | inr left ↦
      (let above : t < p.at = leb-false p.at t left in
      rw left (ap (λ (rest : List (Stamped X)). p ∷ rest) (sym (left_of-all (λ u. leb u t) ps (above_all t (p.at + 1) b ps (omega (arith, above)) h.1)))))
]

pub behind_is_prefix : {X : Type 0} (t : ℕ) (s : StreamPrefix X) → IsPrefix s → IsPrefix (behind t s)
behind_is_prefix {X} t s h = drop_is_prefix (prefix_len (λ (p : Stamped X). leb p.at t) s.packets) s h

pub from_is_prefix : {X : Type 0} (t : ℕ) (s : StreamPrefix X) → IsPrefix s → IsPrefix (from t s)
from_is_prefix {X} t s h = drop_is_prefix (prefix_len (λ (p : Stamped X). ltb p.at t) s.packets) s h

-- prefixes stay prefixes if sets are claimed of all of them, and if the packets at a time or before it go
pub all_after_sets : (policy : Policy) (k : ℕ) (ss : List (StreamPrefix Plain)) → All IsPrefix ss → All IsPrefix (after_sets policy k ss)
all_after_sets policy k ss h =
    let test = goes policy (take k (set_times policy ss)) in
    All-map IsPrefix (without test) ss (All-weaker IsPrefix (λ s. IsPrefix (without test s)) (without_is_prefix test) ss h)

pub all_without_first : {X : Type 0} (ss : List (StreamPrefix X)) (gone : List ℕ) → All IsPrefix ss → All IsPrefix (without_first gone ss)
all_without_first ss gone h = All-from_recursion IsPrefix (without_first gone ss) (go ss gone (recursion_from_All IsPrefix ss h))
  where
    go : {X : Type 0} (ss : List (StreamPrefix X)) (gone : List ℕ) → AllByRecursion IsPrefix ss → AllByRecursion IsPrefix (without_first gone ss)
    go ss [] h = tt
    go [] (n ∷ gone) h = tt
    go (s ∷ ss) (n ∷ gone) h = (drop_is_prefix n s h.0, go ss gone h.1)

pub all_behind : {X : Type 0} (t : ℕ) (ss : List (StreamPrefix X)) → All IsPrefix ss → All IsPrefix (map (behind t) ss)
all_behind t ss h = All-map IsPrefix (behind t) ss (All-weaker IsPrefix (λ s. IsPrefix (behind t s)) (behind_is_prefix t) ss h)
