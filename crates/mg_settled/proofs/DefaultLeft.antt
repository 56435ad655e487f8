-- What is left when the first settled sets of the default policy are claimed.
use Rattle.std.proofs.Common.{◌≡◌, ℕ, ◌<◌, Bool, false, inl, inr, List, [], ◌∷◌, map, take, drop, length, Option, ap, ap₂, sym, refl, ◌∙◌, arith}
use Rattle.std.proofs.lemmas.Bool.{false≢true}
use Rattle.std.proofs.lemmas.List.{drop-map, length-map, get_or-map, get_or_default, same_lists}
use Rattle.mg_value.specs.Payload.{Plain}
use Rattle.mg_value.specs.declared.policy.Policy.TheVariants.{Default}
use Rattle.mg_value.specs.Packet.{Stamped}
use Rattle.mg_settled.specs.Prefix.{StreamPrefix, closed, empty_prefix}
use Rattle.mg_settled.specs.Settled.{TimedSet, low, times_of, all_times, settled_times, set_at, is_among, settled_sets, reach}
use Rattle.mg_settled.specs.Left.{set_times, goes, without}
use Rattle.mg_settled.proofs.Times.{In, Rises, same_members, In-append_from, In-append_left, In-append_right, In-is_among, is_among-false, Rises-drop, In-drop, not-In-take, In-take_or_drop, map_agree}
use Rattle.mg_settled.proofs.Leaving.{left_of, In-left_of_from, In-left_of_to, packet_at-left_of}
use Rattle.mg_settled.proofs.SettledTimes.{settled_from, settled_to, settled_rises}
use Rattle.mg_settled.proofs.DefaultSets.{set_of, default_times}
use Rattle.mg_settled.proofs.Leaves.{AllLeave}

pub low-without : {X : Type 0} (test : ℕ → Bool) (ss : List (StreamPrefix X)) → low (map (without test) ss) ≡ low ss
low-without test [] = refl
low-without test (s ∷ ss) = rw (low-without test ss) refl

In-all_without_from : {X : Type 0} (test : ℕ → Bool) (t : ℕ) (ss : List (StreamPrefix X)) → In t (all_times (map (without test) ss)) → In t (all_times ss) × (test t ≡ false)
In-all_without_from test t [] i = absurd i
In-all_without_from test t (s ∷ ss) i = elim (In-append_from t (times_of (left_of test s.packets)) (all_times (map (without test) ss)) i) [
  | inl first ↦ (let here = In-left_of_from test t s.packets first in (In-append_left t (times_of s.packets) (all_times ss) here.0, here.1))
  | inr later ↦ (let there = In-all_without_from test t ss later in (In-append_right t (times_of s.packets) (all_times ss) there.0, there.1))
]

In-all_without_to : {X : Type 0} (test : ℕ → Bool) (t : ℕ) (ss : List (StreamPrefix X)) → test t ≡ false → In t (all_times ss) → In t (all_times (map (without test) ss))
In-all_without_to test t [] out i = i
In-all_without_to test t (s ∷ ss) out i = elim (In-append_from t (times_of s.packets) (all_times ss) i) [
  | inl first ↦ In-append_left t (times_of (left_of test s.packets)) (all_times (map (without test) ss)) (In-left_of_to test t s.packets out first)
  | inr later ↦ In-append_right t (times_of (left_of test s.packets)) (all_times (map (without test) ss)) (In-all_without_to test t ss out later)
]

set_at-without : {X : Type 0} (test : ℕ → Bool) (t : ℕ) (ss : List (StreamPrefix X)) → test t ≡ false → set_at t (map (without test) ss) ≡ set_at t ss
set_at-without test t [] out = refl
set_at-without {X} test t (s ∷ ss) out = ap₂ (λ (h : Option (Stamped X)) (rest : List (Option (Stamped X))). h ∷ rest) (packet_at-left_of test t s.packets out) (set_at-without test t ss out)

-- the settled times that are left are the others
times-left : {X : Type 0} (k : ℕ) (ss : List (StreamPrefix X)) → settled_times (map (without (is_among (take k (settled_times ss)))) ss) ≡ drop k (settled_times ss)
times-left k ss =
    let times = settled_times ss in
    let rises : Rises 0 times = settled_rises ss in
    let gone = take k times in
    let left = map (without (is_among gone)) ss in
    same_members 0 0 (settled_times left) (drop k times) (settled_rises left) (Rises-drop 0 k times rises)
    (λ t i. (
    let is = settled_from left t i in
    let was = In-all_without_from (is_among gone) t ss is.1 in
    let below : t < low ss = rw (low-without (is_among gone) ss) at is.0 in
    elim (In-take_or_drop t k times (settled_to ss t below was.0)) [
      | inl early ↦ absurd (false≢true (sym was.1 ∙ In-is_among t gone early))
      | inr late ↦ late
    ]))
    (λ t i. (
    let was = settled_from ss t (In-drop t k times i) in
    let out : is_among gone t ≡ false = is_among-false t gone (not-In-take 0 t k times rises i) in
    settled_to left t (rw (low-without (is_among gone) ss) was.0) (In-all_without_to (is_among gone) t ss out was.1)))

-- the settled sets that are left are the others
default-left : (k : ℕ) (ss : List (StreamPrefix Plain)) → settled_sets Default (map (without (is_among (take k (settled_times ss)))) ss) ≡ drop k (settled_sets Default ss)
default-left k ss =
    let times = settled_times ss in
    let gone = take k times in
    let left = map (without (is_among gone)) ss in
    let same : map (set_of left) (drop k times) ≡ map (set_of ss) (drop k times) =
    map_agree (set_of left) (set_of ss) (drop k times) (λ t i. (
    let out : is_among gone t ≡ false = is_among-false t gone (not-In-take 0 t k times (settled_rises ss) i) in
    ap (λ (set : List (Option (Stamped Plain))). (let it : TimedSet Plain = record { at = t; set = set } in it)) (set_at-without (is_among gone) t ss out))) in
    ap (λ (ts : List ℕ). map (set_of left) ts) (times-left k ss) ∙ same ∙ sym (drop-map (set_of ss) k times)

-- each port leads
all-without : (test : ℕ → Bool) (ss rs : List (StreamPrefix Plain)) → AllLeave Default test ss rs → rs ≡ map (without test) ss
all-without test ss rs h = same_lists rs (map (without test) ss) (h.ports ∙ sym (length-map ss (without test)))
    (λ i d lt. (
    let there : i < length ss = let same = h.ports in omega (arith, lt, same) in
    let here = h.each i there in
    get_or_default rs i d (closed empty_prefix) lt
    ∙ ap₂ (λ (ps : List (Stamped Plain)) (b : ℕ). (let it : StreamPrefix Plain = record { packets = ps; bound = b } in it)) (here.rest refl) here.bound
    ∙ sym (get_or-map (without test) ss i (closed empty_prefix) d there)))

pub default_sets-left : (k : ℕ) (ss rs : List (StreamPrefix Plain)) → AllLeave Default (goes Default (take k (set_times Default ss))) ss rs → settled_sets Default rs ≡ drop k (settled_sets Default ss)
default_sets-left k ss rs h =
    ap (λ (ls : List (StreamPrefix Plain)). settled_sets Default ls) (all-without (goes Default (take k (set_times Default ss))) ss rs h)
    ∙ ap (λ (ts : List ℕ). settled_sets Default (map (without (is_among (take k ts))) ss)) (default_times ss)
    ∙ default-left k ss

pub default_reach-left : (test : ℕ → Bool) (ss rs : List (StreamPrefix Plain)) → AllLeave Default test ss rs → reach Default rs ≡ reach Default ss
default_reach-left test ss rs h = ap (λ (ls : List (StreamPrefix Plain)). low ls) (all-without test ss rs h) ∙ low-without test ss
