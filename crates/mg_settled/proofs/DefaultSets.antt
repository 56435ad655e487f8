-- The settled sets of the default policy: where they stand, and that they stay if prefixes are extended.
use Rattle.std.proofs.Common.{◌≡◌, ℕ, ◌<◌, ◌≤◌, inl, inr, List, [], ◌∷◌, map, take, drop, length, All, Option, ap, refl, ◌∙◌, arith}
use Rattle.std.specs.List.{AllByRecursion}
use Rattle.std.proofs.lemmas.Bool.{cases_lt}
use Rattle.std.proofs.lemmas.List.{take-map, drop-map, length-map, take_at}
use Rattle.std.proofs.lemmas.List.Elements.{All-from_recursion, All-map}
use Rattle.mg_time.specs.Time.{done, pre_stream}
use Rattle.mg_value.specs.Payload.{Plain}
use Rattle.mg_value.specs.declared.policy.Policy.TheVariants.{Default}
use Rattle.mg_value.specs.Packet.{Stamped}
use Rattle.mg_settled.specs.Prefix.{StreamPrefix, IsPrefix}
use Rattle.mg_settled.specs.Extension.{AreExtendedBy}
use Rattle.mg_settled.specs.Settled.{TimedSet, low, set_at, settled_times, settled_sets}
use Rattle.mg_settled.specs.Left.{set_times}
use Rattle.mg_settled.proofs.Times.{In, map_agree, In-drop, not-In-take}
use Rattle.mg_settled.proofs.SettledTimes.{settled_from, settled_to, settled_rises, settled_times_first, set_at_extended, In-all_times_below, All-members}

-- the set at a time, with the time
abbrev pub set_of : List (StreamPrefix Plain) → ℕ → TimedSet Plain
set_of ss t = record { at = t; set = set_at t ss }

pub length-default_sets : (ss : List (StreamPrefix Plain)) → length (settled_sets Default ss) ≡ length (settled_times ss)
length-default_sets ss = length-map (settled_times ss) (set_of ss)

-- the times of the settled sets are the settled times
pub default_times : (ss : List (StreamPrefix Plain)) → set_times Default ss ≡ settled_times ss
default_times ss = back (settled_times ss)
  where
    back : (ts : List ℕ) → map (λ (e : TimedSet Plain). e.at) (map (set_of ss) ts) ≡ ts
    back [] = refl
    back (t ∷ ts) = ap (λ (rest : List ℕ). t ∷ rest) (back ts)

-- what holds of each settled time and its set holds of each settled set
pub All-default_sets : (P : TimedSet Plain → Type 0) (ss : List (StreamPrefix Plain)) → ((t : ℕ) → In t (settled_times ss) → P (set_of ss t)) → All P (settled_sets Default ss)
All-default_sets P ss each = All-map P (set_of ss) (settled_times ss) (All-from_recursion (λ (t : ℕ). P (set_of ss t)) (settled_times ss) (All-members (λ t. P (set_of ss t)) (settled_times ss) each))

-- the settled times of prefixes come first in those of the prefixes that extend them
times_front : (ss ts : List (StreamPrefix Plain)) → AreExtendedBy ss ts → take (length (settled_times ss)) (settled_times ts) ≡ settled_times ss
times_front ss ts e =
    ap (λ (us : List ℕ). take (length (settled_times ss)) us) (settled_times_first ss ts e)
    ∙ take_at (settled_times ss) (drop (length (settled_times ss)) (settled_times ts)) (length (settled_times ss)) refl

pub default_stays : (ss ts : List (StreamPrefix Plain)) → AreExtendedBy ss ts → take (length (settled_sets Default ss)) (settled_sets Default ts) ≡ settled_sets Default ss
default_stays ss ts e =
    ap (λ (k : ℕ). take k (settled_sets Default ts)) (length-default_sets ss)
    ∙ take-map (set_of ts) (length (settled_times ss)) (settled_times ts)
    ∙ ap (λ (us : List ℕ). map (set_of ts) us) (times_front ss ts e)
    ∙ map_agree (set_of ts) (set_of ss) (settled_times ss) (λ t i. ap (λ (set : List (Option (Stamped Plain))). (let it : TimedSet Plain = record { at = t; set = set } in it)) (set_at_extended ss ts e t (settled_from ss t i).0))

-- further settled times stand at the least bound of before, or above
pub default_further : (ss ts : List (StreamPrefix Plain)) → AreExtendedBy ss ts → All (λ e. low ss ≤ e.at) (drop (length (settled_sets Default ss)) (settled_sets Default ts))
default_further ss ts e =
    let Above : TimedSet Plain → Type 0 = λ f. low ss ≤ f.at in
    let n = length (settled_times ss) in
    let above : (t : ℕ) → In t (drop n (settled_times ts)) → low ss ≤ t = λ t i. elim (cases_lt t (low ss)) [
      | inl below ↦
          (let old : In t (settled_times ss) = settled_to ss t below (In-all_times_below ss ts e t below (settled_from ts t (In-drop t n (settled_times ts) i)).1) in
          absurd (not-In-take 0 t n (settled_times ts) (settled_rises ts) i (rw (times_front ss ts e) old)))
      | inr le ↦ le
    ] in
    rw (length-default_sets ss, drop-map (set_of ts) n (settled_times ts))
    (All-map Above (set_of ts) (drop n (settled_times ts)) (All-from_recursion (λ (t : ℕ). low ss ≤ t) (drop n (settled_times ts)) (All-members (λ t. low ss ≤ t) (drop n (settled_times ts)) above)))

-- a time below the least bound is below each bound, and the least bound is a bound
pub below_each : {X : Type 0} (t : ℕ) (ss : List (StreamPrefix X)) → t < low ss → AllByRecursion (λ s. t < s.bound) ss
below_each t [] below = tt
below_each t (s ∷ ss) below = (omega (arith, below), below_each t ss (omega (arith, below)))

pub low_most : {X : Type 0} (ss : List (StreamPrefix X)) → low ss ≤ done
low_most [] = omega arith
low_most (s ∷ ss) = let rest = low_most ss in omega (arith, rest)

pub low_least : {X : Type 0} (ss : List (StreamPrefix X)) → AllByRecursion IsPrefix ss → pre_stream ≤ low ss
low_least [] h = omega arith
low_least (s ∷ ss) h = let rest = low_least ss h.1 in let opened = h.0.opened in omega (arith, rest, opened)
