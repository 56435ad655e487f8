-- The rule of streams holds of a prefix exactly where it holds packet by packet.
use Rattle.std.proofs.Common.{◌≡◌, ℕ, ◌+◌, ◌<◌, ◌≤◌, List, [], ◌∷◌, drop, length, get_or, sym, ap, subst, arith}
use Rattle.std.specs.List.{AllByRecursion}
use Rattle.std.proofs.lemmas.List.{drop_more, drop_all}
use Rattle.std.proofs.lemmas.List.Elements.{recursion_from_All, All-from_recursion}
use Rattle.mg_time.specs.Time.{pre_stream, post_stream, done, IsAllowed, next}
use Rattle.mg_value.specs.Packet.{Stamped}
use Rattle.mg_settled.specs.Prefix.{StreamPrefix, IsPrefix, Ascends, first_time}
use Rattle.mg_settled.specs.Code.Standing.{MayStand, Stand}
use Rattle.mg_settled.proofs.PrefixSteps.{next_above}

stand_from : {X : Type 0} (n low b : ℕ) (ps : List (Stamped X)) → AllByRecursion (λ p. IsAllowed p.at) ps → Ascends ps b → AllByRecursion (λ p. p.at ≡ post_stream → n ≡ 1) ps → low ≤ first_time ps b → Stand n low ps b
stand_from n low b [] allowed r alone le = le
stand_from n low b (p ∷ ps) allowed r alone le = (record { allowed = allowed.0; above = le; alone = alone.0 }, stand_from n (next p.at) b ps allowed.1 r.1 alone.1 r.0)

first_stands : {X : Type 0} (n low b : ℕ) (ps : List (Stamped X)) → Stand n low ps b → low ≤ first_time ps b
first_stands n low b [] h = h
first_stands n low b (p ∷ ps) h = h.0.above

stand_allowed : {X : Type 0} (n low b : ℕ) (ps : List (Stamped X)) → Stand n low ps b → AllByRecursion (λ p. IsAllowed p.at) ps
stand_allowed n low b [] h = tt
stand_allowed n low b (p ∷ ps) h = (h.0.allowed, stand_allowed n (next p.at) b ps h.1)

stand_alone : {X : Type 0} (n low b : ℕ) (ps : List (Stamped X)) → Stand n low ps b → AllByRecursion (λ p. p.at ≡ post_stream → n ≡ 1) ps
stand_alone n low b [] h = tt
stand_alone n low b (p ∷ ps) h = (h.0.alone, stand_alone n (next p.at) b ps h.1)

stand_ascends : {X : Type 0} (n low b : ℕ) (ps : List (Stamped X)) → Stand n low ps b → Ascends ps b
stand_ascends n low b [] h = tt
stand_ascends n low b (p ∷ ps) h = (first_stands n (next p.at) b ps h.1, stand_ascends n (next p.at) b ps h.1)

stand_below : {X : Type 0} (n low b : ℕ) (ps : List (Stamped X)) → Stand n low ps b → low ≤ b
stand_below n low b [] h = h
stand_below n low b (p ∷ ps) h =
    let up = next_above p.at h.0.allowed in
    let later = stand_below n (next p.at) b ps h.1 in
    let above = h.0.above in
    omega (arith, up, later, above)

pub prefix_stands : {X : Type 0} (s : StreamPrefix X) → IsPrefix s → Stand (length s.packets) pre_stream s.packets s.bound
prefix_stands {X} s h =
    let allowed = recursion_from_All (λ (p : Stamped X). IsAllowed p.at) s.packets h.allowed in
    let alone = recursion_from_All (λ (p : Stamped X). p.at ≡ post_stream → length s.packets ≡ 1) s.packets h.alone in
    stand_from (length s.packets) pre_stream s.bound s.packets allowed h.ascends alone (first_allowed s.packets s.bound allowed h.opened)
  where
    first_allowed : {Y : Type 0} (ps : List (Stamped Y)) (b : ℕ) → AllByRecursion (λ p. IsAllowed p.at) ps → pre_stream ≤ b → pre_stream ≤ first_time ps b
    first_allowed [] b allowed le = le
    first_allowed (p ∷ ps) b allowed le = allowed.0.0

pub stands_prefix : {X : Type 0} (s : StreamPrefix X) → s.bound ≤ done → Stand (length s.packets) pre_stream s.packets s.bound → IsPrefix s
stands_prefix {X} s within h = record {
  opened = stand_below (length s.packets) pre_stream s.bound s.packets h;
  within = within;
  allowed = All-from_recursion (λ (p : Stamped X). IsAllowed p.at) s.packets (stand_allowed (length s.packets) pre_stream s.bound s.packets h);
  ascends = stand_ascends (length s.packets) pre_stream s.bound s.packets h;
  alone = All-from_recursion (λ (p : Stamped X). p.at ≡ post_stream → length s.packets ≡ 1) s.packets (stand_alone (length s.packets) pre_stream s.bound s.packets h);
}

-- the packets so far may stand, and all of them may exactly where the others may
pub record IsChecked {X : Type 0} (n b : ℕ) (ps : List (Stamped X)) (i low : ℕ) : Type 0 where
  pub to : Stand n pre_stream ps b → Stand n low (drop i ps) b
  pub back : Stand n low (drop i ps) b → Stand n pre_stream ps b

here : {X : Type 0} (n b : ℕ) (ps : List (Stamped X)) (i low : ℕ) (p : Stamped X) → i < length ps → p ≡ get_or ps i p → drop i ps ≡ p ∷ drop (i + 1) ps
here {X} n b ps i low p lt is = rw (drop_more ps i p lt) (ap (λ (q : Stamped X). q ∷ drop (i + 1) ps) (sym is))

pub checked-stops : {X : Type 0} (n b : ℕ) (ps : List (Stamped X)) (i low : ℕ) (p : Stamped X) → i < length ps → p ≡ get_or ps i p → IsChecked n b ps i low → (MayStand n low p.at → ⊥) → Stand n pre_stream ps b → ⊥
checked-stops {X} n b ps i low p lt is h out all =
    let at : Stand n low (p ∷ drop (i + 1) ps) b = rw (here n b ps i low p lt is) at (h.to all) in
    out at.0

-- by a prefix's packets, told by themselves
pub to_stand : {X : Type 0} (s : StreamPrefix X) (ps : List (Stamped X)) → ps ≡ s.packets → IsPrefix s → Stand (length ps) pre_stream ps s.bound
to_stand s ps same h = rw same (prefix_stands s h)

pub from_stand : {X : Type 0} (s : StreamPrefix X) (ps : List (Stamped X)) → ps ≡ s.packets → s.bound ≤ done → Stand (length ps) pre_stream ps s.bound → IsPrefix s
from_stand {X} s ps same within h = stands_prefix s within (subst (λ (qs : List (Stamped X)). Stand (length qs) pre_stream qs s.bound) same h)

pub checked-all : {X : Type 0} (n b : ℕ) (ps : List (Stamped X)) (i low : ℕ) → length ps ≤ i → IsChecked n b ps i low → (low ≤ b → Stand n pre_stream ps b) × (Stand n pre_stream ps b → low ≤ b)
checked-all {X} n b ps i low over h =
    let none : drop i ps ≡ [] = drop_all i ps over in
    (λ le. h.back (rw none le), λ all. (let at : low ≤ b = rw none at (h.to all) in at))
