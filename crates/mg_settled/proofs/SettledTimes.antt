-- The settled times of the default policy, and what stands at them: their members, and that they only grow.
use Rattle.std.proofs.Common.{◌≡◌, ℕ, zero, suc, ◌+◌, ◌<◌, ◌≤◌, true, ◌⊎◌, inl, inr, List, [], ◌∷◌, ◌++◌, drop, length, filter, All, Option, None, ap₂, refl, arith, ltb, eqb, ltb-true, lt-ltb, ne_eqb, eq-eqb, is_some, suc-add}
use Rattle.std.specs.List.{AllByRecursion, list_any}
use Rattle.std.specs.List.Sorted.{IsStrictlyIncreasing}
use Rattle.std.proofs.lemmas.Bool.{cases_Bool, or_left, or_right}
use Rattle.std.proofs.lemmas.List.Elements.{All-head, All-tail}
use Rattle.mg_value.specs.Packet.{Stamped}
use Rattle.mg_settled.specs.Prefix.{StreamPrefix}
use Rattle.mg_settled.specs.Extension.{AreExtendedBy}
use Rattle.mg_settled.specs.Settled.{low, times_of, all_times, settled_times, packet_at, set_at}
use Rattle.mg_settled.proofs.Times.{In, Rises, first_members, In-in_order_from, In-in_order_to, Rises-in_order, In-filter_from, In-filter_to, In-append_from, In-append_left, In-append_right}

-- the members of the settled times
pub settled_from : {X : Type 0} (ss : List (StreamPrefix X)) (t : ℕ) → In t (settled_times ss) → (t < low ss) × In t (all_times ss)
settled_from ss t i =
    let kept = In-filter_from (λ u. ltb u (low ss)) t (all_times ss) (In-in_order_from t _ i) in
    (ltb-true t (low ss) kept.0, kept.1)

pub settled_to : {X : Type 0} (ss : List (StreamPrefix X)) (t : ℕ) → t < low ss → In t (all_times ss) → In t (settled_times ss)
settled_to ss t below i = In-in_order_to t _ (In-filter_to (λ u. ltb u (low ss)) t (all_times ss) (lt-ltb t (low ss) below) i)

pub settled_rises : {X : Type 0} (ss : List (StreamPrefix X)) → Rises 0 (settled_times ss)
settled_rises ss = Rises-in_order (filter (λ t. ltb t (low ss)) (all_times ss))

-- the times of appended packets
pub In-times_of_append_from : {X : Type 0} (t : ℕ) (ps qs : List (Stamped X)) → In t (times_of (ps ++ qs)) → In t (times_of ps) ⊎ In t (times_of qs)
In-times_of_append_from t [] qs i = inr i
In-times_of_append_from t (p ∷ ps) qs i = elim i [ inl e ↦ inl (inl e) | inr j ↦ elim (In-times_of_append_from t ps qs j) [ inl k ↦ inl (inr k) | inr k ↦ inr k ] ]

pub In-times_of_append_left : {X : Type 0} (t : ℕ) (ps qs : List (Stamped X)) → In t (times_of ps) → In t (times_of (ps ++ qs))
In-times_of_append_left t [] qs i = absurd i
In-times_of_append_left t (p ∷ ps) qs i = elim i [ inl e ↦ inl e | inr j ↦ inr (In-times_of_append_left t ps qs j) ]

-- packets from a bound on have no time below it
pub not-In-above : {X : Type 0} (b t : ℕ) (ps : List (Stamped X)) → All (λ p. b ≤ p.at) ps → t < b → In t (times_of ps) → ⊥
not-In-above b t [] above below i = i
not-In-above {X} b t (p ∷ ps) above below i = elim i [
  | inl e ↦ (let at : b ≤ p.at = All-head (λ (q : Stamped X). b ≤ q.at) p ps above in omega (arith, at, e, below))
  | inr j ↦ not-In-above b t ps (All-tail (λ (q : Stamped X). b ≤ q.at) p ps above) below j
]

-- if no packet has a time, none is found at it
pub packet_at-none : {X : Type 0} (t : ℕ) (ps : List (Stamped X)) → (In t (times_of ps) → ⊥) → packet_at t ps ≡ None
packet_at-none t [] out = refl
packet_at-none t (p ∷ ps) out = rw (ne_eqb p.at t (λ e. out (inl e))) (packet_at-none t ps (λ i. out (inr i)))

pub packet_at-append : {X : Type 0} (t : ℕ) (ps qs : List (Stamped X)) → (In t (times_of qs) → ⊥) → packet_at t (ps ++ qs) ≡ packet_at t ps
packet_at-append t [] qs out = packet_at-none t qs out
packet_at-append t (p ∷ ps) qs out = elim (cases_Bool (eqb p.at t)) [
  | inl here ↦ rw here refl
  | inr fails ↦ rw fails (packet_at-append t ps qs out)
]

-- the least bound only rises, and below it nothing changes
pub low_rises : {X : Type 0} (ss tt : List (StreamPrefix X)) → AreExtendedBy ss tt → low ss ≤ low tt
low_rises [] [] e = omega arith
low_rises [] (t ∷ ts) e = absurd e
low_rises (s ∷ ss) [] e = absurd e
low_rises (s ∷ ss) (t ∷ ts) e = let rest = low_rises ss ts e.1 in let first = e.0.bound in omega (arith, rest, first)

pub In-all_times_extended : {X : Type 0} (ss tt : List (StreamPrefix X)) → AreExtendedBy ss tt → (u : ℕ) → In u (all_times ss) → In u (all_times tt)
In-all_times_extended [] [] e u i = i
In-all_times_extended [] (t ∷ ts) e u i = absurd e
In-all_times_extended (s ∷ ss) [] e u i = absurd e
In-all_times_extended (s ∷ ss) (t ∷ ts) e u i = elim (In-append_from u (times_of s.packets) (all_times ss) i) [
  | inl first ↦ In-append_left u (times_of t.packets) (all_times ts) (rw e.0.packets (In-times_of_append_left u s.packets e.0.further first))
  | inr later ↦ In-append_right u (times_of t.packets) (all_times ts) (In-all_times_extended ss ts e.1 u later)
]

pub In-all_times_below : {X : Type 0} (ss tt : List (StreamPrefix X)) → AreExtendedBy ss tt → (u : ℕ) → u < low ss → In u (all_times tt) → In u (all_times ss)
In-all_times_below [] [] e u below i = i
In-all_times_below [] (t ∷ ts) e u below i = absurd e
In-all_times_below (s ∷ ss) [] e u below i = absurd e
In-all_times_below (s ∷ ss) (t ∷ ts) e u below i = elim (In-append_from u (times_of t.packets) (all_times ts) i) [
  | inl first ↦ In-append_left u (times_of s.packets) (all_times ss) (elim (In-times_of_append_from u s.packets e.0.further (rw e.0.packets at first)) [
    | inl old ↦ old
    | inr new ↦ absurd (not-In-above s.bound u e.0.further e.0.above (omega (arith, below)) new)
  ])
  | inr later ↦ In-append_right u (times_of s.packets) (all_times ss) (In-all_times_below ss ts e.1 u (omega (arith, below)) later)
]

pub set_at_extended : {X : Type 0} (ss tt : List (StreamPrefix X)) → AreExtendedBy ss tt → (u : ℕ) → u < low ss → set_at u tt ≡ set_at u ss
set_at_extended [] [] e u below = refl
set_at_extended [] (t ∷ ts) e u below = absurd e
set_at_extended (s ∷ ss) [] e u below = absurd e
set_at_extended {X} (s ∷ ss) (t ∷ ts) e u below =
    ap₂ (λ (h : Option (Stamped X)) (rest : List (Option (Stamped X))). h ∷ rest)
    (rw e.0.packets (packet_at-append u s.packets e.0.further (not-In-above s.bound u e.0.further e.0.above (omega (arith, below)))))
    (set_at_extended ss ts e.1 u (omega (arith, below)))

-- the settled times of prefixes come first in those of the prefixes that extend them
pub settled_times_first : {X : Type 0} (ss tt : List (StreamPrefix X)) → AreExtendedBy ss tt → settled_times tt ≡ settled_times ss ++ drop (length (settled_times ss)) (settled_times tt)
settled_times_first ss tt e =
    first_members 0 0 (low ss) (settled_times ss) (settled_times tt) (settled_rises ss) (settled_rises tt)
    (λ t i. (let was = settled_from ss t i in (was.0, settled_to tt t (let up = low_rises ss tt e in omega (arith, up, was.0)) (In-all_times_extended ss tt e t was.1))))
    (λ t below i. (let is = settled_from tt t i in settled_to ss t below (In-all_times_below ss tt e t below is.1)))

-- rising times increase strictly, place by place
pub Rises-increasing : (a : ℕ) (ts : List ℕ) → Rises a ts → IsStrictlyIncreasing ts
Rises-increasing a [] r k below = absurd (omega (arith, below))
Rises-increasing a (t ∷ []) r k below = absurd (omega (arith, below))
Rises-increasing a (t ∷ u ∷ us) r zero below = (let next = r.1.0 in omega (arith, next))
Rises-increasing a (t ∷ u ∷ us) r (suc k) below = rw suc-add (Rises-increasing (t + 1) (u ∷ us) r.1 k (omega (arith, below)))

pub All-members : (P : ℕ → Type 0) (ts : List ℕ) → ((t : ℕ) → In t ts → P t) → AllByRecursion P ts
All-members P [] each = tt
All-members P (t ∷ ts) each = (each t (inl refl), All-members P ts (λ u i. each u (inr i)))

-- at the time of a packet the set shows one
pub packet_at-some : {X : Type 0} (t : ℕ) (ps : List (Stamped X)) → In t (times_of ps) → is_some (packet_at t ps) ≡ true
packet_at-some t [] i = absurd i
packet_at-some t (p ∷ ps) i = elim (cases_Bool (eqb p.at t)) [
  | inl here ↦ rw here refl
  | inr fails ↦ rw fails (elim i [ inl e ↦ absurd (let clash : eqb p.at t ≡ true = eq-eqb p.at t e in cc) | inr j ↦ packet_at-some t ps j ])
]

pub set_at-shows : {X : Type 0} (t : ℕ) (ss : List (StreamPrefix X)) → In t (all_times ss) → list_any is_some (set_at t ss) ≡ true
set_at-shows t [] i = absurd i
set_at-shows t (s ∷ ss) i = elim (In-append_from t (times_of s.packets) (all_times ss) i) [
  | inl first ↦ or_left _ _ (packet_at-some t s.packets first)
  | inr later ↦ or_right _ _ (set_at-shows t ss later)
]
