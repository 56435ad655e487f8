-- Packets whose times ascend from a time on, up to a bound.
use Rattle.std.proofs.Common.{◌≡◌, ℕ, zero, suc, ◌+◌, ◌<◌, ◌≤◌, List, [], ◌∷◌, take, drop, All, Some, refl, arith, eq-eqb, ne_eqb}
use Rattle.std.specs.List.{AllByRecursion}
use Rattle.std.proofs.lemmas.List.Elements.{All-from_recursion, recursion_from_All, All-weaker, All-head, All-tail}
use Rattle.mg_time.specs.Time.{IsAllowed}
use Rattle.mg_value.specs.Packet.{Stamped}
use Rattle.mg_settled.specs.Prefix.{StreamPrefix, IsPrefix, Ascends, first_time}
use Rattle.mg_settled.specs.Settled.{times_of, packet_at}
use Rattle.mg_settled.proofs.Times.{Rises}
use Rattle.mg_settled.proofs.PrefixSteps.{next_above}

abbrev pub Climbs : {X : Type 0} → ℕ → List (Stamped X) → ℕ → Type 0
Climbs a [] b = a ≤ b
Climbs a (p ∷ ps) b = (a ≤ p.at) × Climbs (p.at + 1) ps b

pub Ascends-climbs : {X : Type 0} (a b : ℕ) (ps : List (Stamped X)) → AllByRecursion (λ p. IsAllowed p.at) ps → Ascends ps b → a ≤ first_time ps b → Climbs a ps b
Ascends-climbs a b [] allowed r le = le
Ascends-climbs a b (p ∷ ps) allowed r le = (le, Ascends-climbs (p.at + 1) b ps allowed.1 r.1 (let up = next_above p.at allowed.0 in omega (arith, up, r.0)))

pub prefix-climbs : {X : Type 0} (s : StreamPrefix X) → IsPrefix s → Climbs 0 s.packets s.bound
prefix-climbs {X} s h = Ascends-climbs 0 s.bound s.packets (recursion_from_All (λ (p : Stamped X). IsAllowed p.at) s.packets h.allowed) h.ascends (omega arith)

pub Climbs-rises : {X : Type 0} (a b : ℕ) (ps : List (Stamped X)) → Climbs a ps b → Rises a (times_of ps)
Climbs-rises a b [] c = tt
Climbs-rises a b (p ∷ ps) c = (c.0, Climbs-rises (p.at + 1) b ps c.1)

pub prefix-rises : {X : Type 0} (s : StreamPrefix X) → IsPrefix s → Rises 0 (times_of s.packets)
prefix-rises s h = Climbs-rises 0 s.bound s.packets (prefix-climbs s h)

pub Climbs-lower : {X : Type 0} (a c b : ℕ) (ps : List (Stamped X)) → a ≤ c → Climbs c ps b → Climbs a ps b
Climbs-lower a c b [] le h = omega (arith, le, h)
Climbs-lower a c b (p ∷ ps) le h = (omega (arith, le, h.0), h.1)

pub Climbs-drop : {X : Type 0} (a b n : ℕ) (ps : List (Stamped X)) → Climbs a ps b → Climbs a (drop n ps) b
Climbs-drop a b zero ps h = h
Climbs-drop a b (suc n) [] h = h
Climbs-drop a b (suc n) (p ∷ ps) h = Climbs-lower a (p.at + 1) b (drop n ps) (omega (arith, h.0)) (Climbs-drop (p.at + 1) b n ps h.1)

pub Climbs-take : {X : Type 0} (a b n : ℕ) (ps : List (Stamped X)) → Climbs a ps b → Rises a (times_of (take n ps))
Climbs-take a b zero ps h = tt
Climbs-take a b (suc n) [] h = tt
Climbs-take a b (suc n) (p ∷ ps) h = (h.0, Climbs-take (p.at + 1) b n ps h.1)

-- the first of them isn't below the start, nor is any
pub Climbs-first : {X : Type 0} (a b : ℕ) (ps : List (Stamped X)) → Climbs a ps b → a ≤ first_time ps b
Climbs-first a b [] h = h
Climbs-first a b (p ∷ ps) h = h.0

pub Climbs-most : {X : Type 0} (a b : ℕ) (ps : List (Stamped X)) → Climbs a ps b → first_time ps b ≤ b
Climbs-most a b [] h = omega arith
Climbs-most a b (p ∷ ps) h = let first = Climbs-first (p.at + 1) b ps h.1 in let later = Climbs-most (p.at + 1) b ps h.1 in omega (arith, first, later)

pub Climbs-from : {X : Type 0} (a b : ℕ) (ps : List (Stamped X)) → Climbs a ps b → AllByRecursion (λ p. a ≤ p.at) ps
Climbs-from a b [] h = tt
Climbs-from {X} a b (p ∷ ps) h =
    let later = All-from_recursion (λ (q : Stamped X). p.at + 1 ≤ q.at) ps (Climbs-from (p.at + 1) b ps h.1) in
    (h.0, recursion_from_All (λ (q : Stamped X). a ≤ q.at) ps (All-weaker (λ (q : Stamped X). p.at + 1 ≤ q.at) (λ (q : Stamped X). a ≤ q.at) (λ q le. (let first = h.0 in omega (arith, le, first))) ps later))

-- the first packets stand below the time of the packet after them
pub Climbs-front : {X : Type 0} (a b n : ℕ) (ps : List (Stamped X)) → Climbs a ps b → AllByRecursion (λ p. p.at < first_time (drop n ps) b) (take n ps)
Climbs-front a b zero ps h = tt
Climbs-front a b (suc n) [] h = tt
Climbs-front a b (suc n) (p ∷ ps) h = ((let first = Climbs-first (p.at + 1) b (drop n ps) (Climbs-drop (p.at + 1) b n ps h.1) in omega (arith, first)), Climbs-front (p.at + 1) b n ps h.1)

-- each packet is the one at its time
pub Climbs-finds : {X : Type 0} (a b : ℕ) (ps : List (Stamped X)) → Climbs a ps b → AllByRecursion (λ p. (a ≤ p.at) × (packet_at p.at ps ≡ Some p)) ps
Climbs-finds a b [] h = tt
Climbs-finds {X} a b (p ∷ ps) h =
    let Here : Stamped X → Type 0 = λ q. (p.at + 1 ≤ q.at) × (packet_at q.at ps ≡ Some q) in
    let There : Stamped X → Type 0 = λ q. (a ≤ q.at) × (packet_at q.at (p ∷ ps) ≡ Some q) in
    let first = h.0 in
    let later = All-from_recursion Here ps (Climbs-finds (p.at + 1) b ps h.1) in
    let past : (q : Stamped X) → Here q → There q = λ q k. (let above = k.0 in (omega (arith, above, first), rw (ne_eqb p.at q.at (λ e. omega (arith, e, above))) k.1)) in
    ((first, rw (eq-eqb p.at p.at refl) refl), recursion_from_All There ps (All-weaker Here There past ps later))

-- packets after others that climb, all at a bound of these or above
pub above-first : {X : Type 0} (b c n : ℕ) (ps : List (Stamped X)) → All (λ p. b ≤ p.at) ps → b ≤ c → b ≤ first_time (drop n ps) c
above-first b c zero [] above le = le
above-first {X} b c zero (p ∷ ps) above le = All-head (λ (q : Stamped X). b ≤ q.at) p ps above
above-first b c (suc n) [] above le = le
above-first {X} b c (suc n) (p ∷ ps) above le = above-first b c n ps (All-tail (λ (q : Stamped X). b ≤ q.at) p ps above) le
