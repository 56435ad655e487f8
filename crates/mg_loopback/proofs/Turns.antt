-- The answer to a packet of MAIN by its number: it asks for no more of MAIN than this packet and the one before it.
use Rattle.std.proofs.Common.{◌≡◌, ℕ, zero, suc, ◌+◌, ◌<◌, ◌≤◌, inl, inr, List, [], ◌∷◌, zip, map, drop, length, Option, Some, None, option_map, slice_get, ap, refl, arith}
use Rattle.std.specs.List.{prefix_len, take_while}
use Rattle.std.proofs.lemmas.Bool.{cases_Bool}
use Rattle.std.specs.Prelude.{if◌then◌else◌}
use Rattle.mg_value.specs.Packet.{Stamped}
use Rattle.mg_settled.specs.Prefix.{StreamPrefix}
use Rattle.mg_settled.specs.Loopback.{is_answered, Reply, reply}
use Rattle.mg_settled.proofs.Fronts.{one_more}
use Rattle.mg_loopback.specs.Standing.{time_before}

-- the packets of a list, each with the one before it, and the first with another packet, or none
abbrev pub turns : {X : Type 0} → Option (Stamped X) → List (Stamped X) → List (Option (Stamped X) × Stamped X)
turns o ps = zip (o ∷ map (λ p. Some p) ps) ps

-- the packet before the first that is left of them without k
abbrev pub before : {X : Type 0} → Option (Stamped X) → ℕ → List (Stamped X) → Option (Stamped X)
before o zero ps = o
before o (suc k) [] = o
before o (suc k) (p ∷ ps) = before (Some p) k ps

-- the answer to the first of some packets, after another packet
abbrev pub first_reply : {X : Type 0} → StreamPrefix X → Option (Stamped X) → List (Stamped X) → Option (Reply X)
first_reply loop o [] = None
first_reply loop o (p ∷ ps) = if is_answered loop (o, p) then Some (reply loop (o, p)) else None

pub get-reply : {X : Type 0} (loop : StreamPrefix X) (o : Option (Stamped X)) (k : ℕ) (ps : List (Stamped X)) → k ≤ prefix_len (is_answered loop) (turns o ps)
    → slice_get (map (reply loop) (take_while (is_answered loop) (turns o ps))) k ≡ first_reply loop (before o k ps) (drop k ps)
get-reply loop o zero [] le = refl
get-reply loop o zero (p ∷ ps) le = elim (cases_Bool (is_answered loop (o, p))) [
  | inl here ↦ rw (here, one_more (prefix_len (is_answered loop) (turns (Some p) ps))) refl
  | inr fails ↦ rw fails refl
]
get-reply loop o (suc k) [] le = refl
get-reply loop o (suc k) (p ∷ ps) le = elim (cases_Bool (is_answered loop (o, p))) [
  | inl here ↦
      (let few : k ≤ prefix_len (is_answered loop) (turns (Some p) ps) = (let le' : suc k ≤ 1 + prefix_len (is_answered loop) (turns (Some p) ps) = rw here at le in omega (arith, le')) in
      rw (here, one_more (prefix_len (is_answered loop) (turns (Some p) ps))) (get-reply loop (Some p) k ps few))
  | inr fails ↦ absurd (let le' : suc k ≤ 0 = rw fails at le in omega (arith, le'))
]

before-is : {X : Type 0} (o : Option (Stamped X)) (k : ℕ) (ps : List (Stamped X)) → k < length ps → before o (suc k) ps ≡ slice_get ps k
before-is o k [] lt = absurd (omega (arith, lt))
before-is o zero (p ∷ ps) lt = refl
before-is o (suc k) (p ∷ ps) lt = before-is (Some p) k ps (omega (arith, lt))

pub before-time : {X : Type 0} (k : ℕ) (ps : List (Stamped X)) → k ≤ length ps → option_map (λ p. p.at) (before None k ps) ≡ time_before k ps
before-time zero ps le = refl
before-time {X} (suc k) ps le = ap (λ (o : Option (Stamped X)). option_map (λ p. p.at) o) (before-is None k ps (omega (arith, le)))
