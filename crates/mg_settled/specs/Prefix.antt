-- Streams, after the pages Packets and Synchronization of the MediaPipe framework. A stream is a sequence of packets
-- of ascending timestamps. What is known of it so far is a prefix: its first packets, and its bound, the lowest
-- timestamp that a further packet may have. Definitions speak of whole lists of packets.
use Rattle.std.specs.Prelude.{◌≡◌, ℕ, ◌≤◌, List, [], ◌∷◌, ◌++◌, length, max, All}
use Rattle.mg_time.specs.Time.{pre_stream, post_stream, done, IsAllowed, next}
use Rattle.mg_value.specs.Packet.{Stamped}

-- the first packets of a stream, and its bound
pub record StreamPrefix (X : Type 0) : Type 0 where
  pub packets : List (Stamped X)
  pub bound : ℕ

-- the time of the first packet, or the bound if there is none
abbrev pub first_time : {X : Type 0} → List (Stamped X) → ℕ → ℕ
first_time [] bound = bound
first_time (p ∷ _) bound = p.at

-- the lowest time that may follow a packet is at most the time of the packet after it. For the last packet it is at most the
-- bound
abbrev pub Ascends : {X : Type 0} → List (Stamped X) → ℕ → Type 0
Ascends [] bound = Unit {0}
Ascends (p ∷ ps) bound = (next p.at ≤ first_time ps bound) × Ascends ps bound

-- a packet at PostStream is the only one
abbrev pub StandsAlone : {X : Type 0} → List (Stamped X) → Type 0
StandsAlone ps = All (λ p. p.at ≡ post_stream → length ps ≡ 1) ps

-- the prefixes that a stream may have
pub record IsPrefix {X : Type 0} (s : StreamPrefix X) : Type 0 where
  pub opened : pre_stream ≤ s.bound
  pub within : s.bound ≤ done
  pub allowed : All (λ p. IsAllowed p.at) s.packets
  pub ascends : Ascends s.packets s.bound
  pub alone : StandsAlone s.packets

-- a stream about which nothing is known yet
abbrev pub empty_prefix : {X : Type 0} → StreamPrefix X
empty_prefix = record { packets = []; bound = pre_stream }

-- the prefix with a further packet, whose time moves the bound to what may follow it
abbrev pub appended : {X : Type 0} → StreamPrefix X → Stamped X → StreamPrefix X
appended s p = record { packets = s.packets ++ p ∷ []; bound = next p.at }

-- a packet may follow a prefix: its time is allowed and not below the bound, and at PostStream it is the first of all
pub record MayFollow {X : Type 0} (s : StreamPrefix X) (p : Stamped X) : Type 0 where
  pub allowed : IsAllowed p.at
  pub above : s.bound ≤ p.at
  pub alone : p.at ≡ post_stream → length s.packets ≡ 0

-- the prefix with further packets, one after the other
abbrev pub all_appended : {X : Type 0} → StreamPrefix X → List (Stamped X) → StreamPrefix X
all_appended s [] = s
all_appended s (p ∷ ps) = all_appended (appended s p) ps

-- some packets may follow a prefix, one after the other
abbrev pub MayAllFollow : {X : Type 0} → StreamPrefix X → List (Stamped X) → Type 0
MayAllFollow s [] = Unit {0}
MayAllFollow s (p ∷ ps) = MayFollow s p × MayAllFollow (appended s p) ps

-- the prefix raised to a bound: the greater of the two bounds stands
abbrev pub raised : {X : Type 0} → StreamPrefix X → ℕ → StreamPrefix X
raised s b = record { packets = s.packets; bound = max s.bound b }

-- the prefix of a closed stream
abbrev pub closed : {X : Type 0} → StreamPrefix X → StreamPrefix X
closed s = record { packets = s.packets; bound = done }
