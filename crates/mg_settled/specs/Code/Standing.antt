-- The rule of streams, packet by packet.
use Rattle.std.specs.Prelude.{◌≡◌, ℕ, ◌≤◌, List, [], ◌∷◌}
use Rattle.mg_time.specs.Time.{post_stream, IsAllowed, next}
use Rattle.mg_value.specs.Packet.{Stamped}

-- a packet may stand at this time in a stream of `count` packets, and isn't below `lowest`
pub record MayStand (count lowest at : ℕ) : Type 0 where
  pub allowed : IsAllowed at
  pub above : lowest ≤ at
  pub alone : at ≡ post_stream → count ≡ 1

-- some packets may stand one after the other, the first no lower than `lowest`, and all up to a bound
abbrev pub Stand : {X : Type 0} → ℕ → ℕ → List (Stamped X) → ℕ → Type 0
Stand count lowest [] bound = lowest ≤ bound
Stand count lowest (p ∷ ps) bound = MayStand count lowest p.at × Stand count (next p.at) ps bound
