-- Inputs to which a further piece has come: in each stream the piece stands after what was there.
use Rattle.std.specs.Prelude.{◌≡◌, ℕ, ◌≤◌, List, length, All, Some, slice_get}
use Rattle.mg_value.specs.Payload.{Plain}
use Rattle.mg_settled.specs.Prefix.{StreamPrefix, IsPrefix}
use Rattle.mg_calc.specs.declared.inputs.Inputs.{Inputs}
use Rattle.mg_node.specs.Extending.{joined}

-- a prefix followed by a piece; no packet of the piece stands below the prefix's bound
pub record IsBehind (before piece now : StreamPrefix Plain) : Type 0 where
  pub whole : now ≡ joined before piece
  pub above : All (λ p. before.bound ≤ p.at) piece.packets

-- a stream's prefix is the prefix that the stream of this number had before, followed by its piece
abbrev pub IsBehindAt : List (StreamPrefix Plain) → List (StreamPrefix Plain) → ℕ → StreamPrefix Plain → Type 0
IsBehindAt before pieces input now = (s piece : StreamPrefix Plain) → slice_get before input ≡ Some s → slice_get pieces input ≡ Some piece → IsBehind s piece now

-- inputs followed by a piece: each stream is followed by its piece, and is a prefix
pub record HasBehind (before piece now : Inputs) : Type 0 where
  pub sides : now.sides ≡ before.sides
  pub pieces : length piece.streams ≡ length before.streams
  pub count : length now.streams ≡ length before.streams
  pub each : (input : ℕ) (s : StreamPrefix Plain) → slice_get now.streams input ≡ Some s → IsBehindAt before.streams piece.streams input s
  pub prefixes : All IsPrefix now.streams
