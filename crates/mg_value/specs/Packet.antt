-- Packets, after the page Packets of the MediaPipe framework.
use Rattle.std.specs.Prelude.{ℕ}

-- a packet: a value at a time
pub record Stamped (X : Type 0) : Type 0 where
  pub at : ℕ
  pub value : X
