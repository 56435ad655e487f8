-- Lists of the edges of a plan, as contracts see them.
use Rattle.std.specs.Prelude.{ℕ}

-- how many places the lists are for, and how many edges they have
pub record LeadsView : Type 0 where
  pub places : ℕ
  pub edges : ℕ
