-- The side packets of a plan.
use Rattle.std.specs.Prelude.{ℕ, List}
use Rattle.mg_value.specs.Payload.{Plain}

-- where a side packet comes from: its place if the caller gives it, or a payload that stands in the graph
pub data PlainSideValue : Type 0 where
  given_at : ℕ → PlainSideValue
  fixed : Plain → PlainSideValue

-- a side packet of a plan: its name, and where it comes from
pub record PlainSide : Type 0 where
  pub name : List ℕ
  pub value : PlainSideValue
