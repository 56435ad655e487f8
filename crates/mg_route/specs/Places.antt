-- What is at places that go by number, as a list.
use Rattle.std.specs.Prelude.{ℕ, List, map}
use Rattle.std.specs.List.{range_with_len}

-- what is at the first count places, in order
abbrev pub first_places : {X : Type 0} → (ℕ → X) → ℕ → List X
first_places place count = map place (range_with_len 0 count)
