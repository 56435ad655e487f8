-- The place of each node in a table by its number.
use Rattle.std.specs.Prelude.{◌≡◌, ℕ, ◌^◌, ◌<◌, List, length, slice_index}

-- the table leads from the node at each place of the order back to this place
pub record IsTable (order places : List ℕ) : Type 0 where
  pub inside : (p : ℕ) → p < length order → slice_index order p < length places
  pub back : (p : ℕ) → p < length order → slice_index places (slice_index order p) ≡ p

-- an order of fewer than 2^32 nodes is kept with the table of their places
pub record IsKept (order places : List ℕ) : Type 0 where
  pub few : length order < 2 ^ 32
  pub table : IsTable order places
