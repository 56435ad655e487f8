-- How often nodes stand in a list of their places in an order, and what is found at the levels.
use Rattle.std.specs.Prelude.{◌≡◌, ℕ, suc, ◌+◌, ◌-◌, ◌*◌, ◌%◌, ◌<◌, ◌≤◌, ◌==◌, if◌then◌else◌, List, [], ◌∷◌, length, min, Option, None, Some, slice_index, slice_get, slice_set}
use Rattle.mg_levels.specs.Balance.{weigh}
use Rattle.mg_levels.specs.Hands.{HandView, took_from, FoundEmpty}

-- the node at a place of an order. After the last place the order begins again
abbrev pub node_of : List ℕ → ℕ → ℕ
node_of order place = slice_index order (place % length order)

-- 1 where two numbers are equal, and 0 otherwise
abbrev pub once : ℕ → ℕ → ℕ
once x y = if y == x then 1 else 0

-- how often a number stands in a list
abbrev pub times : ℕ → List ℕ → ℕ
times x xs = weigh (once x) xs

-- how often places of a node stand in a list
abbrev pub times_of : List ℕ → ℕ → List ℕ → ℕ
times_of order node places = weigh (λ place. once node (node_of order place)) places

-- 1 if this node was taken out, and 0 otherwise
abbrev pub taken_once : Option ℕ → ℕ → ℕ
taken_once None node = 0
taken_once (Some x) node = once node x

-- how many entries a level has room for: four for each of its nodes
abbrev pub room_for : ℕ → ℕ → ℕ
room_for nodes level = 4 * min (nodes - 32 * level) 32

-- sums, number by number, up to the greatest number of 64 bits
abbrev pub sums : List ℕ → List ℕ → List ℕ
sums [] ys = []
sums (x ∷ xs) [] = []
sums (x ∷ xs) (y ∷ ys) = min (x + y) 18446744073709551615 ∷ sums xs ys

-- each level from this one on was empty at a moment of its own, which is counted; the others are as they were
pub record FoundEmptyFrom (from : ℕ) (old new : List HandView) : Type 0 where
  pub count : length new ≡ length old
  pub empty : (level : ℕ) (h w : HandView) → from ≤ level → slice_get old level ≡ Some h → slice_get new level ≡ Some w → FoundEmpty h w
  pub others : (level : ℕ) → level < from → slice_get new level ≡ slice_get old level

-- a place was taken out of a level, after each later level was found empty
pub record TookLast (place : ℕ) (old new : List HandView) : Type 0 where
  pub level : ℕ
  pub between : List HandView
  pub later : FoundEmptyFrom (suc level) old between
  pub hand : HandView
  pub at : slice_get between level ≡ Some hand
  pub taken : new ≡ slice_set between level (took_from hand place)
