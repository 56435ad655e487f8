-- A round while it goes on: sorted places of free nodes, and what became of the nodes at the first of them.
use Rattle.std.specs.Prelude.{◌≡◌, ◌⊎◌, ℕ, ◌<◌, Bool, true, false, List, length, Some, slice_get}
use Rattle.mg_value.specs.Payload.{Plain}
use Rattle.mg_settled.specs.Prefix.{StreamPrefix}
use Rattle.mg_free.specs.declared.node.FreeNode.{FreeNode}
use Rattle.mg_free.specs.Rounds.{Taken, turn}
use Rattle.mg_live.specs.declared.taker.Taker.{Taker}
use Rattle.mg_live.specs.Takes.{HasTaken, Did}

-- a list has the numbers below a count, in order
pub record HasAllBelow (count : ℕ) (numbers : List ℕ) : Type 0 where
  pub long : length numbers ≡ count
  pub each : (i number : ℕ) → slice_get numbers i ≡ Some number → number ≡ i

-- all numbers before one of a list are lower than it
abbrev pub IsFirst : List ℕ → ℕ → Type 0
IsFirst numbers i = (j number other : ℕ) → j < i → slice_get numbers j ≡ Some number → slice_get numbers i ≡ Some other → number < other

-- the number at a place stands in the list before that place too
pub record StandsBefore (numbers : List ℕ) (i : ℕ) : Type 0 where
  pub j : ℕ
  pub before : j < i
  pub same : slice_get numbers j ≡ slice_get numbers i

-- A free node has had its turn. If it did nothing, its taker is as it was
pub record Turns (did : Bool) (streams : List (StreamPrefix Plain)) (free : FreeNode) (taker now : Taker) : Type 0 where
  pub taken : (taken : Taken) → HasTaken free taken taker → HasTaken free (turn streams free taken) now
  pub changes : (taken : Taken) → HasTaken free taken taker → Did did taken (turn streams free taken)
  pub idle : did ≡ false → now ≡ taker

-- the free node at a place, which stands for the first time in a list, has had its turn, if there is such a node
pub record FirstTurn (streams : List (StreamPrefix Plain)) (frees : List FreeNode) (due : List ℕ) (i : ℕ) (did : Bool) (before now : List Taker) : Type 0 where
  pub first : IsFirst due i
  pub within : did ≡ true → (place : ℕ) → slice_get due i ≡ Some place → place < length frees
  pub turns : (place : ℕ) (free : FreeNode) (taker taker_now : Taker) → slice_get due i ≡ Some place → slice_get frees place ≡ Some free → slice_get before place ≡ Some taker → slice_get now place ≡ Some taker_now
      → Turns did streams free taker taker_now

-- nothing is done, as the place stands earlier in the list too
pub record NoTurn (due : List ℕ) (i : ℕ) (did : Bool) (before now : List Taker) : Type 0 where
  pub again : StandsBefore due i
  pub none : did ≡ false
  pub same : now ≡ before

-- what became of the takers when it was the turn of the place that stands at `i` in a list
abbrev pub HadTurn : List (StreamPrefix Plain) → List FreeNode → List ℕ → ℕ → Bool → List Taker → List Taker → Type 0
HadTurn streams frees due i did before now = NoTurn due i did before now ⊎ FirstTurn streams frees due i did before now
