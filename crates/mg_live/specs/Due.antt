-- Which free nodes are due, and what is known of the others: they have nothing to do.
use Rattle.std.specs.Prelude.{◌≡◌, ℕ, false, List, Some, slice_get}
use Rattle.mg_value.specs.Payload.{Plain}
use Rattle.mg_settled.specs.Prefix.{StreamPrefix}
use Rattle.mg_free.specs.declared.node.FreeNode.{FreeNode}
use Rattle.mg_free.specs.Rounds.{Taken, turn}
use Rattle.mg_live.specs.declared.due.Due.{Due}
use Rattle.mg_live.specs.declared.taker.Taker.{Taker}
use Rattle.mg_live.specs.Takes.{HasTaken, IsNoneOf}

-- the free node at a place isn't due
abbrev pub IsUndue : Due → ℕ → Type 0
IsUndue due place = (due.all ≡ false) × IsNoneOf due.places.items place

-- A free node is idle in the given streams: whatever it has taken, by its taker, a turn changes nothing of that.
abbrev pub IsIdle : List (StreamPrefix Plain) → FreeNode → Taker → Type 0
IsIdle streams free taker = (taken : Taken) → HasTaken free taken taker → turn streams free taken ≡ taken

-- each free node at a place of some kind, as those that aren't due, is idle in the given streams
abbrev pub AreIdleBut : (ℕ → Type 0) → List (StreamPrefix Plain) → List FreeNode → List Taker → Type 0
AreIdleBut undue streams frees takers = (place : ℕ) (free : FreeNode) (taker : Taker) → undue place → slice_get frees place ≡ Some free → slice_get takers place ≡ Some taker → IsIdle streams free taker
