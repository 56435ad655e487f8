-- The readers of the first places are due.
use Rattle.std.proofs.Common.{◌≡◌, ℕ, ◌<◌, Some, length, slice_get}
use Rattle.mg_live.specs.Due.{IsUndue}
use Rattle.mg_drive.specs.Code.Readers.{HasReader}
use Rattle.mg_drive.proofs.readers.Readers.wake.Given as goal

abbrev pub invariant-loop-i : goal.invariant-loop-i
invariant-loop-i l = record {
  woken : (k place reader : ℕ) → k < l.i → slice_get l.moved.places.items k ≡ Some place → HasReader l.self.by_place.items place reader → place < length l.self.by_place.items → ¬ IsUndue l.due reader;
  others : (other : ℕ) → IsUndue l.due other → IsUndue l.initial.due other;
}
