-- The first readers are due.
use Rattle.std.proofs.Common.{◌≡◌, ℕ, ◌<◌, Some, slice_get}
use Rattle.mg_live.specs.Due.{IsUndue}
use Rattle.mg_drive.proofs.readers.wake_each.Given as goal

abbrev pub invariant-loop-i : goal.invariant-loop-i
invariant-loop-i l = record {
  woken : (k reader : ℕ) → k < l.i → slice_get l.readers k ≡ Some reader → ¬ IsUndue l.due reader;
  others : (other : ℕ) → IsUndue l.due other → IsUndue l.initial.due other;
}
