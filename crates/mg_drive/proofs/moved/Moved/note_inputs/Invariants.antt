-- The first inputs are noted.
use Rattle.std.proofs.Common.{◌≡◌, ℕ, ◌+◌, ◌<◌, Some, slice_get}
use Rattle.mg_drive.specs.Nets.{IsUnmoved}
use Rattle.mg_drive.proofs.moved.Moved.note_inputs.Given as goal

abbrev pub invariant-loop-i : goal.invariant-loop-i
invariant-loop-i l = record {
  noted : (k input : ℕ) → k < l.i → slice_get l.inputs k ≡ Some input → ¬ IsUnmoved l.self (l.first + input);
  others : (other : ℕ) → IsUnmoved l.self other → IsUnmoved l.initial.self other;
}
