use Rattle.std.proofs.Common.{◌≡◌, ℕ, ◌<◌, None, option_and_then, slice_get}
use Rattle.mg_node.specs.Shelves.{shelf_of}
use Rattle.mg_node.proofs.window.first_shelf.Given as goal

abbrev pub invariant-loop-place : goal.invariant-loop-place
invariant-loop-place g l = (k : ℕ) → k < l.place → option_and_then shelf_of (slice_get l.window.items k) ≡ None
