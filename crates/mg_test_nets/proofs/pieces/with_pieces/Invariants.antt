-- The streams so far are the first ones, each followed by its piece.
use Rattle.std.proofs.Common.{◌≡◌, length}
use Rattle.mg_sched.specs.Code.Made.{AtPlaces}
use Rattle.mg_test_nets.specs.Behind.{IsBehindAt}
use Rattle.mg_test_nets.proofs.pieces.with_pieces.Given as goal

abbrev pub invariant-loop-input : goal.invariant-loop-input
invariant-loop-input l = AtPlaces (IsBehindAt l.fn.before l.fn.pieces) l.longer.items × (length l.longer.items ≡ l.input)
