-- The bounds so far are those of the first graph inputs.
use Rattle.std.proofs.Common.{◌≡◌, length}
use Rattle.mg_sched.specs.Code.Made.{AtPlaces}
use Rattle.mg_sched.specs.Code.Longer.{IsBound}
use Rattle.mg_sched.proofs.net.extending.bounds_of.Given as goal

abbrev pub invariant-loop-input : goal.invariant-loop-input
invariant-loop-input g l = AtPlaces (IsBound l.fn.from l.fn.engines) l.bounds.items × (length l.bounds.items ≡ l.input)
