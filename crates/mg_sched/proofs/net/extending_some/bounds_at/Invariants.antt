-- The bounds so far are those of the first inputs.
use Rattle.std.proofs.Common.{◌≡◌, length}
use Rattle.mg_sched.specs.Code.Made.{AtPlaces}
use Rattle.mg_sched.specs.Code.LongerAt.{IsBoundAt}
use Rattle.mg_sched.proofs.net.extending_some.bounds_at.Given as goal

abbrev pub invariant-loop-i : goal.invariant-loop-i
invariant-loop-i g l = AtPlaces (IsBoundAt l.fn.from l.fn.inputs l.fn.engines) l.bounds.items × (length l.bounds.items ≡ l.i)
