-- The engines of the first inputs are extended.
use Rattle.mg_sched.specs.Code.LongerAt.{AreLongerAt}
use Rattle.mg_sched.proofs.net.extending_some.extend_each_at.Given as goal

abbrev pub invariant-loop-i : goal.invariant-loop-i
invariant-loop-i g l = AreLongerAt l.fn.from l.fn.inputs l.fn.pieces l.i l.fn.engines l.engines
