-- The engines of the first pieces are extended.
use Rattle.mg_sched.specs.Code.Longer.{AreLonger}
use Rattle.mg_sched.proofs.net.extending.extend_each.Given as goal

abbrev pub invariant-loop-input : goal.invariant-loop-input
invariant-loop-input g l = AreLonger l.fn.from l.fn.pieces l.input l.fn.engines l.engines
