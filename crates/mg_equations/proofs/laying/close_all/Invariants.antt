-- Those before the index are closed.
use Rattle.std.proofs.Common.{◌≡◌, ◌++◌, map, take, drop}
use Rattle.mg_settled.specs.Prefix.{closed}
use Rattle.mg_equations.proofs.laying.close_all.Given as goal

abbrev pub invariant-loop-output : goal.invariant-loop-output
invariant-loop-output l = l.outputs ≡ map closed (take l.output-index l.fn.outputs) ++ drop l.output-index l.fn.outputs
