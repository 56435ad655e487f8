-- Those before the index are raised.
use Rattle.std.proofs.Common.{◌≡◌, ◌++◌, map, take, drop}
use Rattle.mg_settled.specs.Prefix.{raised}
use Rattle.mg_equations.proofs.laying.raise_all.Given as goal

abbrev pub invariant-loop-output : goal.invariant-loop-output
invariant-loop-output l = l.outputs ≡ map (λ output. raised output l.bound) (take l.output-index l.fn.outputs) ++ drop l.output-index l.fn.outputs
