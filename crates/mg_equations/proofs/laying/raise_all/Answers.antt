use Rattle.std.proofs.Common.{arith}
use Rattle.mg_settled.specs.Prefix.{raised}
use Rattle.mg_route.proofs.LayingLemmas.{mapped_further}
use Rattle.mg_equations.proofs.laying.raise_all.Goals as goal

pub loop-output-preserved : goal.loop-output-preserved
loop-output-preserved c =
    mapped_further (λ output. raised output c.shift-bound.result) c.args.outputs.now c.loop-output.outputs c.loop-output.output-index c.output-item.result _ (omega arith) c.output-item.is c.raise.ensures c.loop-output.invariant
