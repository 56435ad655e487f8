use Rattle.std.proofs.Common.{arith}
use Rattle.mg_value.specs.Payload.{Plain}
use Rattle.mg_stream.specs.Queue.{Waiting, raised_to}
use Rattle.mg_route.proofs.LayingLemmas.{mapped_further}
use Rattle.mg_node.proofs.raising.raise_each.Goals as goal

pub loop-output-preserved : goal.loop-output-preserved
loop-output-preserved c =
    mapped_further (λ (q : Waiting Plain). raised_to q c.args.bound) c.args.outputs.now c.loop-output.outputs c.loop-output.output-index c.output-item.result _ (omega arith) c.output-item.is c.raise.ensures.raised c.loop-output.invariant
