-- Those before the index are raised.
use Rattle.std.proofs.Common.{◌≡◌, ◌++◌, map, take, drop}
use Rattle.mg_value.specs.Payload.{Plain}
use Rattle.mg_stream.specs.Queue.{Waiting, raised_to}
use Rattle.mg_node.proofs.raising.raise_each.Given as goal

abbrev pub invariant-loop-output : goal.invariant-loop-output
invariant-loop-output l = l.outputs ≡ map (λ (q : Waiting Plain). raised_to q l.fn.bound) (take l.output-index l.fn.outputs) ++ drop l.output-index l.fn.outputs
