-- The streams so far, and then the node's outputs from this port on, are the given streams and all outputs of the node.
use Rattle.std.proofs.Common.{◌≡◌, ◌++◌, map, drop}
use Rattle.std.specs.List.{enumerate_from}
use Rattle.mg_calc.specs.declared.plan_stream.Producer.TheVariants.{Node}
use Rattle.mg_free.specs.Core.{written_by, output_streams}
use Rattle.mg_free.proofs.core_streams.add_outputs.Given as goal

abbrev pub invariant-loop-port : goal.invariant-loop-port
invariant-loop-port l =
    l.into.items ++ map (λ e. written_by l.plan e.1 (Node l.node e.0)) (enumerate_from l.port (drop l.port l.outputs)) ≡ l.fn.into.items ++ output_streams l.plan l.node l.outputs
