-- Those so far.
use Rattle.std.proofs.Common.{◌≡◌, ◌++◌, map}
use Rattle.mg_calc.specs.Plan.{numbers}
use Rattle.mg_calc.specs.declared.plan_stream.Producer.TheVariants.{Node}
use Rattle.mg_check.proofs.linking.add_outputs.Given as goal

abbrev pub invariant-loop-port : goal.invariant-loop-port
invariant-loop-port l = l.out.items ≡ l.fn.out.items ++ map (Node l.node) (numbers l.port)
