-- Those so far.
use Rattle.std.proofs.Common.{◌≡◌, ◌++◌, map}
use Rattle.mg_calc.specs.Plan.{numbers}
use Rattle.mg_calc.specs.declared.plan_stream.Producer.TheVariants.{Input}
use Rattle.mg_check.proofs.linking.add_inputs.Given as goal

abbrev pub invariant-loop-number : goal.invariant-loop-number
invariant-loop-number l = l.out.items ≡ l.fn.out.items ++ map Input (numbers l.number)
