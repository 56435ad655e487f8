use Rattle.std.proofs.Common.{◌≡◌, replicate}
use Rattle.mg_settled.specs.Prefix.{empty_prefix}
use Rattle.mg_equations.proofs.outcome.empty_outputs.Given as goal

abbrev pub invariant-loop : goal.invariant-loop
invariant-loop l = l.outputs.items ≡ replicate l.counter empty_prefix
