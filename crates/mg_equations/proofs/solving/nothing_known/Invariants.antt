use Rattle.std.proofs.Common.{◌≡◌, replicate}
use Rattle.mg_settled.specs.Prefix.{empty_prefix}
use Rattle.mg_equations.proofs.solving.nothing_known.Given as goal

abbrev pub invariant-loop : goal.invariant-loop
invariant-loop l = l.streams.items ≡ replicate l.counter empty_prefix
