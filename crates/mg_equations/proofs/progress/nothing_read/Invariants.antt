use Rattle.std.proofs.Common.{◌≡◌, replicate}
use Rattle.mg_equations.proofs.progress.nothing_read.Given as goal

abbrev pub invariant-loop : goal.invariant-loop
invariant-loop l = l.read.items ≡ replicate l.counter 0
