use Rattle.std.proofs.Common.{◌≡◌, [], replicate}
use Rattle.mg_equations.proofs.readers.no_readers.Given as goal

abbrev pub invariant-loop : goal.invariant-loop
invariant-loop l = l.readers.items ≡ replicate l.counter []
