use Rattle.std.proofs.Common.{◌≡◌, replicate, None}
use Rattle.mg_settled.proofs.input_set.InputSet.new.Given as goal

abbrev pub invariant-loop : goal.invariant-loop
invariant-loop l = l.places.items ≡ replicate l.counter None
