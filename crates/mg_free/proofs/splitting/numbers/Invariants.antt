-- The numbers so far, and then those from this one on, are all numbers below the count.
use Rattle.std.proofs.Common.{◌≡◌, ◌++◌, ◌-◌}
use Rattle.std.specs.List.{range_with_len}
use Rattle.mg_calc.specs.Plan.{numbers}
use Rattle.mg_free.proofs.splitting.numbers.Given as goal

abbrev pub invariant-loop-number : goal.invariant-loop-number
invariant-loop-number l = l.numbers.items ++ range_with_len l.number (l.count - l.number) ≡ numbers l.count
