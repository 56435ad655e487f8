-- The sum of the places so far, which is no further from 0 than 2^63 for each.
use Rattle.std.proofs.Common.{◌≡◌, ◌*◌, take, pos, neg_ℤ, ◌≤ℤ◌}
use Rattle.mg_calc.specs.Values.{total}
use Rattle.mg_calc.proofs.numbers_in.total.Given as goal

abbrev pub invariant-loop-port : goal.invariant-loop-port
invariant-loop-port l = (l.sum ≡ total (take l.port l.set)) × (neg_ℤ (pos (9223372036854775808 * l.port)) ≤ℤ l.sum) × (l.sum ≤ℤ pos (9223372036854775808 * l.port))
