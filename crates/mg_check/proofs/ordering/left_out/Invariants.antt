use Rattle.std.proofs.Common.{◌≡◌}
use Rattle.mg_check.specs.Order.{left_out}
use Rattle.mg_check.proofs.ordering.left_out.Given as goal

abbrev pub invariant-loop-number : goal.invariant-loop-number
invariant-loop-number l = l.out.items ≡ left_out l.number l.order
