use Rattle.std.proofs.Common.{◌≡◌, ◌-◌}
use Rattle.mg_check.specs.Order.{order_of, taken_on}
use Rattle.mg_check.specs.Code.Taking.{IsAfter}
use Rattle.mg_check.proofs.ordering.order_of.Given as goal

abbrev pub invariant-loop : goal.invariant-loop
invariant-loop l = record {
  same : taken_on (l.count - l.counter) l.count l.links l.taking.order.items ≡ order_of l.count l.sources l.links;
  after : IsAfter l.count l.links l.taking.order.items l.taking.taken.items l.taking.waiting.items l.taking.ready;
}
