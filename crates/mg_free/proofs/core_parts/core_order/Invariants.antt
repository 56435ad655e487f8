-- The order so far, and then the core's nodes among those that are left, are the whole order of the core.
use Rattle.std.proofs.Common.{◌≡◌, ◌++◌, map, filter, not, drop}
use Rattle.mg_free.specs.Core.{is_free_at, node_number, order_of}
use Rattle.mg_free.proofs.core_parts.core_order.Given as goal

abbrev pub invariant-loop-node : goal.invariant-loop-node
invariant-loop-node l = l.order.items ++ map (node_number l.plan) (filter (λ n. not (is_free_at l.plan n)) (drop l.node-index l.node-items)) ≡ order_of l.plan
