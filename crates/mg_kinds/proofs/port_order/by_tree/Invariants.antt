use Rattle.std.proofs.Common.{◌≡◌, ◌++◌, map, take}
use Rattle.mg_kinds.specs.PortOrder.{in_order}
use Rattle.mg_kinds.proofs.Sorted.{entry_port}
use Rattle.mg_kinds.proofs.port_order.by_tree.Given as goal

abbrev pub invariant-loop-i : goal.invariant-loop-i
invariant-loop-i l = map entry_port l.sorted.entries ≡ in_order (take l.i l.ports)

abbrev pub invariant-loop-key : goal.invariant-loop-key
invariant-loop-key l = l.out.items ++ map entry_port l.key-iterator ≡ in_order l.ports
