use Rattle.std.proofs.Common.{◌≡◌}
use Rattle.mg_calc.specs.Shape.{ports as its_ports}
use Rattle.mg_calc.proofs.stated.ports.Given as goal

abbrev pub invariant-loop-index : goal.invariant-loop-index
invariant-loop-index l = l.list.items ≡ its_ports l.tag l.index l.kind
