use Rattle.std.proofs.Common.{◌≡◌, drop}
use Rattle.std.specs.Prelude.{find}
use Rattle.mg_subgraph.specs.Names.{is_reserved}
use Rattle.mg_subgraph.specs.Refusals.{port_names}
use Rattle.mg_subgraph.proofs.reserved.reserved_port.Given as goal

abbrev pub invariant-loop-i : goal.invariant-loop-i
invariant-loop-i l = find is_reserved (port_names l.ports) ≡ find is_reserved (port_names (drop l.i l.ports))
