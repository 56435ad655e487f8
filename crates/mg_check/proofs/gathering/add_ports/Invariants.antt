-- The list so far, followed by what the remaining ports give, is the whole list.
use Rattle.std.proofs.Common.{◌≡◌, ◌++◌, drop}
use Rattle.mg_kinds.specs.Kinds.{names_of}
use Rattle.mg_subgraph.specs.Refusals.{port_names}
use Rattle.mg_check.proofs.gathering.add_ports.Given as goal

abbrev pub invariant-loop-i : goal.invariant-loop-i
invariant-loop-i l = names_of l.out.items ++ port_names (drop l.i l.ports) ≡ names_of l.fn.out.items ++ port_names l.ports
