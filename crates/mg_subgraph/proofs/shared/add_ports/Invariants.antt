use Rattle.std.proofs.Common.{ℕ, ◌≡◌, ◌++◌, List, take, length}
use Rattle.mg_subgraph.specs.Code.Index.{IsIndex}
use Rattle.mg_subgraph.specs.Refusals.{port_names}
use Rattle.mg_subgraph.proofs.shared.add_ports.Given as goal

abbrev pub invariant-loop-i : goal.invariant-loop-i
invariant-loop-i l = (texts : List (List ℕ)) → length texts ≡ l.from → IsIndex l.initial.table texts → IsIndex l.table (texts ++ take l.i (port_names l.ports))
