use Rattle.std.proofs.Common.{◌≡◌, drop}
use Rattle.mg_subgraph.specs.Refusals.{port_beyond}
use Rattle.mg_subgraph.proofs.nodes.port_beyond.Given as goal
use Rattle.std.specs.Prelude.{find, not}
use Rattle.mg_names.specs.Ports.{has_port}

abbrev pub invariant-loop-i : goal.invariant-loop-i
invariant-loop-i l = port_beyond l.given l.ports ≡ find (λ port. not (has_port port.tag port.index l.ports)) (drop l.i l.given)
