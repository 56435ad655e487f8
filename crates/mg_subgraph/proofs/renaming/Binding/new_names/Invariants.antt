use Rattle.std.proofs.Common.{◌≡◌, map, take}
use Rattle.mg_subgraph.specs.Code.Bindings.{new_name}
use Rattle.mg_subgraph.proofs.renaming.Binding.new_names.Given as goal

abbrev pub invariant-loop-i : goal.invariant-loop-i
invariant-loop-i l = l.names.items ≡ map (λ port. new_name l.self l.prefix port.name) (take l.i l.ports)
