use Rattle.std.proofs.Common.{◌≡◌, ◌++◌, map, take}
use Rattle.mg_text.specs.View.{field_view}
use Rattle.mg_config.specs.Config.{node_view}
use Rattle.mg_config.specs.Written.{node_entry}
use Rattle.mg_config.proofs.writing.put_nodes.Given as goal

abbrev pub invariant-loop-node : goal.invariant-loop-node
invariant-loop-node l = map field_view l.out.items ≡ map field_view l.fn.out.items ++ map (λ node. node_entry (node_view node)) (take l.node-index l.nodes)
