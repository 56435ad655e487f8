use Rattle.std.proofs.Common.{◌≡◌, ◌++◌, ℕ, map}
use Rattle.mg_config.specs.Config.{NodeView, GraphView, node_view}
use Rattle.mg_subgraph.specs.Names.{renamed}
use Rattle.mg_subgraph.specs.Code.Bindings.{IsUse}
use Rattle.mg_subgraph.proofs.expanding.rename_all.Given as goal

abbrev pub invariant-loop-node : goal.invariant-loop-node
invariant-loop-node l = (n : ℕ) (node : NodeView) (file : GraphView) → IsUse l.used n node file
    → map node_view l.out.items ≡ map node_view l.initial.out.items ++ map (renamed n node file) (map node_view l.yielded)
