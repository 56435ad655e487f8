use Rattle.std.proofs.Common.{◌≡◌, drop, map}
use Rattle.mg_config.specs.Config.{node_view}
use Rattle.mg_subgraph.specs.Code.Judged.{reserved_in_node}
use Rattle.mg_subgraph.specs.Refusals.{first_some}
use Rattle.mg_subgraph.proofs.reserved.reserved_in_nodes.Given as goal

abbrev pub invariant-loop-node : goal.invariant-loop-node
invariant-loop-node l = first_some reserved_in_node (map node_view l.nodes) ≡ first_some reserved_in_node (map node_view (drop l.node-index l.nodes))
