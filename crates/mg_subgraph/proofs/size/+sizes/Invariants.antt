use Rattle.std.proofs.Common.{◌≡◌, ◌+◌, ◌*◌, [], ◌∷◌, map, take}
use Rattle.mg_config.specs.Config.{node_view, graph_view}
use Rattle.mg_subgraph.specs.Expanded.{all_replaced, expanded}
use Rattle.mg_subgraph.specs.Code.Sizes.{counted, nodes_at, AreSizes}
use Rattle.mg_subgraph.proofs.Reaching.{use_count}
use Rattle.mg_subgraph.proofs.size.+sizes.Given as goal

abbrev pub decreases-file_size : goal.decreases-file_size
decreases-file_size l = 3 * use_count (map graph_view l.library.now.files.now) (nodes_at (map graph_view l.library.now.files.now) l.place) + 3

abbrev pub decreases-node_size : goal.decreases-node_size
decreases-node_size l = 3 * use_count (map graph_view l.library.now.files.now) (node_view l.node.now ∷ []) + 1

abbrev pub decreases-nodes_size : goal.decreases-nodes_size
decreases-nodes_size l = 3 * use_count (map graph_view l.library.now.files.now) (map node_view l.nodes.now) + 2

abbrev pub invariant-nodes_size-loop-node : goal.invariant-nodes_size-loop-node
invariant-nodes_size-loop-node l = record {
  total : l.total ≡ counted (all_replaced (expanded (map graph_view l.library.files.now)) (map graph_view l.library.files.now) 0 (map node_view (take l.node-index l.nodes)));
  sizes : AreSizes (map graph_view l.library.files.now) l.sizes;
}
