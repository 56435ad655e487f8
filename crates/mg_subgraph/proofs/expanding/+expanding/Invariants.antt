use Rattle.std.proofs.Common.{◌≡◌, ◌+◌, ◌*◌, [], ◌∷◌, map, take}
use Rattle.mg_config.specs.Config.{node_view, graph_view}
use Rattle.mg_subgraph.specs.Expanded as expansion
use Rattle.mg_subgraph.specs.Code.Sizes.{nodes_at}
use Rattle.mg_subgraph.proofs.Reaching.{use_count}
use Rattle.mg_subgraph.proofs.expanding.+expanding.Given as goal

abbrev pub decreases-expand_file : goal.decreases-expand_file
decreases-expand_file l = 3 * use_count (map graph_view l.judged.now.library.now.files.now) (nodes_at (map graph_view l.judged.now.library.now.files.now) l.place) + 3

abbrev pub decreases-expand_node : goal.decreases-expand_node
decreases-expand_node l = 3 * use_count (map graph_view l.judged.now.library.now.files.now) (node_view l.node.now ∷ []) + 1

abbrev pub decreases-expanded : goal.decreases-expanded
decreases-expanded l = 3 * use_count (map graph_view l.judged.now.library.now.files.now) (map node_view l.nodes.now) + 2

abbrev pub invariant-expanded-loop-n : goal.invariant-expanded-loop-n
invariant-expanded-loop-n l =
    map node_view l.out.items
    ≡ expansion.all_replaced (expansion.expanded (map graph_view l.judged.library.now.files.now)) (map graph_view l.judged.library.now.files.now) 0 (map node_view (take l.n l.nodes))
