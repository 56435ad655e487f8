use Rattle.std.proofs.Common.{◌≡◌, drop, map}
use Rattle.mg_config.specs.Config.{node_view, graph_view}
use Rattle.mg_subgraph.specs.Code.Judged.{judge_of}
use Rattle.mg_subgraph.specs.Refusals.{node_fault}
use Rattle.mg_subgraph.proofs.nodes.check_nodes.Given as goal

abbrev pub invariant-loop-n : goal.invariant-loop-n
invariant-loop-n l =
    node_fault (map graph_view l.library.files.now) (judge_of l.check l.owner) 0 (map node_view l.nodes)
    ≡ node_fault (map graph_view l.library.files.now) (judge_of l.check l.owner) l.n (map node_view (drop l.n l.nodes))
