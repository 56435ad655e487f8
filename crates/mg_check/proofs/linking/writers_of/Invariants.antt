-- The list so far, followed by what the remaining nodes give, is the whole list.
use Rattle.std.proofs.Common.{◌≡◌, ◌++◌, drop}
use Rattle.mg_config.specs.Config.{graph_view}
use Rattle.mg_check.specs.DraftView.{drafts_view}
use Rattle.mg_check.specs.Joining.{writers}
use Rattle.mg_check.specs.Code.Writers.{node_writers}
use Rattle.mg_check.proofs.linking.writers_of.Given as goal

abbrev pub invariant-loop-node : goal.invariant-loop-node
invariant-loop-node l = l.writers.items ++ node_writers l.node (drafts_view (drop l.node l.drafts)) ≡ writers (graph_view l.graph) (drafts_view l.drafts)
