-- The list so far, followed by what the remaining nodes give, is the whole list.
use Rattle.std.proofs.Common.{◌≡◌, ◌++◌, drop}
use Rattle.mg_check.specs.DraftView.{drafts_view}
use Rattle.mg_check.specs.Code.Edges.{node_edges_from}
use Rattle.mg_check.proofs.edges.node_edges.Given as goal

abbrev pub invariant-loop-node : goal.invariant-loop-node
invariant-loop-node l = l.edges.items ++ node_edges_from l.streams l.node (drafts_view (drop l.node l.drafts)) ≡ node_edges_from l.streams 0 (drafts_view l.drafts)
