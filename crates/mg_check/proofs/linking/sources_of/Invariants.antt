-- The list so far, followed by what the remaining nodes give, is the whole list.
use Rattle.std.proofs.Common.{◌≡◌, ◌++◌, drop}
use Rattle.mg_check.specs.DraftView.{drafts_view}
use Rattle.mg_check.specs.Code.Writers.{sources_from}
use Rattle.mg_check.proofs.linking.sources_of.Given as goal

abbrev pub invariant-loop-node : goal.invariant-loop-node
invariant-loop-node l = l.sources.items ++ sources_from l.node (drafts_view (drop l.node l.drafts)) ≡ sources_from 0 (drafts_view l.drafts)
