-- The list so far, followed by what the remaining drafts give, is the whole list.
use Rattle.std.proofs.Common.{◌≡◌, ◌++◌, drop}
use Rattle.std.specs.List.{flat_map}
use Rattle.mg_config.specs.Config.{graph_view}
use Rattle.mg_check.specs.DraftView.{drafts_view}
use Rattle.mg_check.specs.Joining.{kinds, written_kinds}
use Rattle.mg_check.proofs.meeting.written_kinds.Given as goal

abbrev pub invariant-loop-draft : goal.invariant-loop-draft
invariant-loop-draft l = l.kinds.items ++ flat_map (λ d. kinds d.shape.outputs) (drafts_view (drop l.draft-index l.drafts)) ≡ written_kinds (graph_view l.graph) (drafts_view l.drafts)
