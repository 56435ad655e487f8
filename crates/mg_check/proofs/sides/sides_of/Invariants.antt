-- The list so far, followed by what the remaining drafts give, is the whole list.
use Rattle.std.proofs.Common.{◌≡◌, ◌++◌, drop}
use Rattle.std.specs.List.{flat_map}
use Rattle.mg_config.specs.Config.{graph_view}
use Rattle.mg_check.specs.DraftView.{drafts_view}
use Rattle.mg_check.specs.Planning.{fixed_sides, plan_sides}
use Rattle.mg_check.proofs.sides.sides_of.Given as goal

abbrev pub invariant-loop-draft : goal.invariant-loop-draft
invariant-loop-draft l = l.sides.items ++ flat_map fixed_sides (drafts_view (drop l.draft-index l.drafts)) ≡ plan_sides (graph_view l.graph) (drafts_view l.drafts)
