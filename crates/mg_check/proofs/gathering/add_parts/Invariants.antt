-- The list so far, followed by what the remaining drafts give, is the whole list.
use Rattle.std.proofs.Common.{◌≡◌, ◌++◌, drop}
use Rattle.std.specs.List.{flat_map}
use Rattle.mg_kinds.specs.Kinds.{names_of}
use Rattle.mg_check.specs.DraftView.{drafts_view}
use Rattle.mg_check.specs.Code.Parts.{part_names}
use Rattle.mg_check.proofs.gathering.add_parts.Given as goal

abbrev pub invariant-loop-draft : goal.invariant-loop-draft
invariant-loop-draft l = names_of l.out.items ++ flat_map (part_names l.part) (drafts_view (drop l.draft-index l.drafts)) ≡ names_of l.fn.out.items ++ flat_map (part_names l.part) (drafts_view l.drafts)
