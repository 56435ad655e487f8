-- Those so far.
use Rattle.std.proofs.Common.{◌≡◌}
use Rattle.mg_check.specs.DraftView.{drafts_view}
use Rattle.mg_check.specs.Planning.{plan_nodes}
use Rattle.mg_check.specs.Code.Numbered.{next_after}
use Rattle.mg_check.proofs.nodes.nodes_of.Given as goal

abbrev pub invariant-loop-draft : goal.invariant-loop-draft
invariant-loop-draft l = record {
  made : l.nodes.items ≡ plan_nodes l.streams l.sides l.first (drafts_view l.yielded);
  next : l.next ≡ next_after l.first (drafts_view l.yielded);
}
