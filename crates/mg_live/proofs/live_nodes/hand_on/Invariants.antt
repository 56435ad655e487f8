-- The nodes at the first places have handed on.
use Rattle.std.proofs.Common.{◌≡◌, List, length}
use Rattle.mg_free.specs.declared.node.FreeNode.{FreeNode}
use Rattle.mg_free.specs.Rounds.{Taken}
use Rattle.mg_live.specs.Takes.{HaveTaken}
use Rattle.mg_live.proofs.Places.{HandedAt, IsSameBut}
use Rattle.mg_live.proofs.live_nodes.hand_on.Given as goal

abbrev pub invariant-loop-i : goal.invariant-loop-i
invariant-loop-i l = record {
  count : length l.takers ≡ length l.initial.takers;
  same : IsSameBut l.places l.i l.initial.takers l.takers;
  handed : (frees : List FreeNode) (takens : List Taken) → HaveTaken frees takens l.initial.takers → HandedAt frees takens l.places l.initial.takers l.i l.takers l.pieces.items;
}
