-- The nodes at the first places have had their turns.
use Rattle.std.proofs.Common.{◌≡◌, List, length}
use Rattle.mg_value.specs.Payload.{Plain}
use Rattle.mg_settled.specs.Prefix.{StreamPrefix}
use Rattle.mg_live.specs.Takes.{handed_of}
use Rattle.mg_live.proofs.Places.{IsSameBut}
use Rattle.mg_live.proofs.Turned.{HaveTurned}
use Rattle.mg_live.proofs.live_nodes.round.Given as goal

abbrev pub invariant-loop-i : goal.invariant-loop-i
invariant-loop-i g l = record {
  long : length l.takers ≡ length l.initial.takers;
  handed : handed_of l.takers ≡ handed_of l.initial.takers;
  same : IsSameBut l.due l.i l.initial.takers l.takers;
  turned : (ss : List (StreamPrefix Plain)) → g.S.Streams.are l.streams ss → HaveTurned ss l.frees l.due l.i l.initial.takers l.takers l.did.items;
}
