-- The numbers so far, with those of the nodes that are left, are the numbers of all nodes.
use Rattle.std.proofs.Common.{◌≡◌, ◌+◌, ◌++◌, List, map, drop, length, filter}
use Rattle.mg_free.specs.Core.{is_free, is_core}
use Rattle.mg_free.specs.Rounds.{Taken}
use Rattle.mg_live.specs.Takes.{HaveTaken}
use Rattle.mg_drive.specs.Live.{sets_by}
use Rattle.mg_drive.proofs.in_plan.sets_of.Given as goal

abbrev pub invariant-loop-node : goal.invariant-loop-node
invariant-loop-node l = record {
  same : (takens : List Taken) → HaveTaken l.live.free takens l.live.takers.items
      → l.now.items ++ sets_by (drop l.node-index l.nodes) (drop l.core l.sets) (drop l.free (map (λ taken. length taken.log) takens)) ≡ sets_by l.nodes l.sets (map (λ taken. length taken.log) takens);
  frees : l.free + length (filter is_free (drop l.node-index l.nodes)) ≡ length l.live.takers.items;
  cores : l.core + length (filter is_core (drop l.node-index l.nodes)) ≡ length l.sets;
}
