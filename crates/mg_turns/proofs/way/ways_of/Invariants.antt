use Rattle.std.proofs.Common.{◌≡◌, map, take}
use Rattle.mg_turns.specs.Code.Ways.{way_of}
use Rattle.mg_turns.proofs.way.ways_of.Given as goal

abbrev pub invariant-loop-i : goal.invariant-loop-i
invariant-loop-i l = l.ways.items ≡ map (way_of l.plan) (take l.i l.edges)
