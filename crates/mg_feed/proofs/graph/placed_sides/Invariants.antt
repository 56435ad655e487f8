use Rattle.std.proofs.Common.{◌≡◌, ◌++◌, drop}
use Rattle.mg_feed.specs.Graph.{given_sides}
use Rattle.mg_feed.proofs.graph.placed_sides.Given as goal

-- the names so far stand before those of the side packets that are left
abbrev pub invariant-loop-side : goal.invariant-loop-side
invariant-loop-side l = record {
  names : given_sides l.side-items ≡ l.placed.items ++ given_sides (drop l.side-index l.side-items);
}
