use Rattle.std.proofs.Common.{◌≡◌, ◌-◌, length, map}
use Rattle.mg_subgraph.proofs.Reached.{IsWalk}
use Rattle.mg_subgraph.proofs.links.reach.Given as goal

abbrev pub invariant-loop-next : goal.invariant-loop-next
invariant-loop-next l = record {
  len : length l.found.flags.items ≡ length l.links;
  walk : IsWalk (map (λ list. list.items) l.links) l.start l.found.flags.items l.found.places.items l.next;
}

abbrev pub decreases-loop-next : goal.decreases-loop-next
decreases-loop-next l = length l.found.flags.items - l.next
