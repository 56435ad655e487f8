-- The list so far, followed by what the remaining edges give, is the whole list.
use Rattle.std.proofs.Common.{◌≡◌, ◌++◌, drop}
use Rattle.std.specs.List.{filter_map}
use Rattle.mg_check.specs.Joining.{link_of}
use Rattle.mg_check.proofs.linking.links_of.Given as goal

abbrev pub invariant-loop-edge : goal.invariant-loop-edge
invariant-loop-edge l = l.links.items ++ filter_map (link_of l.writers) (drop l.edge-index l.edges) ≡ filter_map (link_of l.writers) l.edges
