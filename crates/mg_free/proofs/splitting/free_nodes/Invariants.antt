-- The free nodes so far, and then those among the nodes that are left, are all free nodes.
use Rattle.std.proofs.Common.{◌≡◌, ◌++◌, drop}
use Rattle.std.specs.List.{enumerate_from, filter_map}
use Rattle.mg_free.specs.Core.{free_node, free_nodes}
use Rattle.mg_free.proofs.splitting.free_nodes.Given as goal

abbrev pub invariant-loop-number : goal.invariant-loop-number
invariant-loop-number l = l.free.items ++ filter_map (free_node l.plan) (enumerate_from l.number (drop l.number l.plan.nodes)) ≡ free_nodes l.plan
