-- The nodes so far would do nothing, and the net is as it was.
use Rattle.std.proofs.Common.{◌≡◌}
use Rattle.mg_sched.specs.Code.Left.{NodesRest}
use Rattle.mg_sched.proofs.net.Net.goes_on_at_nodes.Given as goal

abbrev pub invariant-nodes : goal.invariant-nodes
invariant-nodes g l = (l.self ≡ l.fn.self) × NodesRest g.C.NodeCalculator.laws l.fn.self l.node
