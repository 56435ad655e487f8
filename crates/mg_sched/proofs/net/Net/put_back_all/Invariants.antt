-- The works of the nodes so far have come back.
use Rattle.mg_sched.proofs.ComingApart.{BackTo}
use Rattle.mg_sched.proofs.net.Net.put_back_all.Given as goal

abbrev pub invariant-loop-node : goal.invariant-loop-node
invariant-loop-node g l = BackTo g.C.NodeCalculator.laws l.fn.self l.self l.node
