-- Those of the first nodes are there, and the next one's number is known.
use Rattle.mg_sched.proofs.PlanFeeders.{OwnSoFar}
use Rattle.mg_sched.proofs.tables.own_feeders.Given as goal

abbrev pub invariant-loop-node : goal.invariant-loop-node
invariant-loop-node l = OwnSoFar l.plan l.node-index l.next l.own.items
