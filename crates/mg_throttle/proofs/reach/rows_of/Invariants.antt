use Rattle.mg_throttle.specs.Code.Reach.{IsDone}
use Rattle.mg_throttle.proofs.reach.rows_of.Given as goal

abbrev pub invariant-loop-node : goal.invariant-loop-node
invariant-loop-node l = IsDone l.plan l.rows.items l.node-index
