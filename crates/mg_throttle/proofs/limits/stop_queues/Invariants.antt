use Rattle.mg_throttle.specs.Code.Kept.{StopsTo}
use Rattle.mg_throttle.proofs.limits.stop_queues.Given as goal

abbrev pub invariant-loop-k : goal.invariant-loop-k
invariant-loop-k l = StopsTo l.node l.k l.initial.queues l.queues l.full
