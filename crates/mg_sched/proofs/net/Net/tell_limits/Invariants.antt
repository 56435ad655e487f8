-- The limits know what waits at the nodes so far, and which of them have ended.
use Rattle.mg_sched.specs.Code.Telling.{ToldTo}
use Rattle.mg_sched.proofs.net.Net.tell_limits.Given as goal

abbrev pub invariant-loop-node : goal.invariant-loop-node
invariant-loop-node g l = ToldTo l.node l.node l.fn.self l.self
