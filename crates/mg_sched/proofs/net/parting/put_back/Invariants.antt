-- Some of the works have come back, and the others are out.
use Rattle.std.proofs.Common.{length}
use Rattle.mg_sched.proofs.ComingApart.{BackSoFar}
use Rattle.mg_sched.proofs.net.parting.put_back.Given as goal

abbrev pub invariant-loop-work : goal.invariant-loop-work
invariant-loop-work g l = BackSoFar l.initial.engine l.engine l.initial.work_queue l.work_queue

abbrev pub decreases-loop-work : goal.decreases-loop-work
decreases-loop-work g l = length l.work_queue.works
