-- The work queues so far are those of the first nodes.
use Rattle.std.proofs.Common.{◌≡◌, length}
use Rattle.mg_sched.specs.Code.Made.{AtPlaces, IsWorkQueueAt}
use Rattle.mg_sched.proofs.parts.work_queues_of.Given as goal

abbrev pub invariant-loop-node : goal.invariant-loop-node
invariant-loop-node g l = AtPlaces (IsWorkQueueAt l.fn.plan) l.work_queues.items × (length l.work_queues.items ≡ l.node)
