use Rattle.std.proofs.Common.{◌≡◌, ◌-◌, ◌^◌, length, min, take, sum_by}
use Rattle.mg_value.specs.Payload.{Plain}
use Rattle.mg_stream.specs.Queue.{Waiting}
use Rattle.mg_node.proofs.counting.held_at.Given as goal

abbrev pub invariant-loop-queue : goal.invariant-loop-queue
invariant-loop-queue l = l.held ≡ min (sum_by (λ (q : Waiting Plain). length q.packets) (take l.queue-index l.queues)) (2 ^ 64 - 1)
