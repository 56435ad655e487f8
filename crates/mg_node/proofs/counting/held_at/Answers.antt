use Rattle.std.proofs.Common.{◌-◌, ◌^◌, length, ap, ◌∙◌}
use Rattle.mg_value.specs.Payload.{Plain}
use Rattle.mg_stream.specs.Queue.{Waiting}
use Rattle.mg_node.proofs.Held.{held_more, held_all}
use Rattle.mg_node.proofs.counting.held_at.Goals as goal

pub loop-queue-preserved : goal.loop-queue-preserved
loop-queue-preserved c =
    held_more (λ (q : Waiting Plain). length q.packets) c.args.queues.now c.loop-queue.queue-index c.queue-item.result c.loop-queue.held _ _ (2 ^ 64 - 1) c.loop-queue-test.true
    (c.waiting.ensures ∙ ap (λ (q : Waiting Plain). length q.packets) c.queue-item.is) c.loop-queue.invariant c.saturating_add-held.ensures

pub returns : goal.returns
returns c = held_all (λ (q : Waiting Plain). length q.packets) c.args.queues.now c.loop-queue.queue-index _ (2 ^ 64 - 1) c.loop-queue-test.false c.loop-queue.invariant
