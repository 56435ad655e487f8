use Rattle.std.proofs.Common.{arith}
use Rattle.mg_throttle.proofs.Queues.{StopsTo-start, StopsTo-end, StopsTo-broken}
use Rattle.mg_throttle.proofs.limits.stop_queues.Goals as goal

pub loop-k-init : goal.loop-k-init
loop-k-init c = StopsTo-start _ _ _ c.first_queue-k.ensures

pub returns-after-loop-k-clause-queues : goal.returns-after-loop-k-clause-queues
returns-after-loop-k-clause-queues c = (StopsTo-end _ _ _ _ _ c.loop-k.invariant (omega arith)).0

pub returns-then-queue-node-clause-queues : goal.returns-then-queue-node-clause-queues
returns-then-queue-node-clause-queues c =
    (StopsTo-broken c.args.node c.first_queue-k.result c.loop-k.k c.args.queues.now c.loop-k.queues c.loop-k.full _ c.loop-k.invariant c.requires.by_node
    c.first_queue-k.ensures c.loop-k.auto.k (omega arith) c.if-queue-node.true).0

pub returns-then-queue-node-clause-full : goal.returns-then-queue-node-clause-full
returns-then-queue-node-clause-full c =
    (StopsTo-broken c.args.node c.first_queue-k.result c.loop-k.k c.args.queues.now c.loop-k.queues c.loop-k.full _ c.loop-k.invariant c.requires.by_node
    c.first_queue-k.ensures c.loop-k.auto.k (omega arith) c.if-queue-node.true).1
