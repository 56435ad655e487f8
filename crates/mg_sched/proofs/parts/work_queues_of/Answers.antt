use Rattle.std.proofs.Common.{rules, ◌≡◌, ◌<◌, Some, length, slice_get, refl}
use Rattle.mg_node.proofs.Lemmas.{read_at}
use Rattle.mg_sched.specs.Code.Made.{IsWorkQueueAt}
use Rattle.mg_sched.proofs.AtEach.{pushed}
use Rattle.mg_sched.proofs.PartsMade.{work_queue_at}
use Rattle.mg_sched.proofs.parts.work_queues_of.Goals as goal

pub loop-node-preserved : goal.loop-node-preserved
loop-node-preserved g c =
    let less : c.loop-node.node < length c.args.plan.now.nodes = search rules in
    let there : slice_get c.args.plan.now.nodes c.loop-node.node ≡ Some c.index-as_slice-node.result = read_at _ _ _ _ c.as_slice.ensures less c.index-as_slice-node.is in
    pushed (IsWorkQueueAt c.args.plan.now) _ _ _ c.loop-node.node c.in_ok-push.ensures.items c.loop-node.invariant.0 c.loop-node.invariant.1
    (work_queue_at c.args.plan.now c.loop-node.node c.loop-node.node c.index-as_slice-node.result _ refl there c.in_ok-new.ensures)
