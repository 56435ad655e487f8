use Rattle.std.proofs.Common.{rules, ◌<◌, length, refl}
use Rattle.mg_node.specs.Fresh.{own_told}
use Rattle.mg_sched.specs.Code.Made.{IsEngineAt}
use Rattle.mg_sched.proofs.AtEach.{pushed}
use Rattle.mg_sched.proofs.PartsMade.{node_engine_at}
use Rattle.mg_sched.proofs.parts.node_engines.Goals as goal

pub loop-node-preserved : goal.loop-node-preserved
loop-node-preserved g c =
    let less : c.loop-node.node < length c.args.plan.now.nodes = search rules in
    pushed (IsEngineAt c.args.plan.now c.args.streams.now (λ _ node. own_told node)) _ _ _ c.loop-node.node c.in_ok-push.ensures.items c.loop-node.invariant.0 c.loop-node.invariant.1
    (node_engine_at c.args.plan.now c.args.streams.now c.loop-node.node c.loop-node.node _ refl less c.in_ok-engine_of.ensures)
