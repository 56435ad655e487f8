use Rattle.std.proofs.Common.{arith}
use Rattle.mg_drive.proofs.LiveTells.{lines_put}
use Rattle.mg_drive.proofs.in_plan.put_arrivals.Goals as goal

pub returns : goal.returns
returns c = λ takens free taken have free_is taken_is.
    lines_put c.args.text.now.items c.loop-arrived.text.items c.node-node.result c.loop-arrived.arrived-index c.log-log.result.now free taken c.loop-arrived.invariant (omega (arith, c.loop-arrived-test.false))
    (c.node-node.ensures free free_is) (c.log-log.ensures takens taken have taken_is)
