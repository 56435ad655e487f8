use Rattle.std.proofs.Common.{length, ap, arith}
use Rattle.mg_sched.specs.Views.{NetView}
use Rattle.mg_sched.proofs.ComingApart.{back_none, back_runs, back_some, back_more, back_end, none_on_work_queues}
use Rattle.mg_sched.proofs.net.Net.put_back_all.Goals as goal

pub loop-node-init : goal.loop-node-init
loop-node-init g c = back_none c.args.self.now

pub put_back_at-requires-clause-running : goal.put_back_at-requires-clause-running
put_back_at-requires-clause-running g c = back_runs c.args.self.now c.loop-node.self c.loop-node.node c.loop-node.invariant c.requires.running

pub put_back_at-requires-clause-stands : goal.put_back_at-requires-clause-stands
put_back_at-requires-clause-stands g c = back_some c.args.self.now c.loop-node.self c.loop-node.node c.loop-node.invariant c.requires.stands

pub loop-node-preserved : goal.loop-node-preserved
loop-node-preserved g c =
    (let less = c.loop-node-test.true in
    let count = c.len-node-end.ensures in
    let same = ap (λ (v : NetView). length v.plan.nodes) c.self.view_is in
    back_more c.args.self.now c.loop-node.self c.put_back_at.new.self c.loop-node.node c.loop-node.invariant (omega (arith, less, count, same)) c.requires.running c.put_back_at.ensures)

pub returns-clause-puts_back : goal.returns-clause-puts_back
returns-clause-puts_back g c =
    (let past = c.loop-node-test.false in
    let upto = c.loop-node.auto.node-end in
    let count = c.len-node-end.ensures in
    let same = ap (λ (v : NetView). length v.plan.nodes) c.self.view_is in
    (back_end c.args.self.now c.loop-node.self c.loop-node.node (length c.args.self.now.plan.nodes) c.loop-node.invariant (omega (arith, past, upto, count, same))).puts_back)

pub returns-clause-none : goal.returns-clause-none
returns-clause-none g c = none_on_work_queues c.args.self.now c.loop-node.self c.requires.stands (returns-clause-puts_back g c)
