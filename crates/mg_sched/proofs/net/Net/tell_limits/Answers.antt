use Rattle.std.proofs.Common.{length, ap, arith}
use Rattle.mg_sched.specs.Views.{NetView}
use Rattle.mg_sched.proofs.PuttingTogether.{told_none, told_parts, told_end, told_all, intake_there, ports_fit, queues_short, few_wait}
use Rattle.mg_sched.proofs.net.Net.tell_limits.Goals as goal

pub loop-node-init : goal.loop-node-init
loop-node-init g c = told_none c.args.self.now c.requires

pub tell_of-requires-clause-parts : goal.tell_of-requires-clause-parts
tell_of-requires-clause-parts g c = told_parts c.args.self.now c.loop-node.self c.loop-node.node c.loop-node.node c.requires c.loop-node.invariant

pub loop-node-preserved : goal.loop-node-preserved
loop-node-preserved g c = c.tell_of.ensures c.args.self.now c.requires c.loop-node.invariant

pub note_ports-requires-clause-there : goal.note_ports-requires-clause-there
note_ports-requires-clause-there g c =
    (let count = c.len-nodes.ensures in
    let same = ap (λ (v : NetView). length v.plan.nodes) c.self.view_is in
    let still = ap (λ (v : NetView). length v.plan.nodes) c.loop-node.invariant.same in
    intake_there c.loop-node.self _ (told_parts c.args.self.now c.loop-node.self c.loop-node.node c.loop-node.node c.requires c.loop-node.invariant) (omega (arith, count, same, still)))

pub note_ports-requires-clause-queues : goal.note_ports-requires-clause-queues
note_ports-requires-clause-queues g c = λ intake at. ports_fit c.loop-node.self _ intake (told_parts c.args.self.now c.loop-node.self c.loop-node.node c.loop-node.node c.requires c.loop-node.invariant) at

pub note_ports-requires-clause-short : goal.note_ports-requires-clause-short
note_ports-requires-clause-short g c = queues_short c.loop-node.self (told_parts c.args.self.now c.loop-node.self c.loop-node.node c.loop-node.node c.requires c.loop-node.invariant)

pub note_ports-requires-clause-few : goal.note_ports-requires-clause-few
note_ports-requires-clause-few g c = λ intake port at. few_wait c.loop-node.self _ port intake (told_parts c.args.self.now c.loop-node.self c.loop-node.node c.loop-node.node c.requires c.loop-node.invariant) at

pub returns-clause-same : goal.returns-clause-same
returns-clause-same g c =
    (let count = c.len-nodes.ensures in
    let same = ap (λ (v : NetView). length v.plan.nodes) c.self.view_is in
    let past = c.loop-node-test.false in
    let upto = c.loop-node.auto.node-end in
    (told_end c.args.self.now c.loop-node.self c.note_ports.new.self c.loop-node.node c.len-nodes.result c.requires (omega (arith, past, upto, count, same)) (omega (arith, count, same)) c.loop-node.invariant c.note_ports.ensures).same)

pub returns-clause-knows : goal.returns-clause-knows
returns-clause-knows g c =
    (let count = c.len-nodes.ensures in
    let same = ap (λ (v : NetView). length v.plan.nodes) c.self.view_is in
    let past = c.loop-node-test.false in
    let upto = c.loop-node.auto.node-end in
    told_all c.args.self.now c.note_ports.new.self c.requires
    (told_end c.args.self.now c.loop-node.self c.note_ports.new.self c.loop-node.node c.len-nodes.result c.requires (omega (arith, past, upto, count, same)) (omega (arith, count, same)) c.loop-node.invariant c.note_ports.ensures))
