use Rattle.std.proofs.Common.{◌≡◌, length, sym, ap, subst, arith}
use Rattle.mg_sched.specs.Views.{NetView}
use Rattle.mg_sched.specs.Code.Outputs.{HaveOutputs}
use Rattle.mg_sched.proofs.StreamOutputs.{have_outputs}
use Rattle.mg_sched.proofs.StreamLooks.{output_below}
use Rattle.mg_sched.proofs.net.Net.packet.Goals as goal

pub packet_of-requires-clause-outputs : goal.packet_of-requires-clause-outputs
packet_of-requires-clause-outputs g c =
    subst (HaveOutputs c.self.inside.plan) (sym c.deref.ensures.value)
    (subst (λ (v : NetView). HaveOutputs v.plan v.engines) (sym c.self.view_is) (have_outputs c.requires.job c.args.self.now c.requires.stands))

pub returns-else-stream-len-clause-packet : goal.returns-else-stream-len-clause-packet
returns-else-stream-len-clause-packet g c = λ output is.
    let there = output_below c.args.self.now.plan c.args.self.now.engines c.args.stream output is in
    let same : length c.self.inside.plan.streams ≡ length c.args.self.now.plan.streams = ap (λ (v : NetView). length v.plan.streams) c.self.view_is in
    let long = c.len.ensures in
    let past = c.if-stream-len.false in
    absurd (omega (arith, there, same, long, past))
