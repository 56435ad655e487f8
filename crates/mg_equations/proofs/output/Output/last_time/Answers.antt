use Rattle.std.proofs.Common.{◌≡◌, ◌-◌, ◌∙◌, get_or, ap, arith}
use Rattle.mg_value.specs.Payload.{Plain}
use Rattle.mg_value.specs.Packet.{Stamped}
use Rattle.mg_settled.specs.Prefix.{StreamPrefix}
use Rattle.mg_equations.proofs.OutcomeSteps.{last_time_is}
use Rattle.mg_equations.proofs.output.Output.last_time.Goals as goal

pub returns : goal.returns
returns c =
    let packet = c.index-packet.result.now in
    let is : packet ≡ get_or c.args.self.now.packets (c.args.read - 1) packet = c.index-packet.ensures ∙ ap (λ (s : StreamPrefix Plain). get_or s.packets (c.args.read - 1) packet) c.self.view_is in
    last_time_is c.args.read c.packet.inside.at c.args.self.now.packets packet (omega (arith, c.if-read-eq0.false)) c.requires is (ap (λ (p : Stamped Plain). p.at) c.packet.view_is)
