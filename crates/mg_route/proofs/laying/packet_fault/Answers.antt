use Rattle.std.proofs.Common.{ap, sym}
use Rattle.mg_value.specs.Payload.{Plain}
use Rattle.mg_value.specs.Packet.{Stamped}
use Rattle.mg_route.proofs.laying.packet_fault.Goals as goal

pub returns : goal.returns
returns c = λ output bound some. c.laying_fault.ensures output c.args.packet.now bound some (sym (ap (λ (p : Stamped Plain). p.at) c.packet.view_is))
