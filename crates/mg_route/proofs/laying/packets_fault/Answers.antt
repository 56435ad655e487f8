use Rattle.std.proofs.Common.{List, ap, ◌∙◌}
use Rattle.mg_value.specs.Payload.{Plain}
use Rattle.mg_value.specs.Packet.{Stamped}
use Rattle.mg_calc.specs.Laying.{with_packets}
use Rattle.mg_route.specs.Reasons.{reason_of}
use Rattle.mg_route.proofs.LayingLemmas.{packet_reason}
use Rattle.mg_route.proofs.laying.packets_fault.Goals as goal

pub returns-then-all-eq1 : goal.returns-then-all-eq1
returns-then-all-eq1 c = λ output bound some.
    c.packet_fault.ensures output bound some
    ∙ packet_reason c.args.offset c.args.phase.now output c.as_slice-all.result.now c.index-all-0.result c.if-all-eq1.true c.index-all-0.is
    ∙ ap (λ (ps : List (Stamped Plain)). reason_of (with_packets c.args.offset c.args.phase.now output ps)) c.as_slice-all.ensures
