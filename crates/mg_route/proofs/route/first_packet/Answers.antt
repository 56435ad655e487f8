use Rattle.std.proofs.Common.{◌<◌, length, arith, sym, ◌∙◌}
use Rattle.mg_route.proofs.PlaceLemmas.{first_packet-here, first_packet-later}
use Rattle.mg_route.proofs.route.first_packet.Goals as goal

pub returns-in-Some : goal.returns-in-Some
returns-in-Some c =
    let below : c.loop-port.port < length c.args.set.now = omega (arith, c.loop-port-test.true, c.len-port-end.ensures) in
    sym (first_packet-here c.args.set.now c.loop-port.port c.in-Some.packet.now below c.in-Some.ensures) ∙ c.loop-port.invariant

pub loop-port-preserved : goal.loop-port-preserved
loop-port-preserved c =
    let below : c.loop-port.port < length c.args.set.now = omega (arith, c.loop-port-test.true, c.len-port-end.ensures) in
    sym (first_packet-later c.args.set.now c.loop-port.port below c.in_default.ensures) ∙ c.loop-port.invariant
