-- The ports from this one on have the same first packet as the whole set.
use Rattle.std.proofs.Common.{◌≡◌, drop}
use Rattle.mg_calc.specs.Routing.{first_packet}
use Rattle.mg_route.proofs.route.first_packet.Given as goal

abbrev pub invariant-loop-port : goal.invariant-loop-port
invariant-loop-port l = first_packet (drop l.port l.set) ≡ first_packet l.set
