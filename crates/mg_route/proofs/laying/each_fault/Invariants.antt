-- The packets that are left decide.
use Rattle.std.proofs.Common.{◌≡◌, nat_lt, length, drop}
use Rattle.mg_value.specs.Payload.{Plain}
use Rattle.mg_settled.specs.Prefix.{StreamPrefix}
use Rattle.mg_route.proofs.LayingLemmas.{ArePassed}
use Rattle.mg_route.proofs.laying.each_fault.Given as goal

abbrev pub invariant-loop-packet : goal.invariant-loop-packet
invariant-loop-packet l =
    (output : StreamPrefix Plain) → output.bound ≡ l.fn.bound → nat_lt 0 (length output.packets) ≡ l.fn.has_packets → ArePassed l.offset l.phase output l.packets (drop l.packet-index l.packets) l.low l.has_some
