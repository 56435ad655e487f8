use Rattle.std.proofs.Common.{◌≡◌, take}
use Rattle.mg_settled.proofs.prefix.Prefix.try_clone.Given as goal

abbrev pub invariant-loop-packet : goal.invariant-loop-packet
invariant-loop-packet l = l.packets.items ≡ take l.packet-index l.packet-items
