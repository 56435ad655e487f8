use Rattle.std.proofs.Common.{◌≡◌, ◌++◌, take}
use Rattle.mg_test_nets.proofs.pieces.put_behind.Given as goal

abbrev pub invariant-loop-packet : goal.invariant-loop-packet
invariant-loop-packet l = l.packets.items ≡ l.initial.packets.items ++ take l.packet-index l.more
