-- The answer for the bytes that are left is the answer for the line.
use Rattle.std.proofs.Common.{◌≡◌, drop}
use Rattle.mg_replay.specs.Opening.{may_say_packet}
use Rattle.mg_replay.proofs.packets.may_say_packet.Given as goal

abbrev pub invariant-loop-byte : goal.invariant-loop-byte
invariant-loop-byte l = may_say_packet (drop l.byte-index l.line) ≡ may_say_packet l.line
