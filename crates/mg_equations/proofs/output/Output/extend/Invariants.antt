-- The first of the further packets stand after the stream's own.
use Rattle.std.proofs.Common.{◌≡◌, ◌++◌, take}
use Rattle.mg_equations.proofs.output.Output.extend.Given as goal

abbrev pub invariant-loop-packet : goal.invariant-loop-packet
invariant-loop-packet l = l.self-inside.packets.items ≡ l.fn.self.packets ++ take l.packet-index l.further
