use Rattle.std.proofs.Common.{length}
use Rattle.mg_settled.proofs.Standing.{IsChecked}
use Rattle.mg_settled.proofs.prefix.Prefix.is_prefix.Given as goal

abbrev pub invariant-loop-packet : goal.invariant-loop-packet
invariant-loop-packet l = IsChecked (length l.packets) l.self.bound l.packets l.packet-index l.lowest
