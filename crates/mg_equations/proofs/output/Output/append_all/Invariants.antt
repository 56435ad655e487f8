-- With what is left the result is the same.
use Rattle.std.proofs.Common.{◌≡◌, drop}
use Rattle.mg_settled.specs.Prefix.{all_appended}
use Rattle.mg_equations.proofs.output.Output.append_all.Given as goal

abbrev pub invariant-loop-packet : goal.invariant-loop-packet
invariant-loop-packet l = all_appended l.self (drop l.packet-index l.packets) ≡ all_appended l.fn.self l.packets
