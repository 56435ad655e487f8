-- Those of the first ports.
use Rattle.std.proofs.Common.{◌≡◌, take}
use Rattle.mg_settled.specs.Settled.{inputs_of}
use Rattle.mg_settled.specs.Left.{gone_of}
use Rattle.mg_equations.proofs.progress.read_at.Given as goal

abbrev pub invariant-loop-i : goal.invariant-loop-i
invariant-loop-i l = l.read.items ≡ take l.i (gone_of (inputs_of l.streams l.ports) l.rests)
