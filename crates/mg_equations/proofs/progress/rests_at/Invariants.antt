-- Those of the first ports.
use Rattle.std.proofs.Common.{◌≡◌, take}
use Rattle.mg_settled.specs.Settled.{inputs_of}
use Rattle.mg_settled.specs.Left.{without_first}
use Rattle.mg_equations.proofs.progress.rests_at.Given as goal

abbrev pub invariant-loop-i : goal.invariant-loop-i
invariant-loop-i l = l.rests.items ≡ take l.i (without_first l.read (inputs_of l.streams l.ports))
