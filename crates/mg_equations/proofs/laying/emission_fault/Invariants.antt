-- What is left decides.
use Rattle.std.proofs.Common.{◌≡◌, drop}
use Rattle.mg_calc.specs.Laying.{laid_behind}
use Rattle.mg_route.specs.Reasons.{reason_of}
use Rattle.mg_equations.proofs.laying.emission_fault.Given as goal

abbrev pub invariant-loop-i : goal.invariant-loop-i
invariant-loop-i l = reason_of (laid_behind l.offset l.phase l.outputs l.emission) ≡ reason_of (laid_behind l.offset l.phase (drop l.i l.outputs) (drop l.i l.emission))
