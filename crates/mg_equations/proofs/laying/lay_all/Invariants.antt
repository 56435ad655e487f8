-- The parts before the index are laid.
use Rattle.std.proofs.Common.{◌≡◌, take}
use Rattle.mg_route.specs.Reasons.{all_laid_on}
use Rattle.mg_equations.proofs.laying.lay_all.Given as goal

abbrev pub invariant-loop-i : goal.invariant-loop-i
invariant-loop-i l = l.outputs ≡ all_laid_on l.fn.outputs (take l.i l.emission)
