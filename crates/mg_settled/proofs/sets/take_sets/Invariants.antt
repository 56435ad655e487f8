use Rattle.std.proofs.Common.{length}
use Rattle.mg_settled.specs.Settled.{settled_sets}
use Rattle.mg_settled.proofs.SetSteps.{AreListed}
use Rattle.mg_settled.proofs.sets.take_sets.Given as goal

abbrev pub invariant-loop-at : goal.invariant-loop-at
invariant-loop-at l = AreListed l.policy l.fn.rests l.sets.items l.rests

abbrev pub decreases-loop-at : goal.decreases-loop-at
decreases-loop-at l = length (settled_sets l.policy l.rests)
