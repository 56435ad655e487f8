-- With the sets that are left the result is the same.
use Rattle.mg_equations.specs.Code.Seen.{seen}
use Rattle.mg_equations.proofs.OutcomeSteps.{IsShown}
use Rattle.mg_equations.proofs.progress.show_all.Given as goal

abbrev pub invariant-loop-timed : goal.invariant-loop-timed
invariant-loop-timed l = IsShown l.node.law l.node.shape.offset (seen l.fn.outcome) (seen l.outcome) l.sets l.timed-index
