-- All marks that are left are among the listed nodes that are left.
use Rattle.mg_equations.proofs.RoundNodeSteps.{AreUnmarked}
use Rattle.mg_equations.proofs.round_nodes.unmark.Given as goal

abbrev pub invariant-loop-number : goal.invariant-loop-number
invariant-loop-number l = AreUnmarked l.fn.marks.items l.listed l.number-index l.marks.items
