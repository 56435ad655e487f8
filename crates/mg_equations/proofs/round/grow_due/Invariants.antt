-- The first streams that are due have grown.
use Rattle.mg_equations.specs.Code.Growing.{given_streams}
use Rattle.mg_equations.proofs.DueSteps.{HaveGrown}
use Rattle.mg_equations.proofs.round.grow_due.Given as goal

abbrev pub invariant-loop-number : goal.invariant-loop-number
invariant-loop-number l = HaveGrown l.fn.streams.items (given_streams l.inputs l.nodes) l.due l.number-index l.streams.items l.changed.items
