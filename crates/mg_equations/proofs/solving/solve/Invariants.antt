-- The streams are those of a round, and the nodes have gone on as far as these let them. Each round leaves less room for
-- further rounds.
use Rattle.mg_calc.specs.Rules.{Laws}
use Rattle.mg_equations.proofs.Changing.{room}
use Rattle.mg_equations.proofs.SolveSteps.{IsUnderWay}
use Rattle.mg_equations.proofs.solving.solve.Given as goal

abbrev pub invariant-rounds : goal.invariant-rounds
invariant-rounds l = (laws : Laws) → IsUnderWay (record { plan = l.plan; inputs = l.inputs; laws = laws }) l.streams.items l.going l.due.items

abbrev pub decreases-rounds : goal.decreases-rounds
decreases-rounds l = room l.streams.items
