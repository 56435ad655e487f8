-- The nodes so far have gone on.
use Rattle.mg_calc.specs.Rules.{Laws}
use Rattle.mg_equations.proofs.RoundSteps.{HaveBegun}
use Rattle.mg_equations.proofs.round.first_nodes.Given as goal

abbrev pub invariant-loop-node : goal.invariant-loop-node
invariant-loop-node l = (laws : Laws) → HaveBegun (record { plan = l.plan; inputs = l.inputs; laws = laws }) l.streams l.nodes.items l.node-index
