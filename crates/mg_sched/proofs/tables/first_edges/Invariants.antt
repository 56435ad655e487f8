-- The first of them are there, and the next one is known.
use Rattle.std.proofs.Common.{◌≡◌, map}
use Rattle.mg_calc.specs.Plan.{numbers}
use Rattle.mg_sched.specs.Places.{first_edge}
use Rattle.mg_sched.proofs.tables.first_edges.Given as goal

abbrev pub invariant-loop-node : goal.invariant-loop-node
invariant-loop-node l = (l.first ≡ first_edge l.plan l.node-index) × (l.firsts.items ≡ map (first_edge l.plan) (numbers l.node-index))
