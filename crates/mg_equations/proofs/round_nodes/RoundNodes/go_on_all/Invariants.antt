-- The first nodes have gone on.
use Rattle.mg_equations.specs.Code.RoundNodes.{HaveGone}
use Rattle.mg_equations.proofs.round_nodes.RoundNodes.go_on_all.Given as goal

abbrev pub invariant-loop-number : goal.invariant-loop-number
invariant-loop-number l = HaveGone l.plan.nodes l.streams l.fn.self.nodes.items l.numbers l.number-index l.self
