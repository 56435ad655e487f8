-- With the nodes that are left the result is the same.
use Rattle.std.proofs.Common.{◌≡◌, ◌++◌, drop}
use Rattle.std.specs.List.{flat_map}
use Rattle.mg_equations.specs.Code.RoundNodes.{outputs_at}
use Rattle.mg_equations.proofs.round_nodes.outputs_among.Given as goal

abbrev pub invariant-loop-number : goal.invariant-loop-number
invariant-loop-number l = l.streams.items ++ flat_map (outputs_at l.plan.nodes) (drop l.number-index l.nodes) ≡ flat_map (outputs_at l.plan.nodes) l.nodes
