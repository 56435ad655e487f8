-- With the nodes that are left the result is the same.
use Rattle.std.proofs.Common.{◌≡◌, ◌++◌, map, drop}
use Rattle.mg_equations.specs.Code.Progress.{outcomes}
use Rattle.mg_equations.proofs.solving.count_list.Given as goal

abbrev pub invariant-loop-progress : goal.invariant-loop-progress
invariant-loop-progress l = l.counts.items ++ map (λ outcome. outcome.taken) (outcomes (drop l.progress-index l.nodes)) ≡ map (λ outcome. outcome.taken) (outcomes l.nodes)
