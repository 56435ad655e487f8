-- With the nodes that are left the result is the same.
use Rattle.std.proofs.Common.{◌≡◌, ◌++◌, map, drop}
use Rattle.std.specs.List.{filter_map, enumerate_from}
use Rattle.mg_equations.specs.Code.Progress.{outcomes}
use Rattle.mg_equations.specs.Code.Rounds.{numbered_fault}
use Rattle.mg_equations.proofs.solving.fault_list.Given as goal

abbrev pub invariant-loop-progress : goal.invariant-loop-progress
invariant-loop-progress l = record {
  numbered : l.node ≡ l.progress-index;
  same : l.list.items ++ filter_map numbered_fault (enumerate_from l.progress-index (map (λ outcome. outcome.fault) (outcomes (drop l.progress-index l.nodes))))
      ≡ filter_map numbered_fault (enumerate_from 0 (map (λ outcome. outcome.fault) (outcomes l.nodes)));
}
