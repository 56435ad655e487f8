use Rattle.std.proofs.Common.{◌≡◌, drop, map}
use Rattle.mg_config.specs.Config.{graph_view}
use Rattle.mg_subgraph.specs.Code.Judged.{judge_of, flagged}
use Rattle.mg_subgraph.specs.Refusals.{first_some, fault_in}
use Rattle.mg_subgraph.proofs.nodes.check_files.Given as goal

abbrev pub invariant-loop-place : goal.invariant-loop-place
invariant-loop-place l =
    first_some (fault_in (judge_of l.check) (map graph_view l.library.files.now)) (flagged l.used (map graph_view l.library.files.now))
    ≡ first_some (fault_in (judge_of l.check) (map graph_view l.library.files.now)) (flagged (drop l.place l.used) (map graph_view (drop l.place l.library.files.now)))
