use Rattle.std.proofs.Common.{◌≡◌, drop, map}
use Rattle.mg_config.specs.Config.{graph_view}
use Rattle.mg_subgraph.specs.Code.Judged.{flagged, reserved_in_graph}
use Rattle.mg_subgraph.specs.Refusals.{first_some}
use Rattle.mg_subgraph.proofs.reserved.reserved_in_files.Given as goal

abbrev pub invariant-loop-place : goal.invariant-loop-place
invariant-loop-place l = first_some reserved_in_graph (flagged l.used (map graph_view l.files)) ≡ first_some reserved_in_graph (flagged (drop l.place l.used) (map graph_view (drop l.place l.files)))
