use Rattle.std.proofs.Common.{◌≡◌, drop, map}
use Rattle.mg_config.specs.Config.{graph_view}
use Rattle.mg_subgraph.specs.Code.Judged.{flagged}
use Rattle.mg_subgraph.specs.Refusals.{first_some, port_shared_in}
use Rattle.mg_subgraph.proofs.shared.check_shared.Given as goal

abbrev pub invariant-loop-place : goal.invariant-loop-place
invariant-loop-place l = first_some port_shared_in (flagged l.used (map graph_view l.files)) ≡ first_some port_shared_in (flagged (drop l.place l.used) (map graph_view (drop l.place l.files)))
