use Rattle.std.proofs.Common.{◌≡◌, List, drop, map}
use Rattle.std.specs.Prelude.{position}
use Rattle.std.specs.List.{position_from}
use Rattle.mg_config.specs.Config.{node_view}
use Rattle.mg_calc.specs.declared.shape.OuterShape.{OuterShape}
use Rattle.mg_check.specs.Choosing.{is_unknown}
use Rattle.mg_check.specs.Code.Choices.{IsStock}
use Rattle.mg_check.proofs.choosing.check_known.Given as goal

abbrev pub invariant-loop-place : goal.invariant-loop-place
invariant-loop-place l =
    (outers : List OuterShape) → IsStock l.stock outers → position (is_unknown outers) (map node_view l.nodes) ≡ position_from (is_unknown outers) l.place (map node_view (drop l.place l.nodes))
