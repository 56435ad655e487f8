use Rattle.std.proofs.Common.{◌≡◌, List, drop, map}
use Rattle.std.specs.Prelude.{find}
use Rattle.mg_config.specs.Config.{NodeView, node_view}
use Rattle.mg_calc.specs.declared.shape.OuterShape.{OuterShape}
use Rattle.mg_check.specs.Choosing.{is_short}
use Rattle.mg_check.specs.Code.Choices.{IsStock, IsWanted}
use Rattle.mg_check.proofs.choosing.check_boxes.Given as goal

abbrev pub invariant-loop-node : goal.invariant-loop-node
invariant-loop-node l =
    (outers : List OuterShape) (all : List NodeView) → IsStock l.stock outers → IsWanted l.wanted all
    → find (is_short outers all) (map node_view l.nodes) ≡ find (is_short outers all) (map node_view (drop l.node-index l.nodes))
