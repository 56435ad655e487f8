-- The drafts of the nodes of a graph are sound if each user-supplied calculator has its law's shape.
use Rattle.std.proofs.Common.{List, All}
use Rattle.mg_config.specs.Config.{NodeView}
use Rattle.mg_calc.specs.declared.shape.OuterShape.{OuterShape}
use Rattle.mg_check.specs.Check.{IsOuterShape}
use Rattle.mg_check.specs.Choosing.{chosen_nodes}
use Rattle.mg_check.specs.Drafts.{drafts}
use Rattle.mg_check.specs.Code.Sound.{AreSound}
use Rattle.mg_check.proofs.Boxes.{boxes-apart}
use Rattle.mg_check.proofs.SoundDrafts.{drafts-sound, drafts-fit}

pub drafts-are-sound : (outers : List OuterShape) (nodes : List NodeView) → All IsOuterShape outers → AreSound outers (drafts outers nodes)
drafts-are-sound outers nodes all = record {
  each = drafts-sound outers (chosen_nodes outers nodes) all;
  once = boxes-apart outers nodes;
  fit = drafts-fit outers (chosen_nodes outers nodes) all;
}
