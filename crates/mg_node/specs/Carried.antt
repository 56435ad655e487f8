-- What was laid at the outputs of an engine, and what came at the ports of an intake, as the first part of some streams.
use Rattle.std.specs.Prelude.{List}
use Rattle.mg_value.specs.Payload.{Plain}
use Rattle.mg_settled.specs.Prefix.{StreamPrefix}
use Rattle.mg_settled.specs.Extension.{AreExtendedBy}
use Rattle.mg_node.specs.Views.{IntakeView, EngineView}
use Rattle.mg_node.specs.Lawful.{StandForAll}
use Rattle.mg_node.specs.Resting.{HasCome}

-- what was laid at an engine's outputs, with the packets that were given up, is known in whole, and the streams extend it
pub record HasLaid (engine : EngineView) (streams : List (StreamPrefix Plain)) : Type 0 where
  pub laid : List (StreamPrefix Plain)
  pub kept : StandForAll engine.outputs laid
  pub extended : AreExtendedBy laid streams

-- what came at an intake's ports, with the packets that are gone, is known in whole, and the streams extend it
pub record HasReached (intake : IntakeView) (streams : List (StreamPrefix Plain)) : Type 0 where
  pub came : List (StreamPrefix Plain)
  pub stands : HasCome intake came
  pub extended : AreExtendedBy came streams
