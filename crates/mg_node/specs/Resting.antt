-- A cell that can go no further, and what came to it and what it laid, in whole.
use Rattle.std.specs.Prelude.{◌≡◌, ℕ, ◌<◌, true, false, List, [], length, slice_index_or, ◌⊎◌}
use Rattle.mg_value.specs.Payload.{Plain}
use Rattle.mg_settled.specs.Prefix.{StreamPrefix, empty_prefix}
use Rattle.mg_settled.specs.Extension.{AreExtendedBy}
use Rattle.mg_stream.specs.Queue.{StandsFor}
use Rattle.mg_calc.specs.Rules.{Laws}
use Rattle.mg_calc.specs.declared.plan_node.PlanNode.{PlanNode}
use Rattle.mg_calc.specs.Equations.{inputs_of}
use Rattle.mg_node.specs.Views.{IntakeView, EngineView}
use Rattle.mg_node.specs.Ports.{ports_in, port_queue}
use Rattle.mg_node.specs.Claims.{has_ended, IsEarly}
use Rattle.mg_node.specs.Advances.{is_advanced}
use Rattle.mg_node.specs.Job.{LoggedJob, Solves, streams_at}
use Rattle.mg_node.specs.Lawful.{StandForAll}

-- A cell rests: its node has ended, or all that it claimed is laid and neither a work nor the end can be told yet. What waits raises none
-- of its outputs.
pub record IsResting (engine : EngineView) (intake : IntakeView) : Type 0 where
  pub claims : (has_ended engine ≡ true) ⊎ ((engine.window ≡ []) × IsEarly engine.role intake.waits)
  pub raised : is_advanced engine intake.waits ≡ false

-- what came at each port of an intake, in whole
pub record HasCome (intake : IntakeView) (came : List (StreamPrefix Plain)) : Type 0 where
  pub ports : length came ≡ ports_in intake.waits
  pub stands : (port : ℕ) → port < length came → StandsFor (port_queue intake.waits port) (slice_index_or came port empty_prefix)

-- what came to the cell of a node is what some streams have at its ports, and `laid` is what it laid, in whole. The solution's streams
-- extend both.
pub record HasCarried {laws : Laws} (job : LoggedJob laws) (solution streams : List (StreamPrefix Plain)) (node : PlanNode) (engine : EngineView) (intake : IntakeView) (laid : List (StreamPrefix Plain)) : Type 0 where
  pub solves : Solves job solution
  pub came : HasCome intake (inputs_of streams node)
  pub came_of : AreExtendedBy (inputs_of streams node) (inputs_of solution node)
  pub kept : StandForAll engine.outputs laid
  pub laid_of : AreExtendedBy laid (streams_at solution node.outputs)
