-- Deliveries between cells: an edge leads from an engine's output to a port of an intake.
use Rattle.std.specs.Prelude.{◌≡◌, ◌+◌, ◌-◌, ◌<◌, ◌≤◌, length, Some, slice_get}
use Rattle.mg_value.specs.Payload.{Plain}
use Rattle.mg_stream.specs.Queue.{Waiting, count_of}
use Rattle.mg_calc.specs.Rules.{Laws}
use Rattle.mg_calc.specs.declared.edge.Edge.{Edge}
use Rattle.mg_node.specs.Views.{IntakeView, EngineView}
use Rattle.mg_node.specs.Ports.{port_queue}
use Rattle.mg_node.specs.Outputs.{laid_at}
use Rattle.mg_node.specs.Job.{LoggedJob, ports_of}
use Rattle.mg_node.specs.Lawful.{Owner, LawfulEngine, LawfulIntake}

-- what an engine has at the output whose stream an edge carries
abbrev pub output_at : EngineView → Edge → Waiting Plain
output_at engine e = laid_at engine (e.stream - engine.first)

-- an engine's outputs have the stream of an edge
pub record HasStream (engine : EngineView) (e : Edge) : Type 0 where
  pub from : engine.first ≤ e.stream
  pub below : e.stream < engine.first + length engine.outputs

-- an edge leads from an engine to an intake: for some job both are lawful parts. The edge's stream is one of the engine's outputs, and
-- stands at the port. The output still keeps the first packet that the port hasn't got.
pub record Leads (laws : Laws) (engine : EngineView) (e : Edge) (intake : IntakeView) : Type 0 where
  pub job : LoggedJob laws
  pub owner : Owner
  pub lawful_engine : LawfulEngine job owner engine
  pub lawful_intake : LawfulIntake job e.node intake
  pub stream : slice_get (ports_of job.job.plan e.node) e.port ≡ Some e.stream
  pub leaves : HasStream engine e
  pub held : (output_at engine e).gone ≤ count_of (port_queue intake.waits e.port)
