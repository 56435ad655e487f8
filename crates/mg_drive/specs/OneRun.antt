-- A run as one thing. There is one reading of its input, one job and one solution of the job. All that is seen of the run belongs to these:
-- the output, the notes, the status, and the calls of the user-supplied calculators.
use Rattle.std.specs.Prelude.{◌≡◌, ◌⊎◌, ℕ, List, Some, slice_get}
use Rattle.mg_edge.specs.Edge.{SourceTold, SinkTold}
use Rattle.mg_value.specs.Payload.{Plain}
use Rattle.mg_settled.specs.Prefix.{StreamPrefix}
use Rattle.mg_calc.specs.Rules.{Laws}
use Rattle.mg_calc.specs.declared.plan.Plan.{Plan}
use Rattle.mg_calc.specs.declared.plan_node.PlanNode.{PlanNode}
use Rattle.mg_calc.specs.Equations.{Job, IsJob, IsSolution}
use Rattle.mg_calc.specs.Told.{BoxTold}
use Rattle.mg_feed.specs.Graph.{inputs_of}
use Rattle.mg_feed.specs.declared.feed_end.FeedEnd.{FeedEnd}
use Rattle.mg_feed.specs.declared.feed_end.FeedEnd.TheVariants.{Ended}
use Rattle.mg_answer.specs.Answer.{OutputForm, packet_lines, totals, Telling, by_lines, by_summary, output_in, answer_of, failed_notes, job_of, generated_job}
use Rattle.mg_answer.specs.Devices.{Device, RunDevices, TookFront}
use Rattle.mg_answer.specs.Wrote.{WroteBy}
use Rattle.mg_answer.specs.declared.status.Status.{Status}
use Rattle.mg_answer.specs.declared.run.Reporting.{Reporting}
use Rattle.mg_drive.specs.Over.{OverInput, OutIn, MemoryRanOut}
pub use Rattle.mg_drive.specs.Over.{WasNothing}
use Rattle.mg_drive.specs.Leaves.{IsRelatedAt, HadItsCalls, KeepsAFront}
pub use Rattle.mg_drive.specs.Leaves.{CalculatorsCameBack}

-- All calculators come back, and each that a node uses is related by `had` to what it was before the run.
pub record AllHad (plan : Plan) (had : PlanNode → BoxTold → BoxTold → Type 0) (boxes : Device (List BoxTold)) : Type 0 where
  pub back : CalculatorsCameBack plan boxes.before boxes.now
  pub used : (number place : ℕ) (node : PlanNode) → slice_get plan.nodes number ≡ Some node → node.box_number ≡ Some place → IsRelatedAt place (had node) boxes

-- A run of a job, by how its input ended. The job has a valid plan, and inputs that fit it. There is one solution, and the output, the notes
-- and the status are those of this solution. Each user-supplied calculator had exactly the calls that its node has in the solution: Open,
-- each of the node's settled sets, and Close.
pub record OneRun (telling : Telling) (job : Job) (end : FeedEnd) (status : Status) (output notes : Device SinkTold) (boxes : Device (List BoxTold)) : Type 0 where
  pub is_job : IsJob job
  pub streams : List (StreamPrefix Plain)
  pub solution : IsSolution job streams
  pub wrote : WroteBy status (answer_of telling job end streams) (failed_notes telling job end streams) output notes
  pub had : AllHad job.plan (HadItsCalls job streams) boxes

-- A run of a job in which memory ran out. The job has a valid plan, and inputs that fit it. By the one solution the output took a prefix of
-- the text, and each calculator had a prefix of its calls. Each calculator keeps what these calls leave.
pub record OneOut (form : OutputForm) (job : Job) (output : Device SinkTold) (boxes : Device (List BoxTold)) : Type 0 where
  pub is_job : IsJob job
  pub streams : List (StreamPrefix Plain)
  pub solution : IsSolution job streams
  pub front : TookFront output (output_in form job.plan streams)
  pub had : AllHad job.plan (KeepsAFront job streams) boxes

-- Runs over packet lines --

-- The job of all that was read was run.
abbrev pub OneReading : Laws → Reporting → Plan → Status → RunDevices → Device (List BoxTold) → Type 0
OneReading laws report plan status devices boxes =
    OverInput (inputs_of plan) devices.input (λ read. OneRun (by_lines report) (job_of laws plan read) read.end status devices.output devices.notes boxes)

-- Memory ran out. What was written and called by then is a prefix of what belongs to the whole input.
abbrev pub ReadingOut : Laws → Plan → Device SourceTold → Device SinkTold → Device (List BoxTold) → Type 0
ReadingOut laws plan input output boxes = OutIn (inputs_of plan) input output boxes (λ read. OneOut packet_lines (job_of laws plan read) output boxes)

-- a run over packet lines ended with this status: over the whole input, or because memory ran out
abbrev pub RanOverLines : Laws → Reporting → Plan → Status → RunDevices → Device (List BoxTold) → Type 0
RanOverLines laws report plan status devices boxes =
    OneReading laws report plan status devices boxes ⊎ MemoryRanOut status devices.notes (ReadingOut laws plan devices.input devices.output boxes)

-- Runs over packets that are made --

-- A number of packets were made, and their job was run.
abbrev pub OneMade : Laws → Reporting → Plan → ℕ → Status → Device SinkTold → Device SinkTold → Device (List BoxTold) → Type 0
OneMade laws report plan number status output notes boxes = OneRun (by_summary report) (generated_job laws plan number) Ended status output notes boxes

-- Memory ran out in a run over packets that are made, before anything was done or later.
abbrev pub MadeOut : Laws → Plan → ℕ → Device SinkTold → Device (List BoxTold) → Type 0
MadeOut laws plan number output boxes = WasNothing output boxes ⊎ OneOut totals (generated_job laws plan number) output boxes

-- a run over packets that are made ended with this status: over all packets, or because memory ran out
abbrev pub RanOverPackets : Laws → Reporting → Plan → ℕ → Status → Device SinkTold → Device SinkTold → Device (List BoxTold) → Type 0
RanOverPackets laws report plan number status output notes boxes =
    OneMade laws report plan number status output notes boxes ⊎ MemoryRanOut status notes (MadeOut laws plan number output boxes)
