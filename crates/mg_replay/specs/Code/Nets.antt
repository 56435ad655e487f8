-- A net on which a recorded run is made again.
use Rattle.std.specs.Prelude.{◌≡◌, ◌⊎◌, ℕ, Bool, true, false, List, Some, slice_get}
use Rattle.mg_edge.specs.Edge.{SourceTold}
use Rattle.mg_value.specs.Payload.{Plain}
use Rattle.mg_settled.specs.Prefix.{StreamPrefix}
use Rattle.mg_calc.specs.Rules.{Laws}
use Rattle.mg_calc.specs.declared.inputs.Inputs.{Inputs}
use Rattle.mg_calc.specs.declared.plan.Plan.{Plan}
use Rattle.mg_calc.specs.declared.plan_node.PlanNode.{PlanNode}
use Rattle.mg_calc.specs.Shape.{IsOuter}
use Rattle.mg_calc.specs.Equations.{IsJob, IsSolution}
use Rattle.mg_calc.specs.Told.{BoxTold}
use Rattle.mg_sched.specs.Views.{NetView}
use Rattle.mg_node.specs.Job.{LoggedJob}
use Rattle.mg_node.specs.Had.{HadClose}
use Rattle.mg_sched.specs.Made.{job_of}
use Rattle.mg_sched.specs.GivesBack.{given_back, StoodFor}
use Rattle.mg_sched.specs.StandsFor.{StandsFor}
use Rattle.mg_answer.specs.Text.{output_text_of}
use Rattle.mg_answer.specs.Devices.{Device, device, RunDevices, Untouched, TookFront}
use Rattle.mg_answer.specs.declared.status.Status.{Status}
use Rattle.mg_answer.specs.declared.run.Reporting.{Reporting}
use Rattle.mg_drive.specs.Leaves.{HadFronts}
use Rattle.mg_drive.specs.Code.Ending.{HadAllOf}
use Rattle.mg_replay.specs.Replay.{WasRead}
use Rattle.mg_replay.specs.Replayed.{job_over, WroteEnd, HadEnd}
use Rattle.mg_replay.specs.Reading.{BeginsWithJob}
use Rattle.mg_replay.specs.declared.trace_end.TraceEnd.{TraceEnd}
use Rattle.mg_replay.specs.declared.trace_end.TraceEnd.TheVariants.{Accepted, Refused, Failed}

-- the devices of a call, as if its input told this at its beginning
abbrev pub told_since : SourceTold → RunDevices → RunDevices
told_since first devices = record devices { input = device first devices.input.now }

-- whether the reading of a run ended so that it is accepted
abbrev pub accepts : TraceEnd → Bool
accepts Accepted = true
accepts (Refused line cause) = false
accepts (Failed lines) = false

-- a net stands for some job of this plan
pub record StandsForPlan (laws : Laws) (plan : Plan) (net : NetView) : Type 0 where
  pub job : LoggedJob laws
  pub plan_is : job.job.plan ≡ plan
  pub stands : StandsFor job net

-- each calculator that a node uses comes back with first calls of that node in a solution of a job. It comes back closed if it was
-- opened
pub record ClosedAllOf {laws : Laws} (job : LoggedJob laws) (net : NetView) : Type 0 where
  pub is_job : IsJob job.job
  pub streams : List (StreamPrefix Plain)
  pub solution : IsSolution job.job streams
  pub each : (number place : ℕ) (node : PlanNode) → slice_get job.job.plan.nodes number ≡ Some node → node.box_number ≡ Some place → IsOuter node.law
      → (told : BoxTold) × (slice_get (given_back net) place ≡ Some told) × HadClose job streams node told

-- what the calculators of a net had, by how the reading of a run ended
abbrev pub HadBy : {laws : Laws} → TraceEnd → LoggedJob laws → NetView → Type 0
HadBy {laws} Accepted job net = HadAllOf job net
HadBy {laws} (Refused line cause) job net = ClosedAllOf job net
HadBy {laws} (Failed lines) job net = ClosedAllOf job net

-- A recorded run was made again on this net, and what is due at its end was written.
pub record NetReplayed (laws : Laws) (report : Reporting) (plan : Plan) (inputs : Inputs) (boxes : List BoxTold) (status : Status) (devices : RunDevices) (net : NetView) : Type 0 where
  pub end : TraceEnd
  pub read : WasRead laws plan boxes devices.input (Some inputs) end
  pub wrote : WroteEnd laws end report plan (Some inputs) status devices.output devices.notes
  pub had : HadBy end (job_of laws plan inputs boxes) net
  pub stood : StoodFor (job_of laws plan inputs boxes) net

-- What the output took if memory ran out: nothing, or a prefix of the text of a run that is accepted.
abbrev pub TookOf : Laws → Plan → Inputs → List BoxTold → RunDevices → Type 0
TookOf laws plan inputs boxes devices =
    Untouched devices.output ⊎ (WasRead laws plan boxes devices.input (Some inputs) Accepted
    × ((streams : List (StreamPrefix Plain)) → IsSolution (job_over laws plan inputs) streams → TookFront devices.output (output_text_of plan streams)))

-- Memory ran out while a recorded run was made again on this net.
pub record NetShort (laws : Laws) (plan : Plan) (inputs : Inputs) (boxes : List BoxTold) (devices : RunDevices) (net : NetView) : Type 0 where
  pub took : TookOf laws plan inputs boxes devices
  pub opened : BeginsWithJob plan devices.input inputs
  pub stood : StoodFor (job_of laws plan inputs boxes) net

-- A recorded run of a job was made again, with what is due at its end and with the calls that the calculators had.
pub record JobReplayed (laws : Laws) (report : Reporting) (plan : Plan) (inputs : Inputs) (status : Status) (devices : RunDevices) (boxes : Device (List BoxTold)) : Type 0 where
  pub end : TraceEnd
  pub read : WasRead laws plan boxes.before devices.input (Some inputs) end
  pub wrote : WroteEnd laws end report plan (Some inputs) status devices.output devices.notes
  pub had : HadEnd laws end plan (Some inputs) boxes

-- Memory ran out while a recorded run of a job was made again.
pub record JobShort (laws : Laws) (plan : Plan) (inputs : Inputs) (devices : RunDevices) (boxes : Device (List BoxTold)) : Type 0 where
  pub took : TookOf laws plan inputs boxes.before devices
  pub opened : BeginsWithJob plan devices.input inputs
  pub fronts : HadFronts (job_over laws plan inputs) boxes
