-- How a run of a net ends, and what it leaves.
use Rattle.std.specs.Prelude.{◌≡◌, ◌⊎◌, ℕ, List, [], Some, slice_get}
use Rattle.mg_edge.specs.Edge.{SourceTold, SinkTold}
use Rattle.mg_value.specs.Payload.{Plain}
use Rattle.mg_settled.specs.Prefix.{StreamPrefix}
use Rattle.mg_calc.specs.Rules.{Laws}
use Rattle.mg_calc.specs.declared.inputs.Inputs.{Inputs}
use Rattle.mg_calc.specs.declared.plan.Plan.{Plan}
use Rattle.mg_calc.specs.declared.plan_node.PlanNode.{PlanNode}
use Rattle.mg_calc.specs.Shape.{IsOuter}
use Rattle.mg_calc.specs.Told.{BoxTold}
use Rattle.mg_calc.specs.Equations.{Job, IsJob, IsSolution}
use Rattle.mg_feed.specs.declared.feed_end.FeedEnd.{FeedEnd}
use Rattle.mg_feed.specs.declared.feed_end.BatchEnd.{BatchEnd}
use Rattle.mg_feed.specs.declared.feed_end.BatchEnd.TheVariants.{End}
use Rattle.mg_answer.specs.Answer.{OutputForm, output_in}
use Rattle.mg_answer.specs.Devices.{Device, device, RunDevices}
use Rattle.mg_answer.specs.Put.{TextView, HasPut}
use Rattle.mg_answer.specs.declared.outcomes.Outcomes.{Outcomes}
use Rattle.mg_answer.specs.declared.status.Status.{Status}
use Rattle.mg_answer.specs.declared.run.Reporting.{Reporting}
use Rattle.mg_node.specs.Job.{LoggedJob}
use Rattle.mg_node.specs.Had.{HadCalls}
use Rattle.mg_sched.specs.Views.{NetView}
use Rattle.mg_sched.specs.Made.{IsMade}
use Rattle.mg_sched.specs.GivesBack.{StoodFor, given_back}
use Rattle.mg_sched.specs.Reports.{report_of}
use Rattle.mg_drive.specs.Nets.{Keeps}
use Rattle.mg_drive.specs.Batches.{IsMore, logged}
use Rattle.mg_drive.specs.Leaves.{HadCallsOf}
pub use Rattle.mg_drive.specs.OneRun.{CalculatorsCameBack, WasNothing}
use Rattle.mg_drive.specs.Code.Running.{Giving, ReadingOn, TellingSets, Start, job_with, IsToldSome, FrontIn}

-- the whole text by which a job's solution is told in a form was put
abbrev pub IsWhole : OutputForm → SinkTold → SinkTold → Job → TextView → Type 0
IsWhole form first sink job text = (streams : List (StreamPrefix Plain)) → IsSolution job streams → HasPut first sink text (output_in form job.plan streams)

-- the outcomes are what a net reports
pub record TellsNet (net : NetView) (outcomes : Outcomes) : Type 0 where
  pub faults : outcomes.faults ≡ (report_of net).faults
  pub sets : outcomes.sets ≡ (report_of net).sets
  pub ends : outcomes.ends.items ≡ (report_of net).streams
  pub arrivals : outcomes.arrivals.items ≡ []

-- Calculators.

-- the calculator of a node comes back with all the calls that its node has in a solution
pub record CalculatorComesBack {laws : Laws} (job : LoggedJob laws) (streams : List (StreamPrefix Plain)) (node : PlanNode) (place : ℕ) (net : NetView) : Type 0 where
  pub told : BoxTold
  pub there : slice_get (given_back net) place ≡ Some told
  pub had : HadCalls job streams node told

-- each user-supplied calculator that a node uses comes back with all the calls that its node has in a solution of a job
pub record HadAllOf {laws : Laws} (job : LoggedJob laws) (net : NetView) : Type 0 where
  pub is_job : IsJob job.job
  pub streams : List (StreamPrefix Plain)
  pub solution : IsSolution job.job streams
  pub each : (number place : ℕ) (node : PlanNode) → slice_get job.job.plan.nodes number ≡ Some node → node.box_number ≡ Some place → IsOuter node.law
      → CalculatorComesBack job streams node place net

-- a net stood for some job with these calculators, and may have been wound up since
pub record StoodWith (laws : Laws) (boxes : List BoxTold) (net : NetView) : Type 0 where
  pub job : LoggedJob laws
  pub stood : StoodFor job net
  pub boxes_are : job.boxes ≡ boxes

-- a net was made of a plan and these calculators, and has kept its plan and the calculators that no node uses since
pub record WasMade (laws : Laws) (plan : Plan) (boxes : List BoxTold) (net : NetView) : Type 0 where
  pub inputs : Inputs
  pub made : NetView
  pub is_made : IsMade laws plan inputs boxes made
  pub keeps : Keeps made net

-- Runs.

-- the type of `Batches::wrote`: what is written at the end of a run over batches
abbrev pub Writing : Type 0 → Type 1
Writing B = B → OutputForm → Reporting → Job → FeedEnd → Status → Device SinkTold → Device SinkTold → Type 0

-- the devices of a run, if the input told `source` at the beginning of the run
abbrev pub since : SourceTold → RunDevices → RunDevices
since source devices = record devices { input = device source devices.input.now }

-- A net was run: the answer of the job of all that was given was written, and its nodes' calculators had their calls.
pub record HasEnded (laws : Laws) {B : Type 0} (gives : Giving B) (writes : Writing B) (form : OutputForm) (report : Reporting) (start : Start B) (status : Status) (source : SourceTold) (sink : SinkTold) (notes : Device SinkTold) (net : NetView) : Type 0 where
  pub batches : B
  pub end : FeedEnd
  pub inputs : Inputs
  pub given : gives start.batches batches start.plan start.source source (End end) inputs
  pub wrote : writes batches form report (job_with laws start inputs).job end status (device start.sink sink) notes
  pub had : HadAllOf (job_with laws start inputs) net
  pub stood : StoodFor (job_with laws start inputs) net

-- A run is over. The answer of the job over all that was given was written, and the user-supplied calculators had their calls.
pub record HasRunBatches (laws : Laws) {B : Type 0} (gives : Giving B) (writes : Writing B) (form : OutputForm) (report : Reporting) (began : B) (plan : Plan) (status : Status) (devices : RunDevices) (boxes : Device (List BoxTold)) : Type 0 where
  pub batches : B
  pub end : FeedEnd
  pub inputs : Inputs
  pub given : gives began batches plan devices.input.before devices.input.now (End end) inputs
  pub wrote : writes batches form report (record { plan = plan; inputs = inputs; laws = laws }) end status devices.output devices.notes
  pub had : HadCallsOf (record { plan = plan; inputs = inputs; laws = laws }) boxes

-- Memory ran out in a run once there was a net.
pub record WasShort (laws : Laws) {B T : Type 0} (gives : Giving B) (reads_on : ReadingOn B) (has_told : TellingSets T) (form : OutputForm) (began : B) (plan : Plan) (devices : RunDevices) (boxes : Device (List BoxTold)) : Type 0 where
  pub batches : B
  pub end : BatchEnd
  pub at : SourceTold
  pub inputs : Inputs
  pub given : gives began batches plan devices.input.before at end inputs
  pub last : (at ≡ devices.input.now) ⊎ (IsMore end × reads_on batches plan devices.input.before at devices.input.now)
  pub net : NetView
  pub stood : StoodFor (logged laws plan inputs boxes.before) net
  pub back : boxes.now ≡ given_back net
  pub front : IsToldSome has_told (record { plan = plan; inputs = inputs; laws = laws }) devices.output.before devices.output.now
      ⊎ FrontIn form devices.output.before devices.output.now (record { plan = plan; inputs = inputs; laws = laws })
  pub unended : IsMore end → IsToldSome has_told (record { plan = plan; inputs = inputs; laws = laws }) devices.output.before devices.output.now

-- A first batch was given.
pub record HasGiven {B : Type 0} (gives : Giving B) (began : B) (plan : Plan) (input : Device SourceTold) : Type 0 where
  pub batches : B
  pub end : BatchEnd
  pub inputs : Inputs
  pub given : gives began batches plan input.before input.now end inputs

-- What was read if memory ran out before there was a net: nothing, or what the first call of `next` reads, or the first batch.
abbrev pub ReadFirst : {B : Type 0} → Giving B → ReadingOn B → B → Plan → Device SourceTold → Type 0
ReadFirst gives reads_on began plan input = (input.now ≡ input.before) ⊎ (reads_on began plan input.before input.before input.now ⊎ HasGiven gives began plan input)

-- a run over batches ended because memory ran out, before there was a net or later
abbrev pub RanOutOfMemory : (laws : Laws) {B T : Type 0} → Giving B → ReadingOn B → TellingSets T → OutputForm → B → Plan → RunDevices → Device (List BoxTold) → Type 0
RanOutOfMemory laws gives reads_on has_told form began plan devices boxes =
    (ReadFirst gives reads_on began plan devices.input × WasNothing devices.output boxes) ⊎ WasShort laws gives reads_on has_told form began plan devices boxes
