-- A run of a net over batches, while it is under way.
use Rattle.std.specs.Prelude.{◌≡◌, ◌⊎◌, ◌<◌, ◌+◌, ⊤, ℕ, List, Result, IfOk, OnErr, length, take}
use Rattle.mg_edge.specs.Edge.{SourceTold, SinkTold}
use Rattle.mg_value.specs.Payload.{Plain}
use Rattle.mg_settled.specs.Prefix.{StreamPrefix}
use Rattle.mg_settled.specs.Settled.{TimedSet}
use Rattle.mg_calc.specs.Rules.{Laws}
use Rattle.mg_calc.specs.declared.inputs.Inputs.{Inputs}
use Rattle.mg_calc.specs.declared.plan.Plan.{Plan}
use Rattle.mg_calc.specs.Equations.{Job, IsSolution}
use Rattle.mg_calc.specs.Told.{BoxTold}
use Rattle.mg_feed.specs.declared.feed_end.FeedEnd.{FeedEnd}
use Rattle.mg_feed.specs.declared.feed_end.BatchEnd.{BatchEnd}
use Rattle.mg_feed.specs.declared.feed_end.BatchEnd.TheVariants.{More, End}
use Rattle.mg_answer.specs.Answer.{OutputForm, output_in}
use Rattle.mg_answer.specs.Devices.{device, TookFront}
use Rattle.mg_node.specs.Job.{LoggedJob, Solves}
use Rattle.mg_node.specs.Batches.{Grows}
use Rattle.mg_sched.specs.Views.{NetView}
use Rattle.mg_sched.specs.StandsFor.{StandsFor}
use Rattle.mg_sched.specs.Taking.{taken_out, settled_outputs}
use Rattle.mg_sched.specs.GivesBack.{StoodFor}
pub use Rattle.mg_drive.specs.Nets.{HasRested}
pub use Rattle.mg_drive.specs.Batches.{Giving, Due}
use Rattle.mg_drive.specs.Batches.{IsMore, logged, SomeGiven}
use Rattle.mg_drive.specs.declared.driving.Step.{Step}
use Rattle.mg_drive.specs.declared.driving.Step.TheVariants.{On, Over}

-- the type of `Batches::reads_on`: what a further call of batches reads
abbrev pub ReadingOn : Type 0 → Type 1
ReadingOn B = B → Plan → SourceTold → SourceTold → SourceTold → Type 0

-- the type of `Telling::has_told`: which sets were told
abbrev pub TellingSets : Type 0 → Type 1
TellingSets T = T → Plan → SinkTold → SinkTold → List (TimedSet Plain) → Type 0

-- how a run began: its plan, the user-supplied calculators, what the input and the output told, and where its batches come from
pub record Start (B : Type 0) : Type 0 where
  pub plan : Plan
  pub boxes : List BoxTold
  pub source : SourceTold
  pub sink : SinkTold
  pub batches : B

-- how the run of a plan begins, with these calculators
abbrev pub start_of : {B : Type 0} → Plan → List BoxTold → SourceTold → SinkTold → B → Start B
start_of plan boxes source sink batches = record { plan = plan; boxes = boxes; source = source; sink = sink; batches = batches }

-- the job of a run over what was given so far
abbrev pub job_with : (laws : Laws) {B : Type 0} → Start B → Inputs → LoggedJob laws
job_with laws start inputs = logged laws start.plan inputs start.boxes

-- the first `taken` sets of a job's solution were told
pub record IsTold {T : Type 0} (has_told : TellingSets T) (job : Job) (first sink : SinkTold) (taken : ℕ) (telling : T) : Type 0 where
  pub told : (streams : List (StreamPrefix Plain)) → IsSolution job streams → has_told telling job.plan first sink (take taken (settled_outputs job.plan streams))

-- some first sets of a job's solution were told, whatever has become of what tells them
pub record IsToldSome {T : Type 0} (has_told : TellingSets T) (job : Job) (first sink : SinkTold) : Type 0 where
  pub telling : T
  pub taken : ℕ
  pub is_told : IsTold has_told job first sink taken telling

-- a net stands for some job, and those sets of the job's solution were told that were taken out of the net
pub record IsSomeTold (laws : Laws) {T : Type 0} (has_told : TellingSets T) (sink : SinkTold) (net : NetView) (telling : T) : Type 0 where
  pub job : LoggedJob laws
  pub first : SinkTold
  pub stands : StandsFor job net
  pub is_told : IsTold has_told job.job first sink (taken_out net) telling

-- A run over batches is under way. Its net stands for the job over what they gave, and the last batch ended in this way.
pub record IsUnderWay (laws : Laws) {B T : Type 0} (gives : Giving B) (has_told : TellingSets T) (start : Start B) (end : BatchEnd) (source : SourceTold) (sink : SinkTold) (batches : B) (telling : T) (net : NetView) : Type 0 where
  pub inputs : Inputs
  pub given : gives start.batches batches start.plan start.source source end inputs
  pub stands : StandsFor (job_with laws start inputs) net
  pub is_told : IsTold has_told (job_with laws start inputs).job start.sink sink (taken_out net) telling

-- some run of a plan is under way with these batches and this net
pub record IsSomeRun (laws : Laws) {B T : Type 0} (gives : Giving B) (has_told : TellingSets T) (plan : Plan) (end : BatchEnd) (source : SourceTold) (sink : SinkTold) (batches : B) (telling : T) (net : NetView) : Type 0 where
  pub start : Start B
  pub plan_is : start.plan ≡ plan
  pub under_way : IsUnderWay laws gives has_told start end source sink batches telling net

-- in some run with this net and these batches the next batch is due
pub record IsSomeMore (laws : Laws) {B : Type 0} (gives : Giving B) (is_due : Due B) (source : SourceTold) (batches : B) (net : NetView) : Type 0 where
  pub start : Start B
  pub inputs : Inputs
  pub given : gives start.batches batches start.plan start.source source More inputs
  pub due : is_due batches start.plan inputs
  pub stands : StandsFor (job_with laws start inputs) net

-- A net went on with one more batch.
pub record WentOn (laws : Laws) {B : Type 0} (gives : Giving B) (start : Start B) (end : BatchEnd) (source : SourceTold) (batches : B) (inputs : Inputs) (net : NetView) : Type 0 where
  pub all : Inputs
  pub given : gives start.batches batches start.plan start.source source end all
  pub grows : Grows (job_with laws start inputs) (job_with laws start all)
  pub stands : StandsFor (job_with laws start all) net

-- all sets of a job's solution were taken out of a net
abbrev pub IsAllTaken : {laws : Laws} → LoggedJob laws → NetView → Type 0
IsAllTaken {laws} job net = (streams : List (StreamPrefix Plain)) → Solves job streams → taken_out net ≡ length (settled_outputs net.plan streams)

-- a net has come to rest for some job of a plan
pub record SomeRested (laws : Laws) (plan : Plan) (net : NetView) : Type 0 where
  pub job : LoggedJob laws
  pub plan_is : job.job.plan ≡ plan
  pub stands : StandsFor job net
  pub has_rested : HasRested job net

-- A net has come to rest over what batches gave for a plan. The last batch ended the input in this way.
pub record SomeRestedOf (laws : Laws) {B : Type 0} (gives : Giving B) (plan : Plan) (end : FeedEnd) (net : NetView) (batches : B) : Type 0 where
  pub given : SomeGiven laws gives (End end) net batches
  pub plan_is : given.plan ≡ plan

-- A run is over: its input has ended, its net has come to rest with that, and all sets were told.
pub record RunIsOver (laws : Laws) {B T : Type 0} (gives : Giving B) (has_told : TellingSets T) (start : Start B) (end : FeedEnd) (source : SourceTold) (sink : SinkTold) (batches : B) (telling : T) (net : NetView) : Type 0 where
  pub under_way : IsUnderWay laws gives has_told start (End end) source sink batches telling net
  pub has_rested : HasRested (job_with laws start under_way.inputs) net
  pub all : IsAllTaken (job_with laws start under_way.inputs) net

-- A step of a run --

-- The run is under way still, or it is over.
abbrev pub HasStepped : (laws : Laws) {B T : Type 0} → Giving B → TellingSets T → Start B → Step → SourceTold → SinkTold → B → T → NetView → Type 0
HasStepped laws gives has_told start (On end) source sink batches telling net = IsUnderWay laws gives has_told start end source sink batches telling net
HasStepped laws gives has_told start (Over end) source sink batches telling net = RunIsOver laws gives has_told start end source sink batches telling net

-- a bound on the steps that are left, by how the last batch ended and by how much may still come
abbrev pub steps_left : BatchEnd → ℕ → ℕ
steps_left More left = left + 1
steps_left (End end) left = 0

-- a step with which the run goes on leaves fewer
abbrev pub LeavesFewer : Step → BatchEnd → ℕ → ℕ → Type 0
LeavesFewer (On end) last before now = steps_left end now < steps_left last before
LeavesFewer (Over end) last before now = ⊤

-- a prefix of the text by which a job's solution is told in a form was taken
abbrev pub FrontIn : OutputForm → SinkTold → SinkTold → Job → Type 0
FrontIn form first sink job = (streams : List (StreamPrefix Plain)) → IsSolution job streams → TookFront (device first sink) (output_in form job.plan streams)

-- Memory ran out in a run: after a batch had come, or while more was read after that batch.
pub record IsShort (laws : Laws) {B T : Type 0} (gives : Giving B) (reads_on : ReadingOn B) (has_told : TellingSets T) (form : OutputForm) (start : Start B) (source : SourceTold) (sink : SinkTold) (net : NetView) : Type 0 where
  pub batches : B
  pub end : BatchEnd
  pub at : SourceTold
  pub inputs : Inputs
  pub given : gives start.batches batches start.plan start.source at end inputs
  pub last : (at ≡ source) ⊎ (IsMore end × reads_on batches start.plan start.source at source)
  pub stood : StoodFor (job_with laws start inputs) net
  pub front : IsToldSome has_told (job_with laws start inputs).job start.sink sink ⊎ FrontIn form start.sink sink (job_with laws start inputs).job
  -- while the input went on, sets were told and nothing else was written
  pub unended : IsMore end → IsToldSome has_told (job_with laws start inputs).job start.sink sink

-- What the steps of a run came to: it is over, or memory ran out.
pub record IsDriven (laws : Laws) {B T E : Type 0} (gives : Giving B) (reads_on : ReadingOn B) (has_told : TellingSets T) (form : OutputForm) (start : Start B) (end : Result FeedEnd E) (source : SourceTold) (sink : SinkTold) (batches : B) (telling : T) (net : NetView) : Type 0 where
  pub over : IfOk end (λ e. RunIsOver laws gives has_told start e source sink batches telling net)
  pub short : OnErr end (IsShort laws gives reads_on has_told form start source sink net)
