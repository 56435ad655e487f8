-- A run that is recorded, step by step.
use Rattle.std.specs.Prelude.{◌≡◌, ◌⊎◌, ℕ, List, ◌++◌}
use Rattle.mg_edge.specs.Edge.{SinkTold}
use Rattle.mg_calc.specs.Rules.{Laws}
use Rattle.mg_calc.specs.declared.event.Event.{Event}
use Rattle.mg_calc.specs.declared.inputs.Inputs.{Inputs}
use Rattle.mg_calc.specs.declared.plan.Plan.{Plan}
use Rattle.mg_calc.specs.Told.{BoxTold}
use Rattle.mg_calc.specs.Equations.{Job}
use Rattle.mg_feed.specs.declared.feed_end.FeedEnd.{FeedEnd}
use Rattle.mg_trace.specs.Trace.{events_text}
use Rattle.mg_answer.specs.Answer.{by_text}
use Rattle.mg_answer.specs.Devices.{Device, device, Untouched, TookFront}
use Rattle.mg_answer.specs.Put.{BlockView, HasPutIn}
use Rattle.mg_answer.specs.Wrote.{Wrote}
use Rattle.mg_answer.specs.declared.status.Status.{Status}
use Rattle.mg_answer.specs.declared.run.Reporting.{Reporting}
use Rattle.mg_sched.specs.Views.{NetView}
use Rattle.mg_sched.specs.Runs.{IsRun}
use Rattle.mg_sched.specs.Made.{IsMade, job_of}
use Rattle.mg_sched.specs.GivesBack.{StoodFor, given_back}
use Rattle.mg_drive.specs.Leaves.{HadCallsOf}
use Rattle.mg_drive.specs.Traced.{IsTrace, TookSomeTrace}
use Rattle.mg_drive.specs.Code.Ending.{HadAllOf}

-- a job of a plan
abbrev pub plan_job : Laws → Plan → Inputs → Job
plan_job laws plan inputs = record { plan = plan; inputs = inputs; laws = laws }

-- a net was made for some inputs of a plan and some calculators
pub record IsSomeMade (laws : Laws) (plan : Plan) (net : NetView) : Type 0 where
  pub inputs : Inputs
  pub boxes : List BoxTold
  pub made : IsMade laws plan inputs boxes net

-- The lines of the events of a run from one net to another were put after a text, and an end after these lines.
pub record HasRecorded (laws : Laws) (first sink : SinkTold) (blocks : BlockView) (text end : List ℕ) (before now : NetView) : Type 0 where
  pub events : List Event
  pub run : IsRun laws events before now
  pub put : HasPutIn first sink blocks (text ++ (events_text events ++ end))

-- Memory ran out in a run. The sink took a prefix of a text with the lines of the events of a run from a net on after it.
pub record HasRecordedSome (laws : Laws) (first sink : SinkTold) (text : List ℕ) (before : NetView) : Type 0 where
  pub there : NetView
  pub events : List Event
  pub run : IsRun laws events before there
  pub front : TookFront (device first sink) (text ++ events_text events)

-- A net that was made was run, and a trace of it was written; its nodes' calculators had their calls.
pub record NetTraced (laws : Laws) (report : Reporting) (plan : Plan) (inputs : Inputs) (boxes : List BoxTold) (end : FeedEnd) (status : Status) (output notes : Device SinkTold) (net : NetView) : Type 0 where
  pub text : List ℕ
  pub trace : IsTrace laws plan inputs boxes text
  pub wrote : Wrote (by_text text report) (plan_job laws plan inputs) end status output notes
  pub had : HadAllOf (job_of laws plan inputs boxes) net
  pub stood : StoodFor (job_of laws plan inputs boxes) net

-- Memory ran out while a run was recorded: since the output told `before`, nothing was written, or some of a trace was.
pub record NetShort (laws : Laws) (plan : Plan) (inputs : Inputs) (boxes : List BoxTold) (before : SinkTold) (output : Device SinkTold) (net : NetView) : Type 0 where
  pub took : (output.now ≡ before) ⊎ TookSomeTrace laws plan inputs boxes output
  pub stood : StoodFor (job_of laws plan inputs boxes) net

-- A job was run and a trace of it written, and the user-supplied calculators had their calls.
pub record JobTraced (laws : Laws) (report : Reporting) (plan : Plan) (inputs : Inputs) (end : FeedEnd) (status : Status) (output notes : Device SinkTold) (boxes : Device (List BoxTold)) : Type 0 where
  pub text : List ℕ
  pub trace : IsTrace laws plan inputs boxes.before text
  pub wrote : Wrote (by_text text report) (plan_job laws plan inputs) end status output notes
  pub had : HadCallsOf (plan_job laws plan inputs) boxes

-- Memory ran out while a job was run and recorded. The output took nothing or some of a trace, and the calculators came back from the net.
pub record JobShort (laws : Laws) (plan : Plan) (inputs : Inputs) (output : Device SinkTold) (boxes : Device (List BoxTold)) : Type 0 where
  pub took : Untouched output ⊎ TookSomeTrace laws plan inputs boxes.before output
  pub net : NetView
  pub stood : StoodFor (job_of laws plan inputs boxes.before) net
  pub back : boxes.now ≡ given_back net
