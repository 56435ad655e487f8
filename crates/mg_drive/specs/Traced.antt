-- What a recorded run came to, by its status. Its output is a trace: the text of the job, and of the events that brought a net to rest once
-- its nodes had begun. All else is as in a run that writes its outputs.
use Rattle.std.specs.Prelude.{◌≡◌, ◌⊎◌, ℕ, List, ◌++◌}
use Rattle.mg_edge.specs.Edge.{SinkTold}
use Rattle.mg_calc.specs.Rules.{Laws}
use Rattle.mg_calc.specs.declared.event.Event.{Event}
use Rattle.mg_calc.specs.declared.inputs.Inputs.{Inputs}
use Rattle.mg_calc.specs.declared.plan.Plan.{Plan}
use Rattle.mg_calc.specs.Told.{BoxTold}
use Rattle.mg_feed.specs.Graph.{inputs_of}
use Rattle.mg_trace.specs.Job.{job_text}
use Rattle.mg_trace.specs.Trace.{events_text, trace_text}
use Rattle.mg_answer.specs.Answer.{Read, RunAnswer, by_lines, inputs_by, ended_input, job_of, failed_notes, IsAnswer}
use Rattle.mg_answer.specs.Devices.{Device, RunDevices, Untouched, TookFront}
use Rattle.mg_answer.specs.Wrote.{WroteBy}
use Rattle.mg_answer.specs.Ran.{ReadSome}
use Rattle.mg_answer.specs.declared.status.Status.{Status}
use Rattle.mg_answer.specs.declared.run.Reporting.{Reporting}
use Rattle.mg_drive.specs.Over.{OverInput, MemoryRanOut}
use Rattle.mg_sched.specs.Views.{NetView}
use Rattle.mg_sched.specs.Runs.{IsRun, IsBegun, IsRunAtRest}

-- Traces --

-- A trace of a job, with the user-supplied calculators: the job's lines, and the events of a run of the job to rest.
pub record IsTrace (laws : Laws) (plan : Plan) (inputs : Inputs) (boxes : List BoxTold) (text : List ℕ) : Type 0 where
  pub events : List Event
  pub run : IsRunAtRest laws plan inputs boxes events
  pub is : text ≡ trace_text plan inputs events

-- The events of a run of a job so far: they begin where the job's runs begin, and the run may go on.
pub record IsRunSoFar (laws : Laws) (plan : Plan) (inputs : Inputs) (boxes : List BoxTold) (events : List Event) : Type 0 where
  pub begun : NetView
  pub begins : IsBegun laws plan inputs boxes begun
  pub now : NetView
  pub run : IsRun laws events begun now

-- The output took a prefix of a trace of a job, or of the job's lines and the events of a run so far.
abbrev pub TookSomeTrace : Laws → Plan → Inputs → List BoxTold → Device SinkTold → Type 0
TookSomeTrace laws plan inputs boxes output = ((text : List ℕ) × IsTrace laws plan inputs boxes text × TookFront output text)
    ⊎ ((events : List Event) × IsRunSoFar laws plan inputs boxes events × TookFront output (job_text plan inputs ++ events_text events))

-- The answer of a recorded run over what was read of its input. It is the answer of a run, but the output is a trace.
pub record IsTraced (laws : Laws) (report : Reporting) (plan : Plan) (boxes : List BoxTold) (read : Read) (answer : RunAnswer) : Type 0 where
  pub text : List ℕ
  pub trace : IsTrace laws plan (inputs_by (inputs_of plan) read) boxes text
  pub of_run : RunAnswer
  pub is_answer : IsAnswer laws report plan read of_run
  pub is : answer ≡ record of_run { output = text }

-- the answer of a recorded run over an input that ended after these bytes
abbrev pub TracesEnded : Laws → Reporting → Plan → List BoxTold → List ℕ → RunAnswer → Type 0
TracesEnded laws report plan boxes bytes answer = IsTraced laws report plan boxes (ended_input (inputs_of plan) bytes) answer

-- The run --

-- The answer of a recorded run was written. If a write failed, what was written belongs to this answer.
pub record WroteTrace (laws : Laws) (report : Reporting) (plan : Plan) (boxes : List BoxTold) (read : Read) (status : Status) (output notes : Device SinkTold) : Type 0 where
  pub answer : RunAnswer
  pub is : IsTraced laws report plan boxes read answer
  pub by : WroteBy status answer (failed_notes (by_lines report) (job_of laws plan read) read.end is.is_answer.streams) output notes

-- The input was read, and the answer of a recorded run over it was written.
abbrev pub TracedAll : Laws → Reporting → Plan → List BoxTold → Status → RunDevices → Type 0
TracedAll laws report plan boxes status devices =
    OverInput (inputs_of plan) devices.input (λ read. WroteTrace laws report plan boxes read status devices.output devices.notes)

-- Memory ran out before anything was written, or after the input was read. In that case the output took some of a trace of the
-- input's job.
abbrev pub TracedOut : Laws → Plan → List BoxTold → RunDevices → Type 0
TracedOut laws plan boxes devices =
    Untouched devices.output ⊎ OverInput (inputs_of plan) devices.input (λ read. TookSomeTrace laws plan (inputs_by (inputs_of plan) read) boxes devices.output)

-- A recorded run ended with this status. If memory ran out, the notes say only that, and what was read of the input was read once.
abbrev pub Traced : Laws → Reporting → Plan → List BoxTold → Status → RunDevices → Type 0
Traced laws report plan boxes status devices =
    TracedAll laws report plan boxes status devices ⊎ MemoryRanOut status devices.notes (TracedOut laws plan boxes devices × ReadSome (inputs_of plan) devices.input)
