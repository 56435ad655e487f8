-- What a call that makes a recorded run again did, by its status.
use Rattle.std.specs.Prelude.{◌≡◌, ◌⊎◌, ℕ, Bool, true, false, List, [], Option, None, Some}
use Rattle.mg_edge.specs.Edge.{SourceTold, SinkTold}
use Rattle.mg_value.specs.Payload.{Plain}
use Rattle.mg_settled.specs.Prefix.{StreamPrefix}
use Rattle.mg_calc.specs.Rules.{Laws}
use Rattle.mg_calc.specs.declared.inputs.Inputs.{Inputs}
use Rattle.mg_calc.specs.declared.plan.Plan.{Plan}
use Rattle.mg_calc.specs.Equations.{Job}
use Rattle.mg_calc.specs.Told.{BoxTold}
use Rattle.mg_feed.specs.declared.feed_end.FeedEnd.TheVariants.{Ended}
use Rattle.mg_answer.specs.Text.{output_text_of}
use Rattle.mg_answer.specs.Answer.{by_lines, RunAnswer, IsAnswerOf}
use Rattle.mg_answer.specs.Frozen.{IsFrozenAnswer, WroteFrozen}
use Rattle.mg_answer.specs.Wrote.{Wrote}
use Rattle.mg_answer.specs.Devices.{Device, RunDevices, Untouched, TookFront}
use Rattle.mg_answer.specs.declared.status.Status.{Status}
use Rattle.mg_answer.specs.declared.run.Reporting.{Reporting}
use Rattle.mg_drive.specs.Over.{MemoryRanOut}
use Rattle.mg_drive.specs.Leaves.{HadCallsOf, HadFronts}
use Rattle.mg_replay.specs.Replay.{LinesComeTo, WasRead}
use Rattle.mg_replay.specs.Note.{trace_note, trace_status, WroteNote}
use Rattle.mg_replay.specs.Reading.{BeginsWithJob}
use Rattle.mg_replay.specs.Leaves.{HadCloses}
use Rattle.mg_replay.specs.declared.trace_end.TraceEnd.{TraceEnd}
use Rattle.mg_replay.specs.declared.trace_end.TraceEnd.TheVariants.{Accepted, Refused, Failed}

-- The job of a plan over inputs.
abbrev pub job_over : Laws → Plan → Inputs → Job
job_over laws plan inputs = record { plan = plan; inputs = inputs; laws = laws }

-- The answer --

-- The answer of a job is that of a run of it if its input ended well, and else that of a frozen job.
abbrev pub AnswersJob : Bool → Reporting → Job → RunAnswer → Type 0
AnswersJob true report job answer = IsAnswerOf (by_lines report) job Ended answer
AnswersJob false report job answer = IsFrozenAnswer (by_lines report) job answer

-- The answer to lines by how their reading ended: the answer of the job if they are accepted, and otherwise nothing but the one
-- note.
abbrev pub AnswersEnd : Laws → TraceEnd → Reporting → Plan → Option Inputs → RunAnswer → Type 0
AnswersEnd laws Accepted report plan None answer = ⊥
AnswersEnd laws Accepted report plan (Some inputs) answer = AnswersJob inputs.ended report (job_over laws plan inputs) answer
AnswersEnd laws (Refused line cause) report plan job answer = answer ≡ record { output = []; notes = trace_note (Refused line cause); status = trace_status (Refused line cause) }
AnswersEnd laws (Failed lines) report plan job answer = answer ≡ record { output = []; notes = trace_note (Failed lines); status = trace_status (Failed lines) }

-- The answer to a recorded run of these lines.
pub record AnswersTrace (laws : Laws) (report : Reporting) (plan : Plan) (boxes : List BoxTold) (lines : List (List ℕ)) (answer : RunAnswer) : Type 0 where
  pub job : Option Inputs
  pub end : TraceEnd
  pub comes : LinesComeTo laws plan boxes lines job end
  pub answers : AnswersEnd laws end report plan job answer

-- What was written --

-- What was written of a job. If its input ended well, this is the answer of a run of it, and else the answer of a frozen job.
abbrev pub WroteJob : Bool → Reporting → Job → Status → Device SinkTold → Device SinkTold → Type 0
WroteJob true report job status output notes = Wrote (by_lines report) job Ended status output notes
WroteJob false report job status output notes = WroteFrozen (by_lines report) job status output notes

-- For an accepted run the answer of its job was written, and for any other nothing but the one note.
abbrev pub WroteEnd : Laws → TraceEnd → Reporting → Plan → Option Inputs → Status → Device SinkTold → Device SinkTold → Type 0
WroteEnd laws Accepted report plan None status output notes = ⊥
WroteEnd laws Accepted report plan (Some inputs) status output notes = WroteJob inputs.ended report (job_over laws plan inputs) status output notes
WroteEnd laws (Refused line cause) report plan job status output notes = Untouched output × WroteNote (Refused line cause) status notes
WroteEnd laws (Failed lines) report plan job status output notes = Untouched output × WroteNote (Failed lines) status notes

-- The calculators --

-- After an accepted run each calculator that a node uses had all calls of its node. After any other run, if the nodes were begun,
-- each calculator was opened, shown some of the first sets, perhaps none, and closed. It keeps what its node has reached by then.
-- If the nodes weren't begun, no calculator had a call.
abbrev pub HadEnd : Laws → TraceEnd → Plan → Option Inputs → Device (List BoxTold) → Type 0
HadEnd laws Accepted plan None boxes = ⊥
HadEnd laws Accepted plan (Some inputs) boxes = HadCallsOf (job_over laws plan inputs) boxes
HadEnd laws (Refused line cause) plan None boxes = Untouched boxes
HadEnd laws (Refused line cause) plan (Some inputs) boxes = HadCloses (job_over laws plan inputs) boxes
HadEnd laws (Failed lines) plan None boxes = Untouched boxes
HadEnd laws (Failed lines) plan (Some inputs) boxes = HadCloses (job_over laws plan inputs) boxes

-- The call --

-- A recorded run was read as far as it goes. The output, the notes and the calculators are as they have to be then.
pub record Replayed (laws : Laws) (report : Reporting) (plan : Plan) (status : Status) (devices : RunDevices) (boxes : Device (List BoxTold)) : Type 0 where
  pub job : Option Inputs
  pub end : TraceEnd
  pub read : WasRead laws plan boxes.before devices.input job end
  pub wrote : WroteEnd laws end report plan job status devices.output devices.notes
  pub had : HadEnd laws end plan job boxes

-- The lines are those of an accepted run, and the output took a prefix of the text that the streams make.
abbrev pub TookOutput : Laws → Plan → Inputs → List (StreamPrefix Plain) → List BoxTold → Device SourceTold → Device SinkTold → Type 0
TookOutput laws plan inputs streams boxes input output = WasRead laws plan boxes input (Some inputs) Accepted × TookFront output (output_text_of plan streams)

-- Memory ran out once the lines of a job were read. In the one solution of that job each calculator had a prefix of its calls, and keeps
-- what its node has reached after these calls. The output took nothing, or a prefix of the solution's text if the run is accepted.
pub record ReplayedOut (laws : Laws) (plan : Plan) (input : Device SourceTold) (output : Device SinkTold) (boxes : Device (List BoxTold)) : Type 0 where
  pub inputs : Inputs
  pub opened : BeginsWithJob plan input inputs
  pub had : HadFronts (job_over laws plan inputs) boxes
  pub took : Untouched output ⊎ TookOutput laws plan inputs had.streams boxes.before input output

-- Memory ran out: nothing was written and no calculator had a call, or the lines of a job were read.
abbrev pub ReplayedSome : Laws → Plan → RunDevices → Device (List BoxTold) → Type 0
ReplayedSome laws plan devices boxes = (Untouched devices.output × Untouched boxes) ⊎ ReplayedOut laws plan devices.input devices.output boxes

-- A call ended with this status. If memory ran out, the notes say that alone.
abbrev pub ReplayedBy : Laws → Status → Reporting → Plan → RunDevices → Device (List BoxTold) → Type 0
ReplayedBy laws status report plan devices boxes =
    Replayed laws report plan status devices boxes ⊎ MemoryRanOut status devices.notes (ReplayedSome laws plan devices boxes)
