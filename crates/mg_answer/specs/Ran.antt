-- What a run did, by its status.
use Rattle.std.specs.Prelude.{◌≡◌, ◌≤◌, ℕ, ◌⊎◌, ◌++◌, List, [], length, Bool, true, false, IfSome}
use Rattle.mg_edge.specs.Edge.{SourceTold, SinkTold}
use Rattle.mg_edge.specs.Runs.{Gave}
use Rattle.mg_calc.specs.declared.plan.Plan.{Plan}
use Rattle.mg_feed.specs.Graph.{GraphInputs, inputs_of}
use Rattle.mg_feed.specs.Lines.{whole_lines}
use Rattle.mg_feed.specs.Accepted.{most_lines}
use Rattle.mg_feed.specs.Ran.{EndCame, MetEnd, Unfailed, ReadFailed, FailedBy}
use Rattle.mg_feed.specs.Once.{ReadsOnce}
use Rattle.mg_feed.specs.declared.feed_end.FeedEnd.{FeedEnd}
use Rattle.mg_feed.specs.declared.feed_end.FeedEnd.TheVariants.{Ended, Failed, Refused, OutOfMemory as no_lines}
use Rattle.mg_value.specs.Payload.{Plain}
use Rattle.mg_settled.specs.Prefix.{StreamPrefix}
use Rattle.mg_calc.specs.Equations.{IsSolution}
use Rattle.mg_calc.specs.Rules.{Laws}
use Rattle.mg_answer.specs.Text.{output_text_of}
use Rattle.mg_answer.specs.Summary.{summary_of}
use Rattle.mg_answer.specs.Notes.{memory_note}
use Rattle.mg_answer.specs.Answer.{Read, RunAnswer, by_lines, by_summary, failed_notes, ended_input, cut_input, job_of, generated_job, IsAnswer, AnswersEnded, AnswersGenerated}
use Rattle.mg_answer.specs.Devices.{Device, RunDevices, Untouched, TookFront, TookNotes}
use Rattle.mg_answer.specs.Wrote.{Meets, MetShort}
use Rattle.mg_answer.specs.declared.status.Status.{Status}
use Rattle.mg_answer.specs.declared.status.Status.TheVariants.{WriteFault, OutOfMemory}
use Rattle.mg_answer.specs.declared.run.Reporting.{Reporting}

-- The input --

-- How the bytes that came in a call show what an input gave. Either the input ended after them: the source answered `End`, and if
-- the source tells its bytes, none is left. Or one of their lines isn't good, whatever bytes may follow. No bytes follow if the
-- source has ended. Or a read failed after them, and their whole lines are all good.
abbrev pub CameAs : FeedEnd → GraphInputs → Device SourceTold → List ℕ → Read → Type 0
CameAs Ended graph input came read = EndCame input.before input.now × (read ≡ ended_input graph came)
CameAs (Failed lines) graph input came read = (read ≡ cut_input graph came) × (read.lines ≡ whole_lines came)
CameAs (Refused line cause) graph input came read =
    (ended : Bool) × MetEnd false ended input.before input.now × ((more : List ℕ) → (ended ≡ true → more ≡ []) → read ≡ ended_input graph (came ++ more))
CameAs no_lines graph input came read = ⊥

-- An input was read to its end, to its first line that isn't good, or until a read failed. It gave these lines and this end. A read
-- failed exactly in the last of these cases, and nothing was read after it. The input was read once, and no further than to the
-- block in which its first line that isn't good ends.
pub record CameTo (graph : GraphInputs) (input : Device SourceTold) (read : Read) : Type 0 where
  pub came : List ℕ
  pub gave : Gave input.before.left input.now.left came
  pub by : CameAs read.end graph input came read
  pub faults : FailedBy read.end input.before input.now
  pub once : ReadsOnce graph input.before input.now came
  pub few : length read.lines ≤ most_lines

-- Some of an input was read, or none of it, once and no further than needed. No read failed, or the last read did.
pub record ReadSome (graph : GraphInputs) (input : Device SourceTold) : Type 0 where
  pub came : List ℕ
  pub gave : Gave input.before.left input.now.left came
  pub once : ReadsOnce graph input.before input.now came
  pub faults : Unfailed input.before input.now ⊎ ReadFailed input.before input.now

-- The run --

-- The run wrote the answer over what its input gave, and ended with its status.
pub record RanAll (laws : Laws) (report : Reporting) (plan : Plan) (status : Status) (devices : RunDevices) : Type 0 where
  pub read : Read
  pub input : CameTo (inputs_of plan) devices.input read
  pub answer : RunAnswer
  pub is : IsAnswer laws report plan read answer
  pub met : Meets answer status devices.output devices.notes

-- A write failed after the input was read. All bytes that were written are of the answer over what the input gave.
pub record RanShort (laws : Laws) (report : Reporting) (plan : Plan) (devices : RunDevices) : Type 0 where
  pub read : Read
  pub input : CameTo (inputs_of plan) devices.input read
  pub answer : RunAnswer
  pub is : IsAnswer laws report plan read answer
  pub short : MetShort answer (failed_notes (by_lines report) (job_of laws plan read) read.end is.streams) devices.output devices.notes

-- The output took a prefix of the answer's text over what the input gave.
pub record TookSome (laws : Laws) (plan : Plan) (input : Device SourceTold) (output : Device SinkTold) : Type 0 where
  pub read : Read
  pub came : CameTo (inputs_of plan) input read
  pub streams : List (StreamPrefix Plain)
  pub solution : IsSolution (job_of laws plan read) streams
  pub front : TookFront output (output_text_of plan streams)

-- Memory ran out, before anything was written or after the input was read.
abbrev pub RanOut : Laws → Plan → RunDevices → Type 0
RanOut laws plan devices = Untouched devices.output ⊎ TookSome laws plan devices.input devices.output

-- A run ended with this status. If memory ran out, the notes say that alone, and no part of the input was read twice.
abbrev pub Ran : Laws → Reporting → Plan → Status → RunDevices → Type 0
Ran laws report plan WriteFault devices = RanShort laws report plan devices
Ran laws report plan OutOfMemory devices = RanOut laws plan devices × TookNotes devices.notes memory_note × ReadSome (inputs_of plan) devices.input
Ran laws report plan status devices = RanAll laws report plan status devices

-- Memory ran out. Either the input was read, and the output took a prefix of the answer's text over what the input gave. Or the
-- input was still being read. If it tells its bytes, the output then took a prefix of the answer's text over an input that ends
-- after these bytes.
abbrev pub RanShortOf : Laws → Plan → RunDevices → Type 0
RanShortOf laws plan devices =
    TookSome laws plan devices.input devices.output ⊎ IfSome devices.input.before.left (λ bytes. (streams : List (StreamPrefix Plain))
    → IsSolution (job_of laws plan (ended_input (inputs_of plan) bytes)) streams → TookFront devices.output (output_text_of plan streams))

-- A run that writes as it goes ended with this status.
abbrev pub RanOn : Laws → Reporting → Plan → Status → RunDevices → Type 0
RanOn laws report plan WriteFault devices = RanShort laws report plan devices
RanOn laws report plan OutOfMemory devices = RanShortOf laws plan devices × TookNotes devices.notes memory_note
RanOn laws report plan status devices = RanAll laws report plan status devices

-- If the input tells its bytes, the run wrote the answer over an input that ends after these bytes.
abbrev pub IsAnswered : Laws → Reporting → Plan → Status → RunDevices → Type 0
IsAnswered laws report plan status devices =
    IfSome devices.input.before.left (λ bytes. (answer : RunAnswer) × AnswersEnded laws report plan bytes answer × Meets answer status devices.output devices.notes)

-- A run over packets that are made --

-- The run wrote the answer over the packets that are made.
pub record GeneratedAll (laws : Laws) (report : Reporting) (plan : Plan) (number : ℕ) (status : Status) (devices : RunDevices) : Type 0 where
  pub answer : RunAnswer
  pub is : AnswersGenerated laws report plan number answer
  pub met : Meets answer status devices.output devices.notes

-- A write failed in a run over packets that are made. All bytes that were written are of the answer over these packets.
pub record GeneratedShort (laws : Laws) (report : Reporting) (plan : Plan) (number : ℕ) (devices : RunDevices) : Type 0 where
  pub answer : RunAnswer
  pub is : AnswersGenerated laws report plan number answer
  pub short : MetShort answer (failed_notes (by_summary report) (generated_job laws plan number) Ended is.streams) devices.output devices.notes

-- Memory ran out in a run over packets that are made: the output took a prefix of the summary.
pub record GeneratedSome (laws : Laws) (plan : Plan) (number : ℕ) (output : Device SinkTold) : Type 0 where
  pub streams : List (StreamPrefix Plain)
  pub solution : IsSolution (generated_job laws plan number) streams
  pub front : TookFront output (summary_of plan streams)

-- A run over a number of packets that are made ended with this status.
abbrev pub RanGenerated : Laws → Reporting → Plan → ℕ → Status → RunDevices → Type 0
RanGenerated laws report plan number WriteFault devices = GeneratedShort laws report plan number devices
RanGenerated laws report plan number OutOfMemory devices = GeneratedSome laws plan number devices.output × TookNotes devices.notes memory_note
RanGenerated laws report plan number status devices = GeneratedAll laws report plan number status devices
