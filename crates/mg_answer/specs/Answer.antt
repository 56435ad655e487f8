-- What a run of a graph answers: its output, its notes and its status. They are a function of the plan, of the inputs that the
-- graph gets, and of the solution. There is one solution (mg_calc). So the input's bytes, or the number of packets that are made,
-- decide the answer. They do so by the laws of the program: what its user-supplied calculators compute.
use Rattle.std.specs.Prelude.{◌≡◌, ℕ, List, [], ◌++◌, Bool, true, false, Option, None, Some, length}
use Rattle.mg_value.specs.Payload.{Plain}
use Rattle.mg_settled.specs.Prefix.{StreamPrefix}
use Rattle.mg_calc.specs.declared.inputs.Inputs.{Inputs}
use Rattle.mg_calc.specs.declared.plan.Plan.{Plan}
use Rattle.mg_calc.specs.Equations.{Job, IsSolution}
use Rattle.mg_calc.specs.Meaning.{faults, stalled}
use Rattle.mg_calc.specs.Rules.{Laws}
use Rattle.mg_feed.specs.Graph.{GraphInputs, inputs_of}
use Rattle.mg_feed.specs.Lines.{all_lines, whole_lines}
use Rattle.mg_feed.specs.Accepted.{Refused as RefusedLine, given_by, accepted, first_refused_after}
use Rattle.mg_feed.specs.Given.{ended_streams}
use Rattle.mg_feed.specs.Generated.{generated, generated_sides}
use Rattle.mg_feed.specs.declared.feed_end.FeedEnd.{FeedEnd}
use Rattle.mg_feed.specs.declared.feed_end.FeedEnd.TheVariants.{Ended, Failed, Refused, OutOfMemory}
use Rattle.mg_answer.specs.Text.{output_text_of}
use Rattle.mg_answer.specs.Summary.{summary_of}
use Rattle.mg_answer.specs.Report.{report_of, asked_report}
use Rattle.mg_answer.specs.Told.{status_of}
use Rattle.mg_answer.specs.Notes.{notes_of}
use Rattle.mg_answer.specs.declared.status.Status.{Status}
use Rattle.mg_answer.specs.declared.status.Status.TheVariants.{WriteFault}
use Rattle.mg_answer.specs.declared.run.Reporting.{Reporting}

-- The input --

-- what an input gave: the lines that count, and how it ended
pub record Read : Type 0 where
  pub lines : List (List ℕ)
  pub end : FeedEnd

abbrev pub end_by : Option RefusedLine → FeedEnd
end_by None = Ended
end_by (Some refused) = Refused refused.number refused.fault

-- What an input gave that ended after these bytes: the lines before the first that isn't good count.
abbrev pub ended_input : GraphInputs → List ℕ → Read
ended_input graph bytes = record { lines = accepted graph (all_lines bytes); end = end_by (first_refused_after graph [] (all_lines bytes)) }

-- What an input gave if a read failed after these bytes: the lines that were whole before the read count. All of these lines are
-- good, since no read follows a line that isn't good.
abbrev pub cut_input : GraphInputs → List ℕ → Read
cut_input graph bytes = record { lines = accepted graph (whole_lines bytes); end = Failed (length (whole_lines bytes)) }

-- whether an input ended well
abbrev pub is_ended : FeedEnd → Bool
is_ended Ended = true
is_ended (Failed lines) = false
is_ended (Refused line cause) = false
is_ended OutOfMemory = false

-- The job --

-- What lines give a graph. If the input ended well, every stream closes. Otherwise each stream stays as its lines left it.
abbrev pub inputs_by : GraphInputs → Read → Inputs
inputs_by graph read = record {
  streams = ended_streams (is_ended read.end) (given_by graph read.lines).streams;
  sides = (given_by graph read.lines).sides;
  ended = is_ended read.end;
}

-- the job of a plan over what an input gave, by what the program's own calculators compute
abbrev pub job_of : Laws → Plan → Read → Job
job_of laws plan read = record { plan = plan; inputs = inputs_by (inputs_of plan) read; laws = laws }

-- What is made for a graph that is run without an input: `number` packets. Every stream closes after its packets.
abbrev pub generated_inputs : GraphInputs → ℕ → Inputs
generated_inputs graph number = record {
  streams = generated graph.kinds number;
  sides = generated_sides (length graph.sides);
  ended = true;
}

-- the job of a plan over `number` packets that are made, by what the program's own calculators compute
abbrev pub generated_job : Laws → Plan → ℕ → Job
generated_job laws plan number = record { plan = plan; inputs = generated_inputs (inputs_of plan) number; laws = laws }

-- The answer --

-- How the output tells a solution: by the lines of the graph's outputs, by a summary of these, or by another text in their place.
-- Such a text may be a trace of the events that led to the solution. A `Telling` also says whether a report stands after the notes.
pub data OutputForm : Type 0 where
  packet_lines : OutputForm
  totals : OutputForm
  in_place : List ℕ → OutputForm

pub record Telling : Type 0 where
  pub form : OutputForm
  pub report : Reporting

abbrev pub by_lines : Reporting → Telling
by_lines report = record { form = packet_lines; report = report }

abbrev pub by_summary : Reporting → Telling
by_summary report = record { form = totals; report = report }

abbrev pub by_text : List ℕ → Reporting → Telling
by_text text report = record { form = in_place text; report = report }

-- the output text by which the streams of a plan are told in a form
abbrev pub output_in : OutputForm → Plan → List (StreamPrefix Plain) → List ℕ
output_in packet_lines plan streams = output_text_of plan streams
output_in totals plan streams = summary_of plan streams
output_in (in_place text) plan streams = text

-- what a run writes, and the status with which it ends
pub record RunAnswer : Type 0 where
  pub output : List ℕ
  pub notes : List ℕ
  pub status : Status

-- the notes of a run that ends with a status, by the streams of its job and by how its input ended. The report stands last
abbrev pub notes_at : Status → Telling → Job → FeedEnd → List (StreamPrefix Plain) → List ℕ
notes_at status telling job end streams = notes_of status job.plan end (faults job streams) streams ++ asked_report telling.report (report_of job streams)

-- the notes of a run in which a write of the output failed
abbrev pub failed_notes : Telling → Job → FeedEnd → List (StreamPrefix Plain) → List ℕ
failed_notes telling job end streams = notes_at WriteFault telling job end streams

-- the answer that the streams of a job make, by how its input ended
abbrev pub answer_of : Telling → Job → FeedEnd → List (StreamPrefix Plain) → RunAnswer
answer_of telling job end streams = record {
  output = output_in telling.form job.plan streams;
  notes = notes_at (status_of end (faults job streams) (stalled streams)) telling job end streams;
  status = status_of end (faults job streams) (stalled streams);
}

-- The answer of a job, by how its input ended: the answer that the job's solution makes.
pub record IsAnswerOf (telling : Telling) (job : Job) (end : FeedEnd) (answer : RunAnswer) : Type 0 where
  pub streams : List (StreamPrefix Plain)
  pub solution : IsSolution job streams
  pub is : answer ≡ answer_of telling job end streams

-- the answer of a graph over what an input gave, with a report or without
abbrev pub IsAnswer : Laws → Reporting → Plan → Read → RunAnswer → Type 0
IsAnswer laws report plan read answer = IsAnswerOf (by_lines report) (job_of laws plan read) read.end answer

-- the answer of a graph over an input that ended after these bytes
abbrev pub AnswersEnded : Laws → Reporting → Plan → List ℕ → RunAnswer → Type 0
AnswersEnded laws report plan bytes answer = IsAnswer laws report plan (ended_input (inputs_of plan) bytes) answer

-- the answer of a graph over an input, if a read failed after these bytes
abbrev pub AnswersCut : Laws → Reporting → Plan → List ℕ → RunAnswer → Type 0
AnswersCut laws report plan bytes answer = IsAnswer laws report plan (cut_input (inputs_of plan) bytes) answer

-- the answer of a graph over a number of packets that are made: its output is a summary
abbrev pub AnswersGenerated : Laws → Reporting → Plan → ℕ → RunAnswer → Type 0
AnswersGenerated laws report plan number answer = IsAnswerOf (by_summary report) (generated_job laws plan number) Ended answer
