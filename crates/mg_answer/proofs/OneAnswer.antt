-- There is one answer.
use Rattle.std.proofs.Common.{◌≡◌, ◌++◌, ℕ, List, [], None, refl, sym, ap, ◌∙◌}
use Rattle.mg_calc.specs.declared.plan.Plan.{Plan}
use Rattle.mg_value.specs.Payload.{Plain}
use Rattle.mg_settled.specs.Prefix.{StreamPrefix}
use Rattle.mg_calc.specs.Plan.{IsValid}
use Rattle.mg_calc.specs.Equations.{Job, IsJob, IsSolution}
use Rattle.mg_calc.specs.Meaning.{faults, stalled}
use Rattle.mg_feed.specs.Accepted.{first_refused_after}
use Rattle.mg_feed.specs.declared.feed_end.FeedEnd.{FeedEnd}
use Rattle.mg_feed.specs.declared.feed_end.FeedEnd.TheVariants.{Ended}
use Rattle.mg_answer.specs.Told.{status_of}
use Rattle.mg_answer.specs.Notes.{notes_by, bounds_of}
use Rattle.mg_answer.specs.Report.{report_of, asked_report}
use Rattle.mg_answer.specs.declared.status.Status.TheVariants.{Good}
use Rattle.mg_calc.proofs.FirstRound.{a_solution}
use Rattle.mg_calc.proofs.Solutions.{one_solution}
use Rattle.mg_calc.proofs.Jobs.{job_known}
use Rattle.mg_calc.specs.Rules.{Laws}
use Rattle.mg_feed.specs.Graph.{inputs_of}
use Rattle.mg_feed.specs.Lines.{all_lines, whole_lines}
use Rattle.mg_answer.specs.Answer.{Telling, by_lines, output_in, Read, RunAnswer, end_by, ended_input, cut_input, job_of, answer_of, IsAnswerOf, IsAnswer, AnswersEnded, AnswersCut}
use Rattle.mg_answer.proofs.Fitting.{accepted-fit}
use Rattle.mg_answer.specs.declared.run.Reporting.{Reporting}

-- a job has an answer
pub answer-of : (telling : Telling) (job : Job) (end : FeedEnd) → IsJob job → (answer : RunAnswer) × IsAnswerOf telling job end answer
answer-of telling job end is =
    let it = a_solution job (job_known job is) is.plan is.inputs.streams in
    (answer_of telling job end it.0, record { streams = it.0; solution = it.1; is = refl })

pub answer-ended : (laws : Laws) (report : Reporting) (plan : Plan) (bytes : List ℕ) → IsValid plan → (answer : RunAnswer) × AnswersEnded laws report plan bytes answer
answer-ended laws report plan bytes valid =
    let read : Read = ended_input (inputs_of plan) bytes in
    answer-of (by_lines report) (job_of laws plan read) read.end (record { plan = valid; inputs = accepted-fit plan (all_lines bytes) read.end valid })

pub answer-cut : (laws : Laws) (report : Reporting) (plan : Plan) (bytes : List ℕ) → IsValid plan → (answer : RunAnswer) × AnswersCut laws report plan bytes answer
answer-cut laws report plan bytes valid =
    let read : Read = cut_input (inputs_of plan) bytes in
    answer-of (by_lines report) (job_of laws plan read) read.end (record { plan = valid; inputs = accepted-fit plan (whole_lines bytes) read.end valid })

-- and there is no second answer
pub one-of : (telling : Telling) (job : Job) (end : FeedEnd) (answer other : RunAnswer) → IsAnswerOf telling job end answer → IsAnswerOf telling job end other → answer ≡ other
one-of telling job end answer other a b =
    a.is ∙ ap (answer_of telling job end) (one_solution job a.streams b.streams a.solution b.solution) ∙ sym b.is

pub one-answer : (laws : Laws) (report : Reporting) (plan : Plan) (read : Read) (answer other : RunAnswer) → IsAnswer laws report plan read answer → IsAnswer laws report plan read other → answer ≡ other
one-answer laws report plan read answer other a b = one-of (by_lines report) (job_of laws plan read) read.end answer other a b

-- the answer of a run in which nothing is told
good-by : (telling : Telling) (job : Job) (end : FeedEnd) (streams : List (StreamPrefix Plain)) (answer : RunAnswer) → IsSolution job streams
    → end ≡ Ended → faults job streams ≡ [] → stalled streams ≡ [] → IsAnswerOf telling job end answer
    → answer ≡ record { output = output_in telling.form job.plan streams; notes = asked_report telling.report (report_of job streams); status = Good }
good-by telling job end streams answer solution ended no_fault no_stall is =
    let of_streams : answer ≡ answer_of telling job end streams = is.is ∙ ap (answer_of telling job end) (one_solution job is.streams streams is.solution solution) in
    let good : answer_of telling job end streams ≡ record { output = output_in telling.form job.plan streams; notes = asked_report telling.report (report_of job streams); status = Good } = λ i. record {
      output = output_in telling.form job.plan streams;
      notes = notes_by (status_of (ended i) (no_fault i) (no_stall i)) job.plan (ended i) (no_fault i) (bounds_of streams) (no_stall i) ++ asked_report telling.report (report_of job streams);
      status = status_of (ended i) (no_fault i) (no_stall i);
    } in
    of_streams ∙ good

pub good-told : (telling : Telling) (job : Job) (streams : List (StreamPrefix Plain)) (answer : RunAnswer) → IsSolution job streams
    → faults job streams ≡ [] → stalled streams ≡ [] → IsAnswerOf telling job Ended answer
    → answer ≡ record { output = output_in telling.form job.plan streams; notes = asked_report telling.report (report_of job streams); status = Good }
good-told telling job streams answer solution no_fault no_stall is = good-by telling job Ended streams answer solution refl no_fault no_stall is

pub good-answer : (laws : Laws) (report : Reporting) (plan : Plan) (bytes : List ℕ) (streams : List (StreamPrefix Plain)) (answer : RunAnswer)
    → IsSolution (job_of laws plan (ended_input (inputs_of plan) bytes)) streams → first_refused_after (inputs_of plan) [] (all_lines bytes) ≡ None
    → faults (job_of laws plan (ended_input (inputs_of plan) bytes)) streams ≡ [] → stalled streams ≡ [] → AnswersEnded laws report plan bytes answer
    → answer ≡ record { output = output_in (by_lines report).form plan streams; notes = asked_report report (report_of (job_of laws plan (ended_input (inputs_of plan) bytes)) streams); status = Good }
good-answer laws report plan bytes streams answer solution none no_fault no_stall is =
    let read : Read = ended_input (inputs_of plan) bytes in
    good-by (by_lines report) (job_of laws plan read) read.end streams answer solution (ap end_by none) no_fault no_stall is
