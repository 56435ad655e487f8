-- What a run tells in its notes and in its report, and the answer that this makes.
use Rattle.std.specs.Prelude.{◌≡◌, ℕ, List, [], ◌++◌, map}
use Rattle.mg_value.specs.Payload.{Plain}
use Rattle.mg_settled.specs.Prefix.{StreamPrefix}
use Rattle.mg_calc.specs.declared.plan.Plan.{Plan}
use Rattle.mg_calc.specs.Equations.{Job}
use Rattle.mg_calc.specs.Meaning.{faults as the_faults, counts}
use Rattle.mg_feed.specs.declared.feed_end.FeedEnd.{FeedEnd}
use Rattle.mg_answer.specs.Answer.{RunAnswer}
use Rattle.mg_answer.specs.Told.{status_of}
use Rattle.mg_answer.specs.Notes.{notes_by}
use Rattle.mg_settled.specs.Ends.{end_of}
use Rattle.mg_answer.specs.Report.{report_by, asked_report, end_bounds, open_numbers}
use Rattle.mg_answer.specs.declared.outcomes.Outcomes.{Outcomes}
use Rattle.mg_answer.specs.declared.status.Status.{Status}
use Rattle.mg_answer.specs.declared.status.Status.TheVariants.{WriteFault}
use Rattle.mg_answer.specs.declared.run.Reporting.{Reporting}

-- the outcomes tell these streams of a job. They have its nodes' faults, how many sets each node was shown, and how far each stream
-- has come. There are no lines of arrivals, since no node is free
pub record TellsOf (job : Job) (streams : List (StreamPrefix Plain)) (outcomes : Outcomes) : Type 0 where
  pub faults : outcomes.faults ≡ the_faults job streams
  pub sets : outcomes.sets ≡ counts job streams
  pub ends : outcomes.ends.items ≡ map end_of streams
  pub arrivals : outcomes.arrivals.items ≡ []

-- The notes of a run that ends with a status and in which these streams stalled. The lines of the arrivals at free nodes stand
-- after the other notes. The report comes last, if it is asked for.
abbrev pub told_notes : Status → Reporting → Plan → FeedEnd → Outcomes → List ℕ → List ℕ
told_notes status report plan end outcomes stalled =
    notes_by status plan end outcomes.faults (end_bounds outcomes.ends.items) stalled
    ++ outcomes.arrivals.items
    ++ asked_report report (report_by plan outcomes.sets outcomes.ends.items)

-- the answer of a run by its outcomes; its output is this text
abbrev pub told_answer : Reporting → Plan → FeedEnd → Outcomes → List ℕ → RunAnswer
told_answer report plan end outcomes text = record {
  output = text;
  notes = told_notes (status_of end outcomes.faults (open_numbers outcomes.ends.items)) report plan end outcomes (open_numbers outcomes.ends.items);
  status = status_of end outcomes.faults (open_numbers outcomes.ends.items);
}

-- the notes of a run, by its outcomes, in which a write of the output failed
abbrev pub told_failed : Reporting → Plan → FeedEnd → Outcomes → List ℕ
told_failed report plan end outcomes = told_notes WriteFault report plan end outcomes (open_numbers outcomes.ends.items)
