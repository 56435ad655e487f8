-- What a run answers of a job whose input was frozen. A recorded run may say so of its job: the input didn't end well, and the
-- reason isn't given. So each stream stays as its lines left it, and no stream is reported as stalled.
use Rattle.std.specs.Prelude.{◌≡◌, ℕ, List, [], ◌++◌}
use Rattle.mg_edge.specs.Edge.{SinkTold}
use Rattle.mg_value.specs.Payload.{Plain}
use Rattle.mg_settled.specs.Prefix.{StreamPrefix}
use Rattle.mg_calc.specs.declared.node_fault.NodeFault.{NodeFault}
use Rattle.mg_calc.specs.Equations.{Job, IsSolution}
use Rattle.mg_calc.specs.Meaning.{faults}
use Rattle.mg_feed.specs.declared.feed_end.FeedEnd.TheVariants.{Ended}
use Rattle.mg_answer.specs.Report.{report_of, asked_report}
use Rattle.mg_answer.specs.Told.{ended_status}
use Rattle.mg_answer.specs.Notes.{bounds_of, notes_by}
use Rattle.mg_answer.specs.Answer.{Telling, RunAnswer, output_in, failed_notes}
use Rattle.mg_answer.specs.Devices.{Device}
use Rattle.mg_answer.specs.Wrote.{WroteBy}
use Rattle.mg_answer.specs.declared.status.Status.{Status}

-- the status over a frozen job: that a node failed, or that all went well
abbrev pub frozen_status : List NodeFault → Status
frozen_status faults = ended_status faults []

-- the notes over a frozen job: each node's fault, the notes of the status, and the report if it is asked for
abbrev pub frozen_notes : Status → Telling → Job → List (StreamPrefix Plain) → List ℕ
frozen_notes status telling job streams = notes_by status job.plan Ended (faults job streams) (bounds_of streams) [] ++ asked_report telling.report (report_of job streams)

-- the answer that the streams of a frozen job make
abbrev pub frozen_answer : Telling → Job → List (StreamPrefix Plain) → RunAnswer
frozen_answer telling job streams = record {
  output = output_in telling.form job.plan streams;
  notes = frozen_notes (frozen_status (faults job streams)) telling job streams;
  status = frozen_status (faults job streams);
}

-- The answer of a frozen job: the answer that the job's solution makes.
pub record IsFrozenAnswer (telling : Telling) (job : Job) (answer : RunAnswer) : Type 0 where
  pub streams : List (StreamPrefix Plain)
  pub solution : IsSolution job streams
  pub is : answer ≡ frozen_answer telling job streams

-- the answer of a frozen job was written, told in this form, and with a report or without
pub record WroteFrozen (telling : Telling) (job : Job) (status : Status) (output notes : Device SinkTold) : Type 0 where
  pub streams : List (StreamPrefix Plain)
  pub solution : IsSolution job streams
  pub by : WroteBy status (frozen_answer telling job streams) (failed_notes telling job Ended streams) output notes
