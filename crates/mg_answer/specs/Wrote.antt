-- What was written of the answer of a job.
use Rattle.std.specs.Prelude.{◌≡◌, ◌⊎◌, ℕ, List}
use Rattle.mg_edge.specs.Edge.{SinkTold, HasRisen}
use Rattle.mg_value.specs.Payload.{Plain}
use Rattle.mg_settled.specs.Prefix.{StreamPrefix}
use Rattle.mg_calc.specs.Equations.{Job, IsSolution}
use Rattle.mg_feed.specs.declared.feed_end.FeedEnd.{FeedEnd}
use Rattle.mg_answer.specs.Answer.{Telling, RunAnswer, answer_of, failed_notes}
use Rattle.mg_answer.specs.Devices.{Device, TookFront, TookText, TookPart, TookNotes}
use Rattle.mg_answer.specs.declared.status.Status.{Status}
use Rattle.mg_answer.specs.declared.status.Status.TheVariants.{WriteFault}

-- The output and the notes took an answer's texts, and the status is the answer's.
pub record Meets (answer : RunAnswer) (status : Status) (output notes : Device SinkTold) : Type 0 where
  pub text : TookText output answer.output
  pub noted : TookText notes answer.notes
  pub told : status ≡ answer.status

-- A write failed. The output took a prefix of the answer's text, and all of the text if no write to the output failed. If a write
-- to the output failed, the notes took the text that says so (`failed`), or a prefix of that. If none did, the notes took a prefix
-- of the answer's notes.
pub record MetShort (answer : RunAnswer) (failed : List ℕ) (output notes : Device SinkTold) : Type 0 where
  pub rose : HasRisen output.before.faults output.now.faults ⊎ HasRisen notes.before.faults notes.now.faults
  pub front : TookFront output answer.output
  pub whole : HasRisen output.before.faults output.now.faults ⊎ TookText output answer.output
  pub noted : (HasRisen output.before.faults output.now.faults × TookNotes notes failed) ⊎ (TookText output answer.output × TookPart notes answer.notes)

-- what was written of an answer, by the status with which it was written
abbrev pub WroteBy : Status → RunAnswer → List ℕ → Device SinkTold → Device SinkTold → Type 0
WroteBy WriteFault answer failed output notes = MetShort answer failed output notes
WroteBy status answer failed output notes = Meets answer status output notes

-- the answer that the solution of a job makes was written, told in this form, and with a report or without
pub record Wrote (telling : Telling) (job : Job) (end : FeedEnd) (status : Status) (output notes : Device SinkTold) : Type 0 where
  pub streams : List (StreamPrefix Plain)
  pub solution : IsSolution job streams
  pub by : WroteBy status (answer_of telling job end streams) (failed_notes telling job end streams) output notes
