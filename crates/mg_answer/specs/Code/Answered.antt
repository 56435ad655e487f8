-- What was written of the answer of a job if memory ran out.
use Rattle.std.specs.Prelude.{◌⊎◌, List}
use Rattle.mg_edge.specs.Edge.{SinkTold}
use Rattle.mg_value.specs.Payload.{Plain}
use Rattle.mg_settled.specs.Prefix.{StreamPrefix}
use Rattle.mg_calc.specs.Equations.{Job, IsSolution}
use Rattle.mg_answer.specs.Text.{output_text_of}
use Rattle.mg_answer.specs.Devices.{Device, Untouched, TookFront}

-- the output took a prefix of the text of a job's solution
pub record WroteFront (job : Job) (output : Device SinkTold) : Type 0 where
  pub streams : List (StreamPrefix Plain)
  pub solution : IsSolution job streams
  pub front : TookFront output (output_text_of job.plan streams)

-- memory ran out before anything was written, or once a prefix of the text was written
abbrev pub WroteSome : Job → Device SinkTold → Type 0
WroteSome job output = Untouched output ⊎ WroteFront job output
