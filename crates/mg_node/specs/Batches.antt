-- A run whose input comes in batches: at first its job has the lines so far, and later more lines.
use Rattle.std.specs.Prelude.{◌≡◌}
use Rattle.mg_settled.specs.Extension.{AreExtendedBy}
use Rattle.mg_calc.specs.Rules.{Laws}
use Rattle.mg_calc.specs.Equations.{IsJob}
use Rattle.mg_node.specs.Job.{LoggedJob}

-- a job grows to a later one with more lines: plan, side packets and calculators are the same, and each graph input is extended
pub record Grows {laws : Laws} (first later : LoggedJob laws) : Type 0 where
  pub plan : later.job.plan ≡ first.job.plan
  pub sides : first.job.inputs.sides ≡ later.job.inputs.sides
  pub boxes : later.boxes ≡ first.boxes
  pub is_job : IsJob later.job
  pub extended : AreExtendedBy first.job.inputs.streams later.job.inputs.streams
