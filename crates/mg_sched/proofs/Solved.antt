-- A job has a solution.
use Rattle.std.proofs.Common.{List}
use Rattle.mg_value.specs.Payload.{Plain}
use Rattle.mg_settled.specs.Prefix.{StreamPrefix}
use Rattle.mg_calc.specs.Rules.{Laws}
use Rattle.mg_calc.specs.Equations.{IsJob}
use Rattle.mg_calc.proofs.FirstRound.{a_solution}
use Rattle.mg_calc.proofs.Jobs.{job_known}
use Rattle.mg_node.specs.Job.{LoggedJob, Solves}

pub solved : {laws : Laws} (job : LoggedJob laws) → IsJob job.job → (streams : List (StreamPrefix Plain)) × Solves job streams
solved {laws} job is = (let found = a_solution job.job (job_known job.job is) is.plan is.inputs.streams in (found.0, record { is_job = is; solution = found.1 }))
