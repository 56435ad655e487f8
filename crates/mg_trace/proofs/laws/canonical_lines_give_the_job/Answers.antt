use Rattle.mg_trace.proofs.Giving.{job_given}
use Rattle.mg_trace.proofs.laws.canonical_lines_give_the_job.Goals as goal

pub returns-clause-streams : goal.returns-clause-streams
returns-clause-streams c = λ plan inputs told. (job_given plan inputs told).streams

pub returns-clause-sides : goal.returns-clause-sides
returns-clause-sides c = λ plan inputs told. (job_given plan inputs told).sides
