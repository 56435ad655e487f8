use Rattle.mg_sched.proofs.Alike.{alike_reports, alike_streams, alike_outputs}
use Rattle.mg_sched.proofs.laws.nets_at_rest_for_one_job_are_alike.Goals as goal

pub returns-clause-report : goal.returns-clause-report
returns-clause-report c = λ laws. alike_reports

pub returns-clause-streams : goal.returns-clause-streams
returns-clause-streams c = λ laws. alike_streams

pub returns-clause-outputs : goal.returns-clause-outputs
returns-clause-outputs c = λ laws. alike_outputs
