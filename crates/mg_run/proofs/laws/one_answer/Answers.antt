use Rattle.mg_run.proofs.OneAnswer.{one-of-job, one-end, ends-as-run}
use Rattle.mg_run.proofs.laws.one_answer.Goals as goal

pub returns-clause-one : goal.returns-clause-one
returns-clause-one c = one-of-job

pub returns-clause-ends : goal.returns-clause-ends
returns-clause-ends c = one-end

pub returns-clause-as_run : goal.returns-clause-as_run
returns-clause-as_run c = ends-as-run
