use Rattle.mg_sched.proofs.RunsOn.{run_one, run_on}
use Rattle.mg_sched.proofs.run_laws.runs_go_on.Goals as goal

pub returns-clause-one : goal.returns-clause-one
returns-clause-one c = λ laws. run_one laws

pub returns-clause-further : goal.returns-clause-further
returns-clause-further c = λ laws. run_on laws
