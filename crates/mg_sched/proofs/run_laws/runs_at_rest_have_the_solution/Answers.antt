use Rattle.mg_sched.proofs.RunsOn.{run_sets, run_faults, run_streams}
use Rattle.mg_sched.proofs.run_laws.runs_at_rest_have_the_solution.Goals as goal

pub returns-clause-sets : goal.returns-clause-sets
returns-clause-sets c = λ laws. run_sets

pub returns-clause-faults : goal.returns-clause-faults
returns-clause-faults c = λ laws. run_faults

pub returns-clause-streams : goal.returns-clause-streams
returns-clause-streams c = λ laws. run_streams
