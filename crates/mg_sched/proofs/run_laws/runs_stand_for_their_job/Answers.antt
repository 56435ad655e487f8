use Rattle.mg_sched.proofs.RunsOn.{run_runs, run_stands, run_moves}
use Rattle.mg_sched.proofs.run_laws.runs_stand_for_their_job.Goals as goal

pub returns-clause-running : goal.returns-clause-running
returns-clause-running c = λ laws. run_runs laws

pub returns-clause-stands : goal.returns-clause-stands
returns-clause-stands c = λ laws. run_stands

pub returns-clause-moves : goal.returns-clause-moves
returns-clause-moves c = λ laws. run_moves
