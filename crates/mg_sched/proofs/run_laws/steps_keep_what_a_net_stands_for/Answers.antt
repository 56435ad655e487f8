use Rattle.mg_sched.proofs.Becoming.{becomes_runs, becomes_stands}
use Rattle.mg_sched.proofs.RunsOn.{run_becomes}
use Rattle.mg_sched.proofs.run_laws.steps_keep_what_a_net_stands_for.Goals as goal

pub returns-clause-running : goal.returns-clause-running
returns-clause-running c = λ laws before now becomes running. becomes_runs before now running becomes

pub returns-clause-stands : goal.returns-clause-stands
returns-clause-stands c = λ laws job before now becomes running stands. becomes_stands job before now running stands becomes

pub returns-clause-run : goal.returns-clause-run
returns-clause-run c = λ laws. run_becomes
