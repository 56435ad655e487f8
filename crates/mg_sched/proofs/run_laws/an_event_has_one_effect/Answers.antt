use Rattle.mg_sched.proofs.OneRun.{effect_one, job_runs_one_way, rests_or_goes}
use Rattle.mg_sched.proofs.run_laws.an_event_has_one_effect.Goals as goal

pub returns-clause-effect : goal.returns-clause-effect
returns-clause-effect c = λ laws. effect_one

pub returns-clause-run : goal.returns-clause-run
returns-clause-run c = λ laws. job_runs_one_way

pub returns-clause-rests : goal.returns-clause-rests
returns-clause-rests c = λ laws. rests_or_goes
