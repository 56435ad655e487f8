use Rattle.mg_sched.proofs.OneBeginning.{begun_alike}
use Rattle.mg_sched.proofs.run_laws.runs_of_a_job_begin_at_one_place.Goals as goal

pub returns : goal.returns
returns c = λ laws. begun_alike
