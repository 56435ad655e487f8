use Rattle.mg_trace.proofs.Giving.{one_job}
use Rattle.mg_trace.proofs.laws.a_job_has_its_own_lines.Goals as goal

pub returns : goal.returns
returns c = λ plan one other told_one told_other same. one_job plan one other told_one told_other same
