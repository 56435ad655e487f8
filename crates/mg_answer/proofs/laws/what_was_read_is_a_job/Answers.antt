use Rattle.mg_answer.proofs.Gathering.{read-job}
use Rattle.mg_answer.proofs.laws.what_was_read_is_a_job.Goals as goal

pub returns : goal.returns
returns c = λ laws plan input read valid came. read-job laws plan input read valid came
