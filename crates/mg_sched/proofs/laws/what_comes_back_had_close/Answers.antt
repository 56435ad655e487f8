use Rattle.mg_sched.proofs.ClosedBack.{closed_back}
use Rattle.mg_sched.proofs.laws.what_comes_back_had_close.Goals as goal

pub returns : goal.returns
returns c = λ laws. closed_back
