use Rattle.mg_sched.proofs.FrontsBack.{front_back}
use Rattle.mg_sched.proofs.laws.what_comes_back_had_a_front.Goals as goal

pub returns : goal.returns
returns c = λ laws. front_back
