use Rattle.mg_sched.proofs.LeftToTake.{left_next, left_all}
use Rattle.mg_sched.proofs.laws.what_is_left_to_take.Goals as goal

pub returns-clause-next : goal.returns-clause-next
returns-clause-next c = λ laws. left_next

pub returns-clause-all : goal.returns-clause-all
returns-clause-all c = λ laws. left_all
