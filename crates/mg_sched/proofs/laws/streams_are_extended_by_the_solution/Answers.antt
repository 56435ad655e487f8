use Rattle.mg_sched.proofs.Alike.{laid_extended}
use Rattle.mg_sched.proofs.laws.streams_are_extended_by_the_solution.Goals as goal

pub returns : goal.returns
returns c = λ laws. laid_extended
