use Rattle.mg_sched.proofs.WeightOf.{claims_within}
use Rattle.mg_sched.proofs.laws.claims_are_within_the_weight.Goals as goal

pub returns : goal.returns
returns c = λ laws. claims_within
