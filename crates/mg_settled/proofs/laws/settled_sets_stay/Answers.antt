use Rattle.mg_settled.proofs.PolicySets.{sets-stay, sets-further, sets-end}
use Rattle.mg_settled.proofs.laws.settled_sets_stay.Goals as goal

pub returns-clause-stay : goal.returns-clause-stay
returns-clause-stay c = λ policy ss ts e. sets-stay policy ss ts e

pub returns-clause-further : goal.returns-clause-further
returns-clause-further c = λ policy ss ts h e. sets-further policy ss ts h e

pub returns-clause-end : goal.returns-clause-end
returns-clause-end c = λ policy ss ts h e end. sets-end policy ss ts h e end
