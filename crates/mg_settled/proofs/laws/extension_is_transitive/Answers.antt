use Rattle.mg_settled.proofs.Extending.{extended_further, all_further}
use Rattle.mg_settled.proofs.laws.extension_is_transitive.Goals as goal

pub returns-clause-one : goal.returns-clause-one
returns-clause-one c = λ s t u e f. extended_further s t u e f

pub returns-clause-list : goal.returns-clause-list
returns-clause-list c = λ ss ts us e f. all_further ss ts us e f
