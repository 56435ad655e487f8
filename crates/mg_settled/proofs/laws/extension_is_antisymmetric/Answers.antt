use Rattle.mg_settled.proofs.Extending.{extended_both_ways, all_both_ways}
use Rattle.mg_settled.proofs.laws.extension_is_antisymmetric.Goals as goal

pub returns-clause-one : goal.returns-clause-one
returns-clause-one c = λ s t e f. extended_both_ways s t e f

pub returns-clause-list : goal.returns-clause-list
returns-clause-list c = λ ss ts e f. all_both_ways ss ts e f
