use Rattle.mg_settled.proofs.Extending.{extended_by_itself, all_by_themselves}
use Rattle.mg_settled.proofs.laws.extension_is_reflexive.Goals as goal

pub returns-clause-one : goal.returns-clause-one
returns-clause-one c = λ s. extended_by_itself s

pub returns-clause-list : goal.returns-clause-list
returns-clause-list c = λ ss. all_by_themselves ss
