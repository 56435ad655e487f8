use Rattle.mg_text.proofs.Faults.{one_too_deep, not_both, deep_text}
use Rattle.mg_text.proofs.laws.one_too_deep.Goals as goal

pub returns-clause-one : goal.returns-clause-one
returns-clause-one c = one_too_deep

pub returns-clause-no_syntax : goal.returns-clause-no_syntax
returns-clause-no_syntax c = λ file p q f g. not_both file q p g f

pub returns-clause-no_text : goal.returns-clause-no_text
returns-clause-no_text c = deep_text
