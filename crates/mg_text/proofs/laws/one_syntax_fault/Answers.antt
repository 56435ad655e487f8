use Rattle.mg_text.proofs.Faults.{one_syntax}
use Rattle.mg_text.proofs.laws.one_syntax_fault.Goals as goal

pub returns-clause-one : goal.returns-clause-one
returns-clause-one c = one_syntax

pub returns-clause-no_text : goal.returns-clause-no_text
returns-clause-no_text c = λ file p t f h. f.no_text t h
