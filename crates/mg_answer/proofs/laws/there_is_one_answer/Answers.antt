use Rattle.mg_answer.proofs.OneAnswer.{answer-ended, answer-cut, one-of}
use Rattle.mg_answer.proofs.GeneratedFits.{generated-fit}
use Rattle.mg_answer.proofs.Generating.{answer-generated}
use Rattle.mg_answer.proofs.laws.there_is_one_answer.Goals as goal

pub returns-clause-ended : goal.returns-clause-ended
returns-clause-ended c = λ laws report plan bytes valid. answer-ended laws report plan bytes valid

pub returns-clause-cut : goal.returns-clause-cut
returns-clause-cut c = λ laws report plan bytes valid. answer-cut laws report plan bytes valid

pub returns-clause-generated : goal.returns-clause-generated
returns-clause-generated c = λ laws report plan number valid few. answer-generated laws report plan number (record { plan = valid; inputs = generated-fit plan number valid few })

pub returns-clause-one : goal.returns-clause-one
returns-clause-one c = λ telling job end answer other a b. one-of telling job end answer other a b
