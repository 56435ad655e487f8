use Rattle.mg_answer.proofs.RunningOn.{written-ran}
use Rattle.mg_answer.proofs.Generating.{generated-ran}
use Rattle.mg_answer.proofs.laws.what_is_written_ran.Goals as goal

pub returns-clause-read : goal.returns-clause-read
returns-clause-read c = λ laws report plan read devices status came wrote. written-ran laws report plan read devices status came wrote

pub returns-clause-generated : goal.returns-clause-generated
returns-clause-generated c = λ laws report plan number devices status wrote. generated-ran laws report plan number status devices wrote
