use Rattle.mg_answer.proofs.RunningOn.{on-read, on-ended, on-answered, on-read-risen, on-write-risen}
use Rattle.mg_answer.proofs.laws.runs_that_write_as_they_go.Goals as goal

pub returns-clause-read : goal.returns-clause-read
returns-clause-read c = λ laws report plan status devices ran some. on-read laws report plan status devices ran some

pub returns-clause-ended : goal.returns-clause-ended
returns-clause-ended c = λ laws report plan status devices ran one. on-ended laws report plan status devices ran one

pub returns-clause-answered : goal.returns-clause-answered
returns-clause-answered c = λ laws report plan status devices ran none some. on-answered laws report plan status devices ran none some

pub returns-clause-read_rose : goal.returns-clause-read_rose
returns-clause-read_rose c = λ laws report plan status devices ran risen. on-read-risen laws report plan status devices ran risen

pub returns-clause-write_rose : goal.returns-clause-write_rose
returns-clause-write_rose c = λ laws report plan status devices ran risen. on-write-risen laws report plan status devices ran risen
