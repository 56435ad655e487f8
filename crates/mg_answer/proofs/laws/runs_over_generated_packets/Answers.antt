use Rattle.mg_answer.proofs.Generating.{generated-answered, generated-risen}
use Rattle.mg_answer.proofs.laws.runs_over_generated_packets.Goals as goal

pub returns-clause-answered : goal.returns-clause-answered
returns-clause-answered c = λ laws report plan number status devices ran output notes some. generated-answered laws report plan number status devices ran output notes some

pub returns-clause-write_rose : goal.returns-clause-write_rose
returns-clause-write_rose c = λ laws report plan number status devices ran risen. generated-risen laws report plan number status devices ran risen
