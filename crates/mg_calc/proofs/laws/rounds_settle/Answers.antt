use Rattle.mg_calc.proofs.FirstRound.{a_round_meets, a_solution}
use Rattle.mg_calc.proofs.Jobs.{job_known}
use Rattle.mg_calc.proofs.laws.rounds_settle.Goals as goal

pub returns-clause-round : goal.returns-clause-round
returns-clause-round c = λ job is. a_round_meets job (job_known job is) is.plan is.inputs.streams

pub returns-clause-solution : goal.returns-clause-solution
returns-clause-solution c = λ job is. a_solution job (job_known job is) is.plan is.inputs.streams
