use Rattle.mg_sched.proofs.OutputsTaken.{all_come_at_rest, taking_keeps, all_were_taken}
use Rattle.mg_sched.proofs.laws.all_outputs_are_taken.Goals as goal

pub returns-clause-rest : goal.returns-clause-rest
returns-clause-rest c = λ laws. all_come_at_rest

pub returns-clause-kept : goal.returns-clause-kept
returns-clause-kept c = λ laws. taking_keeps

pub returns-clause-all : goal.returns-clause-all
returns-clause-all c = λ laws. all_were_taken
