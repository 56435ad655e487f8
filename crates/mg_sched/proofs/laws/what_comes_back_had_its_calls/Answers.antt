use Rattle.mg_sched.proofs.HadBack.{used_back, count_back, unused_is_back, unused_lies}
use Rattle.mg_sched.proofs.laws.what_comes_back_had_its_calls.Goals as goal

pub returns-clause-used : goal.returns-clause-used
returns-clause-used c = λ laws. used_back

pub returns-clause-count : goal.returns-clause-count
returns-clause-count c = λ laws. count_back

pub returns-clause-unused : goal.returns-clause-unused
returns-clause-unused c = λ laws. unused_is_back

pub returns-clause-unused_there : goal.returns-clause-unused_there
returns-clause-unused_there c = λ laws. unused_lies
