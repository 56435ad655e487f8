use Rattle.mg_run.proofs.AnyLimit.{words_same, limit_ends}
use Rattle.mg_run.proofs.laws.limits_and_workers_change_no_answer.Goals as goal

pub returns-clause-words : goal.returns-clause-words
returns-clause-words c = words_same

pub returns-clause-recorded : goal.returns-clause-recorded
returns-clause-recorded c = limit_ends
