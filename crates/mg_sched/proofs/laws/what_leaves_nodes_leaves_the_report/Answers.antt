use Rattle.mg_sched.proofs.HadBack.{left_itself, left_further, left_report}
use Rattle.mg_sched.proofs.laws.what_leaves_nodes_leaves_the_report.Goals as goal

pub returns-clause-itself : goal.returns-clause-itself
returns-clause-itself c = left_itself

pub returns-clause-further : goal.returns-clause-further
returns-clause-further c = left_further

pub returns-clause-report : goal.returns-clause-report
returns-clause-report c = left_report
