use Rattle.mg_sched.proofs.RestingReports.{rests_with_sets, rests_with_all_faults, rests_with_ends}
use Rattle.mg_sched.proofs.laws.what_rests_reports_the_solution.Goals as goal

pub returns-clause-sets : goal.returns-clause-sets
returns-clause-sets c = λ laws. rests_with_sets

pub returns-clause-faults : goal.returns-clause-faults
returns-clause-faults c = λ laws. rests_with_all_faults

pub returns-clause-streams : goal.returns-clause-streams
returns-clause-streams c = λ laws. rests_with_ends
