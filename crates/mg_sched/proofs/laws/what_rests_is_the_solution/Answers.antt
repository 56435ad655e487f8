use Rattle.mg_sched.proofs.RestingNets.{rests_with_streams, rests_with_inputs, rests_with_counts, rests_with_faults}
use Rattle.mg_sched.proofs.laws.what_rests_is_the_solution.Goals as goal

pub returns-clause-streams : goal.returns-clause-streams
returns-clause-streams c = λ laws. rests_with_streams

pub returns-clause-counts : goal.returns-clause-counts
returns-clause-counts c = λ laws. rests_with_counts

pub returns-clause-faults : goal.returns-clause-faults
returns-clause-faults c = λ laws. rests_with_faults

pub returns-clause-inputs : goal.returns-clause-inputs
returns-clause-inputs c = λ laws. rests_with_inputs
