use Rattle.mg_calc.proofs.Counting.{none_failed, none_stalled, counts_below_weight, counts_long}
use Rattle.mg_calc.proofs.laws.faults_and_stalls_are_told.Goals as goal

pub returns-clause-faults : goal.returns-clause-faults
returns-clause-faults c = λ job streams. none_failed job streams

pub returns-clause-stalled : goal.returns-clause-stalled
returns-clause-stalled c = λ streams. none_stalled streams

pub returns-clause-counts : goal.returns-clause-counts
returns-clause-counts c = λ job streams. counts_long job streams job.plan.nodes

pub returns-clause-weight : goal.returns-clause-weight
returns-clause-weight c = λ job streams. counts_below_weight job streams
