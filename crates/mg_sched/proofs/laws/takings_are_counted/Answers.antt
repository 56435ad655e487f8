use Rattle.mg_sched.proofs.OutputsTaken.{one_more_taken, nothing_changes, taking_leaves_nodes, few_taken, outputs_by_default}
use Rattle.mg_sched.proofs.laws.takings_are_counted.Goals as goal

pub returns-clause-takes : goal.returns-clause-takes
returns-clause-takes c = one_more_taken

pub returns-clause-nothing : goal.returns-clause-nothing
returns-clause-nothing c = nothing_changes

pub returns-clause-left : goal.returns-clause-left
returns-clause-left c = taking_leaves_nodes

pub returns-clause-few : goal.returns-clause-few
returns-clause-few c = λ laws. few_taken

pub returns-clause-outputs : goal.returns-clause-outputs
returns-clause-outputs c = λ laws. outputs_by_default
