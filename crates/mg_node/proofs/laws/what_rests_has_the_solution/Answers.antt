use Rattle.mg_node.proofs.RestingCounts.{rests_count, rests_fault}
use Rattle.mg_node.proofs.laws.what_rests_has_the_solution.Goals as goal

pub returns-clause-count : goal.returns-clause-count
returns-clause-count c = λ laws. rests_count

pub returns-clause-fault : goal.returns-clause-fault
returns-clause-fault c = λ laws. rests_fault
