use Rattle.mg_node.proofs.RestingEnds.{ended_count, ended_fault, ended_outputs}
use Rattle.mg_node.proofs.laws.what_has_ended_has_the_solution.Goals as goal

pub returns-clause-count : goal.returns-clause-count
returns-clause-count c = λ laws. ended_count

pub returns-clause-fault : goal.returns-clause-fault
returns-clause-fault c = λ laws. ended_fault

pub returns-clause-streams : goal.returns-clause-streams
returns-clause-streams c = λ laws. ended_outputs
