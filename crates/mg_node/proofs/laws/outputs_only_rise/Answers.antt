use Rattle.mg_node.proofs.FrontGrows.{commits_grow, commits_outputs}
use Rattle.mg_node.proofs.laws.outputs_only_rise.Goals as goal

pub returns-clause-grows : goal.returns-clause-grows
returns-clause-grows c = λ laws. commits_grow

pub returns-clause-same : goal.returns-clause-same
returns-clause-same c = commits_outputs
