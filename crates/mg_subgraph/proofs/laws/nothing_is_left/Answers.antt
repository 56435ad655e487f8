use Rattle.mg_subgraph.proofs.Again.{again}
use Rattle.mg_subgraph.proofs.laws.nothing_is_left.Goals as goal

pub returns : goal.returns
returns c = again
