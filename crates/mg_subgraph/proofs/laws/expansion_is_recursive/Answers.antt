use Rattle.mg_subgraph.proofs.Grounded.{expanded_by_itself}
use Rattle.mg_subgraph.proofs.Sized.{grounded_main}
use Rattle.mg_subgraph.proofs.laws.expansion_is_recursive.Goals as goal

pub returns : goal.returns
returns c = λ main library none. expanded_by_itself library main.nodes (grounded_main main library none)
