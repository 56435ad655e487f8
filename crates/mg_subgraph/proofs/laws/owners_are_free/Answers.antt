use Rattle.mg_subgraph.proofs.Again.{refusals_none}
use Rattle.mg_subgraph.proofs.Apartness.{free_owners}
use Rattle.mg_subgraph.proofs.Kept.{expansion_is}
use Rattle.mg_subgraph.proofs.laws.owners_are_free.Goals as goal

pub returns : goal.returns
returns c = λ main graph library made some. free_owners main library (refusals_none main library (expansion_is main library graph made).0).3 some
