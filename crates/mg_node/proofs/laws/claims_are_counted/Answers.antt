use Rattle.mg_node.proofs.SmallNumbers.{claims_counted}
use Rattle.mg_node.proofs.laws.claims_are_counted.Goals as goal

pub returns : goal.returns
returns c = λ laws. claims_counted
