use Rattle.mg_node.proofs.OneCalculator.{calculator_there}
use Rattle.mg_node.proofs.laws.what_is_handed_in_is_there.Goals as goal

pub returns : goal.returns
returns c = λ laws. calculator_there
