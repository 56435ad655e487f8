use Rattle.mg_node.proofs.OneCalculator.{handed_there}
use Rattle.mg_node.proofs.laws.what_is_handed_in_waits_to_begin.Goals as goal

pub returns : goal.returns
returns c = λ laws. handed_there
