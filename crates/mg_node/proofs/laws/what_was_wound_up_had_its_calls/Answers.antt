use Rattle.mg_node.proofs.CallsHad.{had_calls}
use Rattle.mg_node.proofs.laws.what_was_wound_up_had_its_calls.Goals as goal

pub returns : goal.returns
returns c = λ laws. had_calls
