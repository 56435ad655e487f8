use Rattle.mg_node.proofs.ClosesHad.{wound_closed}
use Rattle.mg_node.proofs.laws.what_was_wound_up_had_close.Goals as goal

pub returns : goal.returns
returns c = λ laws. wound_closed
