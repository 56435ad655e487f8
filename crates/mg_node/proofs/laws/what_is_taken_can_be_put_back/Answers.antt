use Rattle.mg_node.proofs.WorksOut.{back_in_place}
use Rattle.mg_node.proofs.laws.what_is_taken_can_be_put_back.Goals as goal

pub returns : goal.returns
returns c = λ laws. back_in_place
