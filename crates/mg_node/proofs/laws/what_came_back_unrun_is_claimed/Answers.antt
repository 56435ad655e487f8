use Rattle.mg_node.proofs.ShelfLaws.{unrun_again}
use Rattle.mg_node.proofs.laws.what_came_back_unrun_is_claimed.Goals as goal

pub returns : goal.returns
returns c = unrun_again
