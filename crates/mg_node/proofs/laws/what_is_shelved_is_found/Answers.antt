use Rattle.mg_node.proofs.ShelfLaws.{found_again}
use Rattle.mg_node.proofs.laws.what_is_shelved_is_found.Goals as goal

pub returns : goal.returns
returns c = found_again
