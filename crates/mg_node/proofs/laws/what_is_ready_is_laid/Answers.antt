use Rattle.mg_node.proofs.Knowing.{nothing_ready}
use Rattle.mg_node.proofs.laws.what_is_ready_is_laid.Goals as goal

pub returns : goal.returns
returns c = λ laws. nothing_ready
