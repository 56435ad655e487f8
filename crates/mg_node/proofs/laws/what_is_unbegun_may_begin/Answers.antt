use Rattle.mg_node.proofs.Knowing.{may_begin}
use Rattle.mg_node.proofs.laws.what_is_unbegun_may_begin.Goals as goal

pub returns : goal.returns
returns c = λ laws. may_begin
