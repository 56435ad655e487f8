use Rattle.mg_edge.proofs.Runs.{Gave-read}
use Rattle.mg_edge.proofs.laws.reads_give_in_order.Goals as goal

pub returns : goal.returns
returns c = Gave-read
