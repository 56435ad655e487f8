use Rattle.mg_edge.proofs.Runs.{TookAll-write}
use Rattle.mg_edge.proofs.laws.writes_append_in_order.Goals as goal

pub returns : goal.returns
returns c = TookAll-write
