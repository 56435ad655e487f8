use Rattle.mg_edge.proofs.Runs.{Gave-end}
use Rattle.mg_edge.proofs.laws.reads_to_the_end_give_all.Goals as goal

pub returns : goal.returns
returns c = Gave-end
