use Rattle.mg_edge.proofs.Runs.{Gave-failed}
use Rattle.mg_edge.proofs.laws.a_failed_read_loses_nothing.Goals as goal

pub returns : goal.returns
returns c = Gave-failed
