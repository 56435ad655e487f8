use Rattle.mg_node.proofs.LeastTime.{least_time}
use Rattle.mg_node.proofs.laws.horizons_are_least_times.Goals as goal

pub returns : goal.returns
returns c = least_time
