use Rattle.mg_names.proofs.Pairs.{filled_lower, lower_filled}
use Rattle.mg_names.proofs.laws.filled_is_downward.Goals as goal

pub returns : goal.returns
returns c = λ ports. (filled_lower ports, lower_filled ports)
