use Rattle.mg_names.proofs.Pairs.{once_pairs, pairs_once}
use Rattle.mg_names.proofs.laws.once_is_pairwise.Goals as goal

pub returns : goal.returns
returns c = λ ports. (once_pairs ports, pairs_once ports)
