use Rattle.mg_names.proofs.Again.{all_spelled}
use Rattle.mg_names.proofs.laws.ports_are_spelled.Goals as goal

pub returns : goal.returns
returns c = all_spelled
