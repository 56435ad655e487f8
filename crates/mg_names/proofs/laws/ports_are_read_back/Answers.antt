use Rattle.mg_names.proofs.Again.{read_again}
use Rattle.mg_names.proofs.laws.ports_are_read_back.Goals as goal

pub returns : goal.returns
returns c = read_again
