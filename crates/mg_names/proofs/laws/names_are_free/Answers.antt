use Rattle.mg_names.proofs.Again.{read_named}
use Rattle.mg_names.proofs.laws.names_are_free.Goals as goal

pub returns : goal.returns
returns c = read_named
