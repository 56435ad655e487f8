use Rattle.mg_names.proofs.Pairs.{found_at}
use Rattle.mg_names.proofs.Again.{made_of}
use Rattle.mg_names.proofs.laws.ports_are_found.Goals as goal

pub returns : goal.returns
returns c = λ texts ports i port made here. found_at ports i port (made_of texts ports made).1 here
