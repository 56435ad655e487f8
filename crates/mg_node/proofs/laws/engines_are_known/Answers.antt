use Rattle.mg_node.proofs.Knowing.{engine_there, engine_known}
use Rattle.mg_node.proofs.laws.engines_are_known.Goals as goal

pub returns-clause-there : goal.returns-clause-there
returns-clause-there c = λ laws. engine_there

pub returns-clause-known : goal.returns-clause-known
returns-clause-known c = λ laws. engine_known
