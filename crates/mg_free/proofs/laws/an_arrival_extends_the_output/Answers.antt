use Rattle.mg_free.proofs.Arriving.{arrived_prefix, arrived_extends}
use Rattle.mg_free.proofs.laws.an_arrival_extends_the_output.Goals as goal

pub returns-clause-prefix : goal.returns-clause-prefix
returns-clause-prefix c = arrived_prefix

pub returns-clause-extends : goal.returns-clause-extends
returns-clause-extends c = arrived_extends
