use Rattle.mg_node.proofs.SmallNumbers.{claims_small, bounds_small, counts_small, port_bounds_small}
use Rattle.mg_node.proofs.laws.numbers_are_small.Goals as goal

pub returns-clause-claimed : goal.returns-clause-claimed
returns-clause-claimed c = λ laws. claims_small

pub returns-clause-bounds : goal.returns-clause-bounds
returns-clause-bounds c = λ laws. bounds_small

pub returns-clause-counts : goal.returns-clause-counts
returns-clause-counts c = λ laws. counts_small

pub returns-clause-port_bounds : goal.returns-clause-port_bounds
returns-clause-port_bounds c = λ laws. port_bounds_small
