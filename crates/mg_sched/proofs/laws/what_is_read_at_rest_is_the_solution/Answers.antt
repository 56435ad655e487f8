use Rattle.mg_sched.proofs.RestingLooks.{packet_at_rest, bound_at_rest}
use Rattle.mg_sched.proofs.laws.what_is_read_at_rest_is_the_solution.Goals as goal

pub returns-clause-packet : goal.returns-clause-packet
returns-clause-packet c = λ laws. packet_at_rest

pub returns-clause-bound : goal.returns-clause-bound
returns-clause-bound c = λ laws. bound_at_rest
