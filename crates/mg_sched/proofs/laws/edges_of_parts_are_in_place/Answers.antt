use Rattle.mg_sched.proofs.EdgesInPlace.{in_place}
use Rattle.mg_sched.proofs.laws.edges_of_parts_are_in_place.Goals as goal

pub returns : goal.returns
returns c = λ laws. in_place
