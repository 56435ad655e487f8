use Rattle.mg_settled.proofs.GonePackets.{sets-gone, reach-gone}
use Rattle.mg_settled.proofs.laws.what_is_left_has_the_others.Goals as goal

pub returns-clause-sets : goal.returns-clause-sets
returns-clause-sets c = λ policy k ss gone h are. sets-gone policy k ss gone h are

pub returns-clause-reach : goal.returns-clause-reach
returns-clause-reach c = λ policy k ss gone h are. reach-gone policy k ss gone h are
