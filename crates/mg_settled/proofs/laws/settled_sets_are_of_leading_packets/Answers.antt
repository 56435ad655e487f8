use Rattle.mg_settled.proofs.LeadingPackets.{each-leading, all-leading, no-sets}
use Rattle.mg_settled.proofs.laws.settled_sets_are_of_leading_packets.Goals as goal

pub returns-clause-of : goal.returns-clause-of
returns-clause-of c = λ policy ss. each-leading policy ss

pub returns-clause-all : goal.returns-clause-all
returns-clause-all c = λ policy ss t h one below. all-leading policy ss t h one below

pub returns-clause-none : goal.returns-clause-none
returns-clause-none c = λ policy ss empty. no-sets policy ss empty
