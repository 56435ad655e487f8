use Rattle.mg_settled.proofs.Lemmas.{found-at, left-behind}
use Rattle.mg_settled.proofs.laws.a_packet_stands_first_at_its_time.Goals as goal

pub returns-clause-found : goal.returns-clause-found
returns-clause-found c = λ t s h. found-at t s h

pub returns-clause-left : goal.returns-clause-left
returns-clause-left c = λ t s h. left-behind t s h
