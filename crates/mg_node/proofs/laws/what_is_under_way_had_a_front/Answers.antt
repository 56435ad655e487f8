use Rattle.mg_node.proofs.FrontsHad.{engine_front, unbegun_front, work_out_front}
use Rattle.mg_node.proofs.ClosesHad.{wound_front}
use Rattle.mg_node.proofs.laws.what_is_under_way_had_a_front.Goals as goal

pub returns-clause-engine : goal.returns-clause-engine
returns-clause-engine c = λ laws. engine_front

pub returns-clause-unbegun : goal.returns-clause-unbegun
returns-clause-unbegun c = λ laws. unbegun_front

pub returns-clause-work : goal.returns-clause-work
returns-clause-work c = λ laws. work_out_front

pub returns-clause-wound : goal.returns-clause-wound
returns-clause-wound c = λ laws. wound_front
