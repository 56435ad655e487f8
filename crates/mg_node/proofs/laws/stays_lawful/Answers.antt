use Rattle.mg_node.proofs.LaterParts.{intake_stays, engine_stays, unbegun_stays, work_stays, performed_stays, outcome_stays}
use Rattle.mg_node.proofs.laws.stays_lawful.Goals as goal

pub returns-clause-intake : goal.returns-clause-intake
returns-clause-intake c = λ laws. intake_stays

pub returns-clause-engine : goal.returns-clause-engine
returns-clause-engine c = λ laws. engine_stays

pub returns-clause-unbegun : goal.returns-clause-unbegun
returns-clause-unbegun c = λ laws. unbegun_stays

pub returns-clause-work : goal.returns-clause-work
returns-clause-work c = λ laws. work_stays

pub returns-clause-performed : goal.returns-clause-performed
returns-clause-performed c = λ laws. performed_stays

pub returns-clause-outcome : goal.returns-clause-outcome
returns-clause-outcome c = λ laws. outcome_stays
