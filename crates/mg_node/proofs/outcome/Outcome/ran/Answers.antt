use Rattle.std.proofs.Common.{Some}
use Rattle.mg_node.proofs.Outcomes.{ran_outcome}
use Rattle.mg_node.proofs.outcome.Outcome.ran.Goals as goal

pub returns-clause-lawful : goal.returns-clause-lawful
returns-clause-lawful g c = λ job performed.
    ran_outcome job c.args.performed (record { work = c.into_parts-work.result.0; answer = Some c.into_parts-work.result.1 })
    (λ i. record { work = c.into_parts-work.ensures.work i; answer = Some (c.into_parts-work.ensures.answer i) }) performed
