use Rattle.std.proofs.Common.{◌∙◌}
use Rattle.mg_seats.proofs.Outputs.{plan_stays, outputs_stay}
use Rattle.mg_seats.proofs.nets.begun.Goals as goal

pub returns-clause-outputs : goal.returns-clause-outputs
returns-clause-outputs c = outputs_stay _ _ _ c.in_ok-begin.ensures.stands c.in_ok-net.ensures.outputs

pub returns-clause-stands : goal.returns-clause-stands
returns-clause-stands c = (outputs_stay _ _ _ c.in_ok-begin.ensures.stands c.in_ok-net.ensures.outputs).stands

pub returns-clause-of : goal.returns-clause-of
returns-clause-of c = plan_stays _ _ c.in_ok-begin.ensures.stands c.in_ok-net.ensures.outputs.stands ∙ c.in_ok-net.ensures.of
