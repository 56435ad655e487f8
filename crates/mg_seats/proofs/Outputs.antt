-- A net stands for its job and keeps its outputs while it is made, begun, taken from, shared and put together again.
use Rattle.std.proofs.Common.{◌≡◌, ℕ, ◌∙◌, List, length, ap, sym}
use Rattle.mg_calc.specs.Rules.{Laws}
use Rattle.mg_calc.specs.declared.inputs.Inputs.{Inputs}
use Rattle.mg_calc.specs.declared.plan.Plan.{Plan}
use Rattle.mg_calc.specs.Told.{BoxTold}
use Rattle.mg_node.specs.Job.{LoggedJob}
use Rattle.mg_sched.specs.Views.{NetView}
use Rattle.mg_sched.specs.StandsFor.{StandsFor, StandsForSome}
use Rattle.mg_sched.specs.Made.{job_of, IsMade}
use Rattle.mg_seats.specs.Held.{HasOutputs}

-- two nets that stand for one job are of one plan
of_one_plan : {laws : Laws} (job : LoggedJob laws) (before now : NetView) → StandsFor job before → StandsFor job now → now.plan ≡ before.plan
unfolding StandsFor
of_one_plan {laws} job before now h g = g.plan ∙ sym h.plan

pub plan_stays : {laws : Laws} (before now : NetView) → ((job : LoggedJob laws) → StandsFor job before → StandsFor job now) → StandsForSome laws before → now.plan ≡ before.plan
plan_stays {laws} before now keeps some = of_one_plan some.job before now some.stands (keeps some.job some.stands)

pub outputs_stay : {laws : Laws} (count : ℕ) (before now : NetView) → ((job : LoggedJob laws) → StandsFor job before → StandsFor job now) → HasOutputs laws count before → HasOutputs laws count now
outputs_stay {laws} count before now keeps h = record {
  stands = record { job = h.stands.job; stands = keeps h.stands.job h.stands.stands };
  outputs = ap (λ (p : Plan). length p.outputs) (plan_stays before now keeps h.stands) ∙ h.outputs;
}

pub made_plan : {laws : Laws} (plan : Plan) (inputs : Inputs) (boxes : List BoxTold) (net : NetView) → IsMade laws plan inputs boxes net → net.plan ≡ plan
unfolding StandsFor
made_plan {laws} plan inputs boxes net m = m.stands.plan

pub made_outputs : {laws : Laws} (plan : Plan) (inputs : Inputs) (boxes : List BoxTold) (net : NetView) → IsMade laws plan inputs boxes net → HasOutputs laws (length plan.outputs) net
made_outputs {laws} plan inputs boxes net m = record {
  stands = record { job = job_of laws plan inputs boxes; stands = m.stands };
  outputs = ap (λ (p : Plan). length p.outputs) (made_plan plan inputs boxes net m);
}
