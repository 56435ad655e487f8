use Rattle.mg_seats.proofs.NoBoxes.{none_fit}
use Rattle.mg_seats.proofs.Outputs.{made_plan, made_outputs}
use Rattle.mg_seats.proofs.nets.net_of.Goals as goal

pub new-requires-clause-boxes : goal.new-requires-clause-boxes
new-requires-clause-boxes c = none_fit _ c.args.plan.now _ c.no_boxes.ensures c.requires.none

pub returns-in-Ok-clause-of : goal.returns-in-Ok-clause-of
returns-in-Ok-clause-of c = made_plan c.args.plan.now c.args.inputs.now _ _ c.in-Ok.ensures.made

pub returns-in-Ok-clause-outputs : goal.returns-in-Ok-clause-outputs
returns-in-Ok-clause-outputs c = made_outputs c.args.plan.now c.args.inputs.now _ _ c.in-Ok.ensures.made
