use Rattle.std.proofs.Common.{refl}
use Rattle.mg_nets.specs.Handed.{two_tallies}
use Rattle.mg_nets.proofs.Driving.{made_plan, made_stands}
use Rattle.mg_nets.proofs.Handing.{boxes_fit}
use Rattle.mg_nets.proofs.driver.net_of.Goals as goal

pub new-requires-clause-boxes : goal.new-requires-clause-boxes
new-requires-clause-boxes c = boxes_fit _ c.args.plan.now _ two_tallies c.in_ok-boxes.ensures refl c.requires.fit

pub returns-in-Ok-clause-stands : goal.returns-in-Ok-clause-stands
returns-in-Ok-clause-stands c = made_stands c.args.plan.now c.args.inputs.now _ _ c.in-Ok.ensures.made

pub returns-in-Ok-clause-of_plan : goal.returns-in-Ok-clause-of_plan
returns-in-Ok-clause-of_plan c = made_plan c.args.plan.now c.args.inputs.now _ c.in-Ok.net c.in-Ok.ensures.made
