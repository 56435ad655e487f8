use Rattle.std.proofs.Common.{true, []}
use Rattle.mg_nets.proofs.Driving.{taken_driven}
use Rattle.mg_nets.proofs.driver.take_out.Goals as goal

pub returns-then-take_out : goal.returns-then-take_out
returns-then-take_out c =
    taken_driven c.args.driver.now.plan c.args.driver.now.inputs true [] _ c.args.driver.now.net _ c.requires c.if-take_out.ensures.taken c.if-take_out.ensures.stands

pub returns : goal.returns
returns c =
    taken_driven c.args.driver.now.plan c.args.driver.now.inputs _ _ _ c.args.driver.now.net _ c.requires c.take_out.ensures.taken c.take_out.ensures.stands
