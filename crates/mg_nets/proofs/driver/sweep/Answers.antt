use Rattle.mg_nets.proofs.Driving.{still_driven}
use Rattle.mg_nets.proofs.driver.sweep.Goals as goal

pub returns-in-Ok : goal.returns-in-Ok
returns-in-Ok g c = still_driven c.args.driver.now.plan c.args.driver.now.inputs c.args.driver.now.net _ c.requires c.in-Ok.ensures.running c.in-Ok.ensures.stands

pub returns-in-Err : goal.returns-in-Err
returns-in-Err g c = still_driven c.args.driver.now.plan c.args.driver.now.inputs c.args.driver.now.net _ c.requires c.in-Err.ensures.running c.in-Err.ensures.stands
