use Rattle.mg_nets.proofs.Driving.{still_driven}
use Rattle.mg_nets.proofs.driver.act.Goals as goal

pub returns : goal.returns
returns c = still_driven c.args.driver.now.plan c.args.driver.now.inputs c.args.driver.now.net _ c.requires c.act.ensures.running c.act.ensures.stands
