use Rattle.mg_nets.proofs.Driving.{trimmed_driven}
use Rattle.mg_nets.proofs.driver.trim.Goals as goal

pub returns : goal.returns
returns c = trimmed_driven c.args.driver.now.plan c.args.driver.now.inputs c.args.driver.now.net _ c.requires c.trim.ensures.trims c.trim.ensures.stands
