use Rattle.mg_nets.proofs.Driving.{may_wind_up}
use Rattle.mg_nets.proofs.driver.wind_up.Goals as goal

pub wind_up-requires : goal.wind_up-requires
wind_up-requires c = record { may = may_wind_up c.args.driver.now.plan c.args.driver.now.inputs c.args.driver.now.net c.requires }
