use Rattle.std.proofs.Common.{arith, ap, length}
use Rattle.mg_throttle.proofs.Feeding.{length-feeders}
use Rattle.mg_crew.proofs.chart.feeders_in.Goals as goal

pub returns : goal.returns
returns c = omega (arith, length-feeders c.args.plan.now, ap length c.requires)
