use Rattle.std.proofs.Common.{◌-◌, length}
use Rattle.mg_sched.specs.WindsUp.{WindsUpNet}
use Rattle.mg_sched.proofs.net.Net.wind_up.Given as goal

abbrev pub invariant-loop-self : goal.invariant-loop-self
invariant-loop-self g l = WindsUpNet g.C.NodeCalculator.laws l.initial.self l.self

abbrev pub decreases-loop-self : goal.decreases-loop-self
decreases-loop-self g l = length l.self.plan.nodes - l.self.wound
