-- Of the nodes some are begun, and what nets that stood for a job stand for it still.
use Rattle.std.proofs.Common.{◌-◌, length}
use Rattle.mg_sched.specs.Begins.{BeginsNet}
use Rattle.mg_sched.proofs.AllBegun.{Keeps}
use Rattle.mg_sched.proofs.net.Net.begin.Given as goal

abbrev pub invariant-loop-self : goal.invariant-loop-self
invariant-loop-self g l = record { begins : BeginsNet g.C.NodeCalculator.laws l.fn.self l.self; keeps : Keeps g.C.NodeCalculator.laws l.fn.self l.self }

abbrev pub decreases-loop-self : goal.decreases-loop-self
decreases-loop-self g l = length l.self.plan.nodes - l.self.begun
