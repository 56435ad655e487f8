-- The first streams have given up.
use Rattle.mg_sched.specs.Code.Outputs.{AllGiven}
use Rattle.mg_sched.proofs.net.trimming.give_up.Given as goal

abbrev pub invariant-loop-stream : goal.invariant-loop-stream
invariant-loop-stream g l = AllGiven g.C.NodeCalculator.laws l.got l.stream l.initial.engines l.engines
