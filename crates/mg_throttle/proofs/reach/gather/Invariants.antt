use Rattle.mg_throttle.specs.Code.Reach.{GathersTo}
use Rattle.mg_throttle.proofs.reach.gather.Given as goal

abbrev pub invariant-loop-k : goal.invariant-loop-k
invariant-loop-k l = GathersTo l.plan l.rows l.node l.k l.initial.row l.row
