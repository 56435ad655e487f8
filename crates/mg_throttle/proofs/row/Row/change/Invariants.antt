use Rattle.std.proofs.Common.{◌*◌}
use Rattle.mg_throttle.specs.Code.Rows.{ChangesBelow, is_marked}
use Rattle.mg_throttle.proofs.row.Row.change.Given as goal

abbrev pub invariant-loop-k : goal.invariant-loop-k
invariant-loop-k l = ChangesBelow (is_marked l.self) l.more l.less (l.k * 64) l.initial.counts l.counts
