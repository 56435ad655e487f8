use Rattle.std.proofs.Common.{◌*◌}
use Rattle.mg_throttle.specs.Code.Rows.{is_marked, is_uncounted, NoneFrom}
use Rattle.mg_throttle.proofs.row.Row.uncounted.Given as goal

abbrev pub invariant-loop-k : goal.invariant-loop-k
invariant-loop-k l = NoneFrom (is_uncounted (is_marked l.self) l.counts) l.from (l.k * 64)
