use Rattle.mg_throttle.specs.Code.Rows.{bit_in, is_uncounted, NoneFrom}
use Rattle.mg_throttle.proofs.row.uncounted_in.Given as goal

abbrev pub invariant-loop-place : goal.invariant-loop-place
invariant-loop-place l = NoneFrom (is_uncounted (bit_in l.word l.first) l.counts) l.from l.place
