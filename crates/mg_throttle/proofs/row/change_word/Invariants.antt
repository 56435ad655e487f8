use Rattle.mg_throttle.specs.Code.Rows.{ChangesBelow, bit_in}
use Rattle.mg_throttle.proofs.row.change_word.Given as goal

abbrev pub invariant-loop-place : goal.invariant-loop-place
invariant-loop-place l = ChangesBelow (bit_in l.word l.first) l.more l.less l.place l.initial.counts l.counts
