use Rattle.std.proofs.Common.{◌≡◌, true, arith}
use Rattle.mg_throttle.specs.Code.Rows.{bit_in}
use Rattle.mg_throttle.proofs.RowMarks.{bit_in-yes, bit_in-no, ChangesBelow-yes, ChangesBelow-no}
use Rattle.mg_throttle.proofs.row.change_word.Goals as goal
use Rattle.mg_throttle.proofs.row.change_word.Goals.{then-word-place-eq1, else-word-place-eq1}

pub loop-place-preserved : goal.loop-place-preserved
loop-place-preserved c = elim c.if-word-place-eq1.branch [
  | then-word-place-eq1 w ↦
      let passes : bit_in c.args.word c.args.first c.loop-place.place ≡ true = bit_in-yes _ _ _ (omega arith) (omega arith) w.if-word-place-eq1.true in
      rw w.counts-is (ChangesBelow-yes _ _ _ _ _ _ _ c.loop-place.invariant (omega arith) passes
      (omega (arith, c.requires.enough c.loop-place.place (omega arith) passes, c.loop-place.invariant.kept c.loop-place.place (omega arith))))
  | else-word-place-eq1 w ↦ rw w.counts-is (ChangesBelow-no _ _ _ _ _ _ c.loop-place.invariant (bit_in-no _ _ _ (omega arith) (omega arith) w.if-word-place-eq1.false))
]
