use Rattle.mg_check.proofs.Fixed.{fixed_end}
use Rattle.mg_check.proofs.sides.add_fixed.Goals as goal

pub returns : goal.returns
returns c = fixed_end c.loop-place.out.items _ c.as_slice-names.result.now c.as_slice-constants.result.now c.loop-place.place c.min-place-end.result c.loop-place-test.false c.min-place-end.ensures c.loop-place.invariant
