use Rattle.std.proofs.Common.{◌≡◌, map, take}
use Rattle.mg_calc.specs.Given.{given}
use Rattle.mg_feed.proofs.taking.copy_sides.Given as goal

abbrev pub invariant-loop-side : goal.invariant-loop-side
invariant-loop-side l = map given l.copies.items ≡ map given (take l.side-index l.sides)
