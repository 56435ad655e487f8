-- The places shared so far are the first.
use Rattle.std.proofs.Common.{◌≡◌, map, take}
use Rattle.mg_calc.specs.Given.{given}
use Rattle.mg_calc.proofs.state.shared.Given as goal

abbrev pub invariant-loop-place : goal.invariant-loop-place
invariant-loop-place l = map given l.copies.items ≡ map given (take l.place-index l.places)
