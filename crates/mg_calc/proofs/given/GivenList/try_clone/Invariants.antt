-- The copies so far, and then the places that are left, are all places.
use Rattle.std.proofs.Common.{◌≡◌, ◌++◌, map, drop}
use Rattle.mg_calc.specs.Given.{given}
use Rattle.mg_calc.proofs.given.GivenList.try_clone.Given as goal

abbrev pub invariant-loop-place : goal.invariant-loop-place
invariant-loop-place l = map given l.places.items ++ map given (drop l.place-index l.place-items) ≡ map given l.place-items
