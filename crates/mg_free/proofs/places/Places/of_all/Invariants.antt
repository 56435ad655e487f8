-- The places so far are those of the first numbers.
use Rattle.std.proofs.Common.{◌≡◌, ◌++◌, map, drop}
use Rattle.mg_free.specs.Code.Places.{place_at}
use Rattle.mg_free.proofs.places.Places.of_all.Given as goal

abbrev pub invariant-loop-number : goal.invariant-loop-number
invariant-loop-number l = l.places.items ++ map (place_at l.self) (drop l.number-index l.numbers) ≡ map (place_at l.self) l.numbers
