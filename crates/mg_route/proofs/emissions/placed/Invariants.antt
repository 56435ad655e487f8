-- The entries so far are those of the first places.
use Rattle.std.proofs.Common.{◌≡◌, map}
use Rattle.mg_calc.specs.Answer.{laid}
use Rattle.mg_route.specs.Places.{first_places}
use Rattle.mg_route.proofs.emissions.placed.Given as goal

abbrev pub invariant-loop-i : goal.invariant-loop-i
invariant-loop-i g l = l.entries.items ≡ map laid (first_places (g.P.Places.place l.from l.at) l.i)
