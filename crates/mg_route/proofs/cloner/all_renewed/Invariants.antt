-- The places so far are renewed.
use Rattle.std.proofs.Common.{◌≡◌, map}
use Rattle.mg_calc.specs.Given.{given}
use Rattle.mg_calc.specs.Routing.{renewed}
use Rattle.mg_calc.specs.State.{kept_at}
use Rattle.mg_calc.specs.Values.{place_at}
use Rattle.mg_route.specs.Places.{first_places}
use Rattle.mg_route.proofs.cloner.all_renewed.Given as goal

abbrev pub invariant-loop-i : goal.invariant-loop-i
invariant-loop-i l = map given l.places.items ≡ first_places (λ i. renewed (place_at l.set i, kept_at l.state i)) l.i
