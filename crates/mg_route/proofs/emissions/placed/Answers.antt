use Rattle.std.proofs.Common.{◌≡◌, ◌+◌, ◌++◌, ◌∷◌, [], map}
use Rattle.mg_calc.specs.Answer.{laid}
use Rattle.mg_route.specs.Places.{first_places}
use Rattle.mg_route.proofs.PlaceLemmas.{map-first_places-more}
use Rattle.mg_route.proofs.emissions.placed.Goals as goal

pub loop-i-preserved : goal.loop-i-preserved
loop-i-preserved g c =
    let place = g.P.Places.place c.args.from.now c.args.at in
    let more : c.loop-i.entries.items ++ c.in_ok-entry-2.field-0 ∷ [] ≡ map laid (first_places place (c.loop-i.i + 1)) =
    map-first_places-more laid place c.loop-i.i c.loop-i.entries.items c.in_ok-entry-2.field-0 c.loop-i.invariant c.in_ok-entry-2.ensures in
    rw c.in_ok-push.ensures.items more
