use Rattle.std.proofs.Common.{ℕ, Option, ap, map, ◌∙◌}
use Rattle.mg_value.specs.Plain.{Plain}
use Rattle.mg_calc.specs.Given.{given}
use Rattle.mg_calc.specs.Routing.{renewed}
use Rattle.mg_calc.specs.State.{kept_at}
use Rattle.mg_calc.specs.Values.{place_at}
use Rattle.mg_route.proofs.PlaceLemmas.{mapped-first_places-more}
use Rattle.mg_route.proofs.cloner.all_renewed.Goals as goal

pub loop-i-preserved : goal.loop-i-preserved
loop-i-preserved c =
    let place : ℕ → Option Plain = λ i. renewed (place_at c.args.set.now i, kept_at c.args.state.now i) in
    ap (map given) c.in_ok-push.ensures.items
    ∙ mapped-first_places-more given place c.loop-i.i c.loop-i.places.items c.in_ok-renewed.field-0 c.loop-i.invariant c.in_ok-renewed.ensures
