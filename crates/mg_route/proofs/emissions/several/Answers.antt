use Rattle.std.proofs.Common.{◌≡◌, IfOk, ap, ◌∙◌, min, subst}
use Rattle.mg_calc.specs.Answer.{emission_of}
use Rattle.mg_route.proofs.PlaceLemmas.{first_places-take}
use Rattle.mg_route.proofs.emissions.several.Goals as goal

pub returns : goal.returns
returns c =
    let least = c.min.ensures ∙ ap (min c.args.lanes) c.len.ensures in
    subst (λ places. IfOk c.placed.result (λ emission. emission ≡ emission_of places))
    (first_places-take c.args.set.now c.args.lanes c.min.result least) c.placed.ensures
