use Rattle.std.proofs.Common.{◌≡◌, map, min, ap, ◌∙◌, sym}
use Rattle.mg_calc.specs.Given.{given}
use Rattle.mg_calc.specs.Routing.{renewed_places}
use Rattle.mg_calc.specs.Values.{stored}
use Rattle.mg_calc.proofs.Copying.{map-then}
use Rattle.mg_route.proofs.ClonerLemmas.{first_places-renewed, cloner-ticks, cloner-waits}
use Rattle.mg_route.proofs.cloner.cloner.Goals as goal
use Rattle.mg_route.proofs.cloner.cloner.Goals.{then-is_full+in_ok-emission, else-is_full+in_ok-emission-2}

pub returns-clause-answer : goal.returns-clause-answer
returns-clause-answer c =
    let least = c.min-count.ensures ∙ ap (min c.args.lanes) c.len.ensures in
    let renews : map given c.in_ok-all_renewed.field-0.items ≡ renewed_places c.args.lanes c.args.state.now c.args.set.now =
    c.in_ok-all_renewed.ensures ∙ first_places-renewed c.args.state.now c.args.set.now c.args.lanes c.min-count.result least in
    let keeps : c.of_places-renewed.result ≡ map stored (renewed_places c.args.lanes c.args.state.now c.args.set.now) =
    c.of_places-renewed.ensures ∙ map-then given stored c.in_ok-all_renewed.field-0.items ∙ ap (map stored) renews in
    elim c.if-is_full.branch [
      | then-is_full+in_ok-emission w ↦ cloner-ticks c.args.state.now c.args.set.now c.args.lanes c.min-count.result c.args.at least c.of_places-renewed.result keeps c.if-is_full.emission
          (sym (c.is_full.ensures c.args.at) ∙ w.if-is_full.true) (w.emission-is ∙ w.in_ok-emission.ensures)
      | else-is_full+in_ok-emission-2 w ↦ cloner-waits c.args.state.now c.args.set.now c.args.lanes c.min-count.result c.args.at least c.of_places-renewed.result keeps c.if-is_full.emission
          (sym (c.is_full.ensures c.args.at) ∙ w.if-is_full.false) (w.emission-is ∙ w.in_ok-emission-2.ensures)
    ]
