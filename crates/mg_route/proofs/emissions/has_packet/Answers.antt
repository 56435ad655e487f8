use Rattle.std.proofs.Common.{◌≡◌, ◌+◌, is_some, sym, ◌∙◌, refl}
use Rattle.mg_route.proofs.PlaceLemmas.{any_from, any_from-step}
use Rattle.mg_route.proofs.emissions.has_packet.Goals as goal

pub loop-i-preserved : goal.loop-i-preserved
loop-i-preserved g c =
    let place = g.P.Places.place c.args.from.now c.args.at in
    let step = any_from-step is_some place c.loop-i.i c.args.count c.loop-i-test.true in
    let same : any_from is_some place c.loop-i.i c.args.count ≡ any_from is_some place (c.loop-i.i + 1) c.args.count =
    rw (step, ← c.is_full.ensures c.args.at, c.if-is_full.false) refl in
    sym same ∙ c.loop-i.invariant
