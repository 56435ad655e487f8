use Rattle.mg_calc.specs.Given.{given}
use Rattle.mg_calc.proofs.Copying.{map-take-more}
use Rattle.mg_calc.proofs.state.shared.Goals as goal

pub loop-place-preserved : goal.loop-place-preserved
loop-place-preserved c =
    rw c.in_ok-push.ensures.items (map-take-more given c.args.places.now c.loop-place.copies.items c.loop-place.place-index c.place-item.result _ c.loop-place.invariant c.loop-place-test.true c.place-item.is c.in_ok-share.ensures)
