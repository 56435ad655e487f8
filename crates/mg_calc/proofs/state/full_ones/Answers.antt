use Rattle.std.proofs.Common.{map, ◌∙◌}
use Rattle.mg_calc.specs.Given.{given}
use Rattle.mg_calc.specs.Code.StateView.{shared_plain}
use Rattle.mg_calc.proofs.StateLists.{kept-take_more}
use Rattle.mg_calc.proofs.state.full_ones.Goals as goal

pub loop-place-preserved : goal.loop-place-preserved
loop-place-preserved c =
    c.in_ok-put_full.ensures
    ∙ kept-take_more given c.args.places.now c.loop-place.place-index c.place-item.result (map shared_plain c.loop-place.list.items) c.loop-place.invariant c.loop-place-test.true c.place-item.is
