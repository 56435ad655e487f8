use Rattle.std.proofs.Common.{◌∙◌}
use Rattle.mg_calc.specs.Given.{given}
use Rattle.mg_calc.specs.Values.{stored}
use Rattle.mg_calc.proofs.Copying.{same-map-then}
use Rattle.mg_calc.proofs.state.State.try_clone.Goals as goal

pub returns-in_ok-shared-in-Places : goal.returns-in_ok-shared-in-Places
returns-in_ok-shared-in-Places c =
    rw (← c.self.view_is, c.in-Places.is, ← c.deref.ensures.value)
    (c.of_places.ensures ∙ same-map-then given stored _ _ c.in_ok-shared-in-Places.ensures)
