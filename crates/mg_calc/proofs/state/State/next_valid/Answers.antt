use Rattle.std.proofs.Common.{map, sym}
use Rattle.mg_calc.specs.Given.{given}
use Rattle.mg_calc.specs.Code.StateView.{shared_plain}
use Rattle.mg_calc.proofs.StateLists.{next_valid-full}
use Rattle.mg_calc.proofs.StateLemmas.{next_valid-places}
use Rattle.mg_calc.proofs.state.State.next_valid.Goals as goal

pub returns-in-Places : goal.returns-in-Places
returns-in-Places c = rw (← c.self.view_is, c.in-Places.is) (sym (next_valid-places given c.in-Places.field-0.items))

pub returns-in-Full : goal.returns-in-Full
returns-in-Full c = rw (← c.self.view_is, c.in-Full.is) (sym (next_valid-full (map shared_plain c.in-Full.field-0.items)))
