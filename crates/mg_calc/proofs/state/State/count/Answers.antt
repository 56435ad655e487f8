use Rattle.std.proofs.Common.{map, sym}
use Rattle.mg_calc.specs.Given.{given}
use Rattle.mg_calc.specs.Code.StateView.{shared_plain}
use Rattle.mg_calc.proofs.StateLists.{count_in-full}
use Rattle.mg_calc.proofs.StateLemmas.{count_in-places}
use Rattle.mg_calc.proofs.state.State.count.Goals as goal

pub returns-in-Places : goal.returns-in-Places
returns-in-Places c = rw (← c.self.view_is, c.in-Places.is) (sym (count_in-places given c.in-Places.field-0.items))

pub returns-in-Full : goal.returns-in-Full
returns-in-Full c = rw (← c.self.view_is, c.in-Full.is) (sym (count_in-full (map shared_plain c.in-Full.field-0.items)))
