use Rattle.mg_calc.specs.Code.StateView.{shared_plain}
use Rattle.mg_calc.proofs.StateLists.{place-full}
use Rattle.mg_calc.proofs.state.State.place.Goals as goal

pub returns-in-Full : goal.returns-in-Full
returns-in-Full c = rw (← c.self.view_is, c.in-Full.is) (place-full shared_plain c.in-Full.list.items c.args.i c.nth.result (let looked = c.nth.ensures in let same = c.deref-in-Full.ensures.value in cc))
