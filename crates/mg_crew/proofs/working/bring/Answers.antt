use Rattle.mg_crew.proofs.Sharing.{stays_on}
use Rattle.mg_crew.proofs.working.bring.Goals as goal

pub returns : goal.returns
returns g c = stays_on _ _ _ _ c.try_bring-came.ensures c.try_bring.ensures
