use Rattle.mg_crew.proofs.Levelled.{at_work_still, works_on}
use Rattle.mg_crew.proofs.working.work_at.Goals as goal

pub try_work-requires-clause-at_work : goal.try_work-requires-clause-at_work
try_work-requires-clause-at_work g c = at_work_still _ _ _ _ _ _ c.requires.at_work c.try_work-came.ensures

pub returns : goal.returns
returns g c = works_on _ _ _ _ _ _ _ c.try_work-came.ensures c.try_work.ensures
