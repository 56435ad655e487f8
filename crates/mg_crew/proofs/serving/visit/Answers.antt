use Rattle.mg_crew.proofs.Levelled.{at_work_still, works_on}
use Rattle.mg_crew.proofs.serving.visit.Goals as goal

pub go_through-came-requires-clause-at_work : goal.go_through-came-requires-clause-at_work
go_through-came-requires-clause-at_work g c = at_work_still _ _ _ _ _ _ c.requires.at_work c.catch_up-late.ensures

pub returns : goal.returns
returns g c = works_on _ _ _ _ _ _ _ c.catch_up-late.ensures c.go_through-came.ensures
