use Rattle.mg_node.proofs.AtOnceKeeps.{at_once_lawful}
use Rattle.mg_node.proofs.engine.Engine.work_at_once.Goals as goal

pub returns-clause-lawful : goal.returns-clause-lawful
returns-clause-lawful g c = λ job number engine intake agree. at_once_lawful job number c.do_next.result _ _ _ _ engine intake agree c.do_next.ensures.does
