use Rattle.mg_node.proofs.Beginning.{fresh_lawful}
use Rattle.mg_node.proofs.intake.Intake.new.Goals as goal

pub returns-clause-lawful : goal.returns-clause-lawful
returns-clause-lawful c = λ laws job streams same solves. fresh_lawful job streams _ _ _ c.in_ok-waits.ensures c.requires.consumer same solves
