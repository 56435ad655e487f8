use Rattle.std.proofs.Common.{None, refl}
use Rattle.mg_node.proofs.Outcomes.{unrun_outcome}
use Rattle.mg_node.proofs.outcome.Outcome.unrun.Goals as goal

pub returns-clause-lawful : goal.returns-clause-lawful
returns-clause-lawful g c = λ job work. unrun_outcome job c.args.work (record { work = c.args.work; answer = None }) refl work
