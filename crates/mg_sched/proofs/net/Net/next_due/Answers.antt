use Rattle.mg_sched.proofs.Sweeping.{due_works}
use Rattle.mg_sched.proofs.net.Net.next_due.Goals as goal

pub returns-in-Some-clause-due : goal.returns-in-Some-clause-due
returns-in-Some-clause-due g c = due_works g.C.NodeCalculator.laws c.in-Some.number c.args.self.now c.args.node c.in-Some.ensures.some
