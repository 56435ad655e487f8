use Rattle.mg_sched.proofs.Becoming.{becomes_plan, becomes_spare, becomes_begun, becomes_taken}
use Rattle.mg_sched.proofs.laws.steps_leave_what_no_node_uses.Goals as goal

pub returns-clause-plan : goal.returns-clause-plan
returns-clause-plan c = λ laws. becomes_plan

pub returns-clause-spare : goal.returns-clause-spare
returns-clause-spare c = λ laws. becomes_spare

pub returns-clause-begun : goal.returns-clause-begun
returns-clause-begun c = λ laws. becomes_begun

pub returns-clause-taken : goal.returns-clause-taken
returns-clause-taken c = λ laws. becomes_taken
