use Rattle.std.proofs.Common.{ap}
use Rattle.mg_sched.specs.Views.{NetView}
use Rattle.mg_sched.proofs.NothingGone.{begins_keep, steps_keep, extends_keep, trims_keep, leaves_keep}
use Rattle.mg_sched.proofs.laws.what_is_kept_stays.Goals as goal

pub returns-clause-begins : goal.returns-clause-begins
returns-clause-begins c = λ laws. begins_keep

pub returns-clause-steps : goal.returns-clause-steps
returns-clause-steps c = λ laws. steps_keep

pub returns-clause-further : goal.returns-clause-further
returns-clause-further c = λ laws. extends_keep

pub returns-clause-trims : goal.returns-clause-trims
returns-clause-trims c = λ laws. trims_keep

pub returns-clause-leaves : goal.returns-clause-leaves
returns-clause-leaves c = λ before now stream number left. leaves_keep before now stream number (ap (λ (v : NetView). v.plan) left) (ap (λ (v : NetView). v.engines) left)
