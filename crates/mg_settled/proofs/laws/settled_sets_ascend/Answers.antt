use Rattle.mg_settled.specs.Left.{set_times}
use Rattle.mg_settled.proofs.SettledTimes.{Rises-increasing}
use Rattle.mg_settled.proofs.PolicySets.{times-rise, below-bounds, below-reach, sets-places, sets-shown}
use Rattle.mg_settled.proofs.laws.settled_sets_ascend.Goals as goal

pub returns-clause-ascend : goal.returns-clause-ascend
returns-clause-ascend c = λ policy ss h. Rises-increasing 0 (set_times policy ss) (times-rise policy ss h)

pub returns-clause-bounds : goal.returns-clause-bounds
returns-clause-bounds c = λ policy ss h. below-bounds policy ss h

pub returns-clause-reach : goal.returns-clause-reach
returns-clause-reach c = λ policy ss h. below-reach policy ss h

pub returns-clause-places : goal.returns-clause-places
returns-clause-places c = λ policy ss. sets-places policy ss

pub returns-clause-shown : goal.returns-clause-shown
returns-clause-shown c = λ policy ss. sets-shown policy ss
