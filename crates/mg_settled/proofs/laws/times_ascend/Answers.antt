use Rattle.mg_settled.specs.Settled.{times_of}
use Rattle.mg_settled.proofs.PrefixSteps.{packets_below}
use Rattle.mg_settled.proofs.Climbs.{prefix-rises}
use Rattle.mg_settled.proofs.SettledTimes.{Rises-increasing}
use Rattle.mg_settled.proofs.laws.times_ascend.Goals as goal

pub returns-clause-ascend : goal.returns-clause-ascend
returns-clause-ascend c = λ s h. Rises-increasing 0 (times_of s.packets) (prefix-rises s h)

pub returns-clause-below : goal.returns-clause-below
returns-clause-below c = λ s h. packets_below s h
