use Rattle.mg_settled.proofs.FirstSets.{first-time, leading-stays, after-first}
use Rattle.mg_settled.proofs.SetSteps.{shown-set, shown-is}
use Rattle.mg_settled.proofs.laws.first_packets_tell_the_first_set.Goals as goal

pub returns-clause-time : goal.returns-clause-time
returns-clause-time c = λ policy ss h. first-time policy ss h

pub returns-clause-leading : goal.returns-clause-leading
returns-clause-leading c = λ policy ss t i h is there lead. leading-stays policy ss t i is there lead

pub returns-clause-left : goal.returns-clause-left
returns-clause-left c = λ policy ss t h is. after-first policy ss t h is

pub returns-clause-shown : goal.returns-clause-shown
returns-clause-shown c = λ policy ss t i is. shown-is policy ss t i is

pub returns-clause-set : goal.returns-clause-set
returns-clause-set c = λ policy ss t set h is many at. shown-set policy ss t set h is many at
