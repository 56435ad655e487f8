use Rattle.mg_policy.proofs.Standing.{what_is_next, what_is_the_reach}
use Rattle.mg_policy.proofs.laws.what_waits_is_not_claimed.Goals as goal

pub returns-clause-sets : goal.returns-clause-sets
returns-clause-sets c = λ policy k qs ss h. what_is_next policy k qs ss h

pub returns-clause-reach : goal.returns-clause-reach
returns-clause-reach c = λ policy k qs ss h. what_is_the_reach policy k qs ss h
