use Rattle.mg_settled.proofs.AfterSets.{sets-after, reach-after}
use Rattle.mg_settled.proofs.laws.after_sets_leaves_the_others.Goals as goal

pub returns-clause-sets : goal.returns-clause-sets
returns-clause-sets c = λ policy k ss h. sets-after policy k ss h

pub returns-clause-reach : goal.returns-clause-reach
returns-clause-reach c = λ policy k ss h. reach-after policy k ss h
