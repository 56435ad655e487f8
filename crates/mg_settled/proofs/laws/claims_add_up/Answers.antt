use Rattle.mg_settled.proofs.ClaimsAdded.{after-added, gone-added, first-added}
use Rattle.mg_settled.proofs.LeftSets.{gone-further}
use Rattle.mg_settled.proofs.laws.claims_add_up.Goals as goal

pub returns-clause-after_sets : goal.returns-clause-after_sets
returns-clause-after_sets c = λ policy k j ss h. after-added policy k j ss h

pub returns-clause-gone : goal.returns-clause-gone
returns-clause-gone c = λ policy k j ss gone more h first next. gone-added policy k j ss gone more h first next

pub returns-clause-left : goal.returns-clause-left
returns-clause-left c = λ ss gone more e f. first-added ss gone more e f

pub returns-clause-further : goal.returns-clause-further
returns-clause-further c = λ policy k j ss us gone h first left. gone-further policy k j ss us gone h first left
