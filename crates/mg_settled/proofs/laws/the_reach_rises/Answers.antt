use Rattle.mg_settled.proofs.PolicySets.{reach-rises, reach-least, reach-most}
use Rattle.mg_settled.proofs.laws.the_reach_rises.Goals as goal

pub returns-clause-opened : goal.returns-clause-opened
returns-clause-opened c = λ policy ss h. reach-least policy ss h

pub returns-clause-within : goal.returns-clause-within
returns-clause-within c = λ policy ss h. reach-most policy ss h

pub returns-clause-rises : goal.returns-clause-rises
returns-clause-rises c = λ policy ss ts h e. reach-rises policy ss ts h e
