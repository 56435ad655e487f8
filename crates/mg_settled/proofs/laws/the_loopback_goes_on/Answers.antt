use Rattle.mg_settled.proofs.LoopbackFurther.{loopback-behind, loopback-further}
use Rattle.mg_settled.proofs.laws.the_loopback_goes_on.Goals as goal

pub returns-clause-behind : goal.returns-clause-behind
returns-clause-behind c = λ n main h. loopback-behind n main h

pub returns-clause-further : goal.returns-clause-further
returns-clause-further c = λ main wider loop more left rest packets gone h e f past answers. loopback-further main wider loop more left rest packets gone h e f past answers
