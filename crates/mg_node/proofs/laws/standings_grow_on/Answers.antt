use Rattle.std.proofs.Common.{refl}
use Rattle.mg_node.proofs.Growing.{engine_same, engine_further}
use Rattle.mg_node.proofs.IntakesGrow.{intake_same, intake_further}
use Rattle.mg_node.proofs.laws.standings_grow_on.Goals as goal

pub returns-clause-engine : goal.returns-clause-engine
returns-clause-engine c = engine_further

pub returns-clause-intake : goal.returns-clause-intake
returns-clause-intake c = intake_further

pub returns-clause-same_engine : goal.returns-clause-same_engine
returns-clause-same_engine c = λ engine. engine_same engine engine refl

pub returns-clause-same_intake : goal.returns-clause-same_intake
returns-clause-same_intake c = λ intake. intake_same intake intake refl
