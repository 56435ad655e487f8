use Rattle.mg_settled.proofs.GonePackets.{none-gone, gone-extended}
use Rattle.mg_settled.proofs.ClaimedPackets.{gone-claimed}
use Rattle.mg_settled.proofs.laws.what_is_gone_is_kept.Goals as goal

pub returns-clause-none : goal.returns-clause-none
returns-clause-none c = λ policy ss. none-gone policy ss

pub returns-clause-extended : goal.returns-clause-extended
returns-clause-extended c = λ policy k ss ts gone h e are. gone-extended policy k ss ts gone h e are

pub returns-clause-claimed : goal.returns-clause-claimed
returns-clause-claimed c = λ policy k ss gone more h are below few left. gone-claimed policy k ss gone more h are below few left
