use Rattle.mg_policy.proofs.Readinesses.{one_readiness}
use Rattle.mg_policy.proofs.laws.one_readiness_fits.Goals as goal

pub returns : goal.returns
returns c = λ policy a b qs h k. one_readiness policy a b qs h k
