use Rattle.mg_policy.proofs.Standing.{arrivals_keep}
use Rattle.mg_policy.proofs.laws.arrivals_keep_what_is_claimed.Goals as goal

pub returns : goal.returns
returns c = λ policy k qs rs ss us h each ext same. arrivals_keep policy k qs rs ss us h each ext same
