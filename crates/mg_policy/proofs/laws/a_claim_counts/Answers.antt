use Rattle.mg_policy.proofs.Standing.{claim_counts}
use Rattle.mg_policy.proofs.laws.a_claim_counts.Goals as goal

pub returns : goal.returns
returns c = λ policy k qs rs ss h each some left. claim_counts policy k qs rs ss h each some left
