use Rattle.mg_settled.proofs.LoopbackStream.{loopback_extends}
use Rattle.mg_settled.proofs.laws.loopback_follows_its_inputs.Goals as goal

pub returns : goal.returns
returns c = λ main wider loop more h e f. loopback_extends main wider loop more h e f
