use Rattle.mg_settled.proofs.LoopbackStream.{loopback_is_prefix}
use Rattle.mg_settled.proofs.laws.loopback_is_a_prefix.Goals as goal

pub returns : goal.returns
returns c = λ main loop h. loopback_is_prefix main loop h
