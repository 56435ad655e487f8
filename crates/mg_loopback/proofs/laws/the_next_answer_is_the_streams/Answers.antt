use Rattle.mg_loopback.proofs.Standing.{next_is}
use Rattle.mg_loopback.proofs.laws.the_next_answer_is_the_streams.Goals as goal

pub returns : goal.returns
returns c = λ k held main loop h. next_is k held main loop h
