use Rattle.mg_loopback.proofs.Streams.{told_extended}
use Rattle.mg_loopback.proofs.laws.the_stream_extends_what_is_told.Goals as goal

pub returns : goal.returns
returns c = λ k held main loop h. told_extended k held main loop h
