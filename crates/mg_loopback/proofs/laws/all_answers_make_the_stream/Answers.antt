use Rattle.mg_loopback.proofs.Standing.{all_told, told_stream}
use Rattle.mg_loopback.proofs.Streams.{each_answered, stream_ends}
use Rattle.mg_loopback.proofs.laws.all_answers_make_the_stream.Goals as goal

pub returns-clause-all : goal.returns-clause-all
returns-clause-all c = λ k held main loop h none. all_told k held main loop h none

pub returns-clause-stream : goal.returns-clause-stream
returns-clause-stream c = λ k held main loop h none. told_stream k main loop (all_told k held main loop h none)

pub returns-clause-each : goal.returns-clause-each
returns-clause-each c = λ k held main loop h none. each_answered k held main loop h none

pub returns-clause-end : goal.returns-clause-end
returns-clause-end c = λ k held main loop h none end. stream_ends k held main loop h none end
