use Rattle.mg_trace.proofs.Texts.{streams-step}
use Rattle.mg_trace.proofs.job_text.push_streams.Goals as goal

pub loop-place-preserved : goal.loop-place-preserved
loop-place-preserved c =
    streams-step c.args.ended c.args.text.now.items c.loop-place.text.items c.push_stream.new.text.items c.args.names.now c.args.streams.now c.loop-place.place
    c.index-names-place.result c.in-Some.stream.now c.loop-place-test.true c.index-names-place.is c.in-Some.ensures.lookup.3.0 c.in-Some.ensures.lookup.1 c.loop-place.invariant
    c.in_ok-push_stream-in-Some.ensures
