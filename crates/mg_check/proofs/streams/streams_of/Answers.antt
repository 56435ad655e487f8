use Rattle.std.proofs.Common.{◌∙◌, sym}
use Rattle.mg_check.specs.Code.Streams.{streams_of as by_parts}
use Rattle.mg_check.proofs.Shown.{one_stream_more}
use Rattle.mg_check.proofs.streams.streams_of.Goals as goal

pub loop-place-preserved : goal.loop-place-preserved
loop-place-preserved c =
    one_stream_more c.push.new.self.items c.loop-place.streams.items (by_parts c.args.names.now c.args.mets.now c.args.writers.now) c.loop-place.place c.in-Some.stream
    c.in_ok-push.ensures.items (sym c.in-Some.is ∙ c.in_ok-stream.ensures) c.loop-place.invariant
