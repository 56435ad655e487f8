use Rattle.std.proofs.Common.{◌∙◌, ◌++◌, ap, map}
use Rattle.std.proofs.lemmas.Result.{on_ok_weaker}
use Rattle.mg_feed.specs.Output.{packet_data}
use Rattle.mg_trace.specs.Code.{data_text}
use Rattle.mg_trace.proofs.Texts.{stream_pieces}
use Rattle.mg_trace.proofs.job_text.push_stream.Goals as goal

pub returns-else-ended : goal.returns-else-ended
returns-else-ended c =
    let packets = c.in_ok-push_packets.ensures ∙ ap (λ l. c.args.text.now.items ++ data_text (map (packet_data c.args.name.now) l)) (c.as_slice.ensures ∙ ap (λ s. s.packets) c.stream.view_is) in
    on_ok_weaker c.push_stream_end.result
    (λ end. stream_pieces c.args.ended c.args.name.now c.args.stream.now c.args.text.now.items c.push_packets.new.text.items c.push_stream_end.new.text.items c.if-ended.false packets end)
    c.push_stream_end.ensures
