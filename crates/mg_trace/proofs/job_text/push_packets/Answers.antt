use Rattle.std.proofs.Common.{◌∙◌, ◌++◌, ap}
use Rattle.mg_feed.specs.Output.{line_text}
use Rattle.mg_trace.proofs.Texts.{packets-step}
use Rattle.mg_trace.proofs.job_text.push_packets.Goals as goal

pub loop-packet-preserved : goal.loop-packet-preserved
loop-packet-preserved c =
    packets-step c.args.name.now c.args.text.now.items c.loop-packet.text.items c.push_line.new.text.items c.args.packets.now c.loop-packet.packet-index c.packet-item.result
    c.loop-packet-test.true c.packet-item.is c.loop-packet.invariant
    (c.in_ok-push_line.ensures.line ∙ ap (λ n. c.loop-packet.text.items ++ line_text n c.packet-item.result) c.in_ok-writer.ensures)
