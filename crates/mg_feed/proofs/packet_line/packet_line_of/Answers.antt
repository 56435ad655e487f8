use Rattle.std.proofs.Common.{ap, ◌∙◌, subst}
use Rattle.json.specs.Lex.{tokens}
use Rattle.serde_json.specs.View.{view}
use Rattle.mg_feed.specs.Code.PacketLines.{IsPacketLine}
use Rattle.mg_feed.proofs.PacketLines.{form-packet_line}
use Rattle.mg_feed.proofs.packet_line.packet_line_of.Goals as goal

pub returns : goal.returns
returns c =
    let f = c.in_ok-packet_line.packet_line in
    form-packet_line c.args.text.now f.stream.now (view f.time) (view f.value) c.in-Ok.ensures.cases.1
    (subst (λ ts. IsPacketLine ts f.stream.now (view f.time) (view f.value)) (c.in-Ok-new.ensures.ok ∙ ap tokens c.in-Ok.ensures.cases.0) c.in_ok-packet_line.ensures)
