use Rattle.std.proofs.Common.{◌≡◌, length, ap, rules}
use Rattle.mg_feed.specs.View.{View}
use Rattle.mg_feed.specs.Seen.{input_buffer}
use Rattle.mg_feed.proofs.Making.{made-at}
use Rattle.mg_feed.proofs.input_buffer.InputBuffer.make_packet.Goals as goal

pub returns-clause-streams : goal.returns-clause-streams
returns-clause-streams c =
    let number : c.len-count.result ≡ length c.args.self.now.graph.kinds.items = search rules in
    made-at c.args.self.now.graph.kinds.items c.args.i c.from-number.result c.len-count.result c.kind.result c.in_ok-packet.packet
    (input_buffer c.args.self.now).given.streams (input_buffer c.append.new.self).given.streams
    c.from-number.ensures number c.kind.ensures c.in_ok-packet.ensures (ap (λ (v : View). v.given.streams) c.in_ok-append.ensures.good)
