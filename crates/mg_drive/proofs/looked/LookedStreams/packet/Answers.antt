use Rattle.mg_drive.proofs.Looking.{some_stands, packet_seen}
use Rattle.mg_drive.proofs.looked.LookedStreams.packet.Goals as goal

pub packet-requires : goal.packet-requires
packet-requires g c = record { stands = some_stands (g.N.Driven.net c.args.self.now.net.now) c.requires.streams.0 c.requires.streams.1 }

pub returns : goal.returns
returns g c = λ streams are. packet_seen (g.N.Driven.net c.args.self.now.net.now) streams c.args.stream c.args.number _ are c.requires.there c.packet.ensures.packet c.packet.ensures.past
