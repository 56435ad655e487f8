use Rattle.std.proofs.Common.{refl, arith}
use Rattle.mg_feed.specs.Seen.{input_buffer}
use Rattle.mg_feed.specs.Pieces.{Making}
use Rattle.mg_feed.specs.GeneratorSeen.{making}
use Rattle.mg_feed.proofs.PiecesMade.{next-piece, handed-on}
use Rattle.mg_feed.proofs.generator.Generator.next_piece.Goals as goal

pub returns-clause-piece : goal.returns-clause-piece
returns-clause-piece c = λ graph number has.
    let mid : Making = record { view = input_buffer c.make_packets.new.self; number = c.args.self.now.number; made = c.further_by-now.result } in
    next-piece graph number (making c.args.self.now) mid (record { view = input_buffer c.take_inputs.new.self; number = c.args.self.now.number; made = c.further_by-now.result }) c.in_ok-inputs.inputs has
    (record { made = c.in_ok-make_packets.ensures.made; sides = c.in_ok-make_packets.ensures.sides; graph = c.make_packets.ensures.graph })
    c.in_ok-inputs.ensures.streams c.in_ok-inputs.ensures.sides c.in_ok-inputs.ensures.ended

pub returns-clause-handed_on : goal.returns-clause-handed_on
returns-clause-handed_on c = λ graph number has.
    let mid : Making = record { view = input_buffer c.make_packets.new.self; number = c.args.self.now.number; made = c.further_by-now.result } in
    handed-on graph number (making c.args.self.now) mid (record { view = input_buffer c.take_inputs.new.self; number = c.args.self.now.number; made = c.further_by-now.result }) has
    (record { made = c.in_ok-make_packets.ensures.made; sides = c.in_ok-make_packets.ensures.sides; graph = c.make_packets.ensures.graph })
    refl (omega (arith, c.further_by-now.ensures)) c.in_ok-inputs.ensures.taken
