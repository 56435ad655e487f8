use Rattle.std.proofs.Common.{arith}
use Rattle.mg_turns.specs.Calls.{key_of}
use Rattle.mg_turns.proofs.Cells.{takes_cell}
use Rattle.mg_turns.proofs.shared.SharedNet.take_cell.Goals as goal

pub returns-clause-taken : goal.returns-clause-taken
returns-clause-taken g c =
    let pair = c.in_ok-pair.pair in
    rw (c.into_cell.ensures.words.0, c.into_cell.ensures.words.1)
    (takes_cell c.args.seat.now.me c.take_pair.new.seat.me (key_of c.args.self.now) c.args.node pair.engine.part pair.intake.part pair.engine.word pair.intake.word _ _ _ c.requires.of.1
    (omega (arith, c.requires.node, c.args.self.now.laid_out.0)) c.in_ok-pair.ensures.taken c.into_cell.ensures.engine c.into_cell.ensures.intake c.into_cell.ensures.words.2)
