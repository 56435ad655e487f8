use Rattle.mg_turns.specs.Calls.{key_of}
use Rattle.mg_turns.proofs.Giving.{taken_cell, raise_gives}
use Rattle.mg_turns.proofs.shared.SharedNet.raise_cell.Goals as goal

pub advance-moved-requires : goal.advance-moved-requires
advance-moved-requires g c = rw (c.deref_mut.ensures.value, c.deref.ensures) (record { cell = taken_cell (key_of c.args.self.now) c.args.seat.now.seat.me c.args.node c.in-Ok.cell.engine.value c.in-Ok.cell.engine_word c.in-Ok.cell.laid c.in-Ok.cell.intake.value c.in-Ok.cell.intake_word c.take_cell.new.seat.me c.requires.of.1 c.args.seat.now.idle.1 c.in-Ok.ensures.taken c.requires.some })

pub give_cell-requires-clause-words : goal.give_cell-requires-clause-words
give_cell-requires-clause-words g c =
    let l = c.advance-moved.ensures in let e = c.deref_mut.ensures.value in let i = c.deref.ensures in
    (raise_gives (key_of c.args.self.now) c.args.seat.now.seat.me c.args.node c.in-Ok.cell.engine.value c.in-Ok.cell.engine_word c.in-Ok.cell.laid c.in-Ok.cell.intake.value c.in-Ok.cell.intake_word c.take_cell.new.seat.me c.requires.of.1 c.args.seat.now.idle.1 c.in-Ok.ensures.taken c.requires.some {X = g.row.C.Denot} c.advance-moved.new.self (rw (e, i) at l.advanced) (rw e at l.grows) (rw (e, i) at l.lawful)).words

pub give_cell-requires-clause-gives : goal.give_cell-requires-clause-gives
give_cell-requires-clause-gives g c =
    let l = c.advance-moved.ensures in let e = c.deref_mut.ensures.value in let i = c.deref.ensures in
    (raise_gives (key_of c.args.self.now) c.args.seat.now.seat.me c.args.node c.in-Ok.cell.engine.value c.in-Ok.cell.engine_word c.in-Ok.cell.laid c.in-Ok.cell.intake.value c.in-Ok.cell.intake_word c.take_cell.new.seat.me c.requires.of.1 c.args.seat.now.idle.1 c.in-Ok.ensures.taken c.requires.some {X = g.row.C.Denot} c.advance-moved.new.self (rw (e, i) at l.advanced) (rw e at l.grows) (rw (e, i) at l.lawful)).gives

pub give_cell-requires-clause-follows : goal.give_cell-requires-clause-follows
give_cell-requires-clause-follows g c =
    let l = c.advance-moved.ensures in let e = c.deref_mut.ensures.value in let i = c.deref.ensures in
    (raise_gives (key_of c.args.self.now) c.args.seat.now.seat.me c.args.node c.in-Ok.cell.engine.value c.in-Ok.cell.engine_word c.in-Ok.cell.laid c.in-Ok.cell.intake.value c.in-Ok.cell.intake_word c.take_cell.new.seat.me c.requires.of.1 c.args.seat.now.idle.1 c.in-Ok.ensures.taken c.requires.some {X = g.row.C.Denot} c.advance-moved.new.self (rw (e, i) at l.advanced) (rw e at l.grows) (rw (e, i) at l.lawful)).follows
