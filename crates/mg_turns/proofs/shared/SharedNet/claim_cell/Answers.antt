use Rattle.mg_turns.proofs.Claims.{lawful_claim}
use Rattle.mg_turns.proofs.Cells.{cell_parts}
use Rattle.mg_turns.specs.Parts.{an_engine, an_intake}
use Rattle.mg_turns.specs.Calls.{key_of}
use Rattle.mg_turns.proofs.Giving.{taken_cell, claim_gives}
use Rattle.mg_turns.proofs.shared.SharedNet.claim_cell.Goals as goal

pub claim-claimed-requires : goal.claim-claimed-requires
claim-claimed-requires g c = rw (c.deref_mut.ensures.value, c.deref_mut-2.ensures.value) (record { cell = taken_cell (key_of c.args.self.now) c.args.seat.now.seat.me c.args.node c.in-Ok.cell.engine.value c.in-Ok.cell.engine_word c.in-Ok.cell.laid c.in-Ok.cell.intake.value c.in-Ok.cell.intake_word c.take_cell.new.seat.me c.requires.of.1 c.args.seat.now.idle.1 c.in-Ok.ensures.taken c.requires.some })

pub give_cell-requires-clause-words : goal.give_cell-requires-clause-words
give_cell-requires-clause-words g c =
    let l = c.claim-claimed.ensures in let e = c.deref_mut.ensures.value in let i = c.deref_mut-2.ensures.value in
    (claim_gives (key_of c.args.self.now) c.args.seat.now.seat.me c.args.node c.in-Ok.cell.engine.value c.in-Ok.cell.engine_word c.in-Ok.cell.laid c.in-Ok.cell.intake.value c.in-Ok.cell.intake_word c.take_cell.new.seat.me c.requires.of.1 c.args.seat.now.idle.1 c.in-Ok.ensures.taken c.requires.some c.claim-claimed.result c.claim-claimed.new.self c.claim-claimed.new.intake c.requires.free (rw (e, i) at l.claims) l.out (rw e at l.grows) (rw i at l.intake_grows) (rw (e, i) at l.lawful)).words

pub give_cell-requires-clause-gives : goal.give_cell-requires-clause-gives
give_cell-requires-clause-gives g c =
    let l = c.claim-claimed.ensures in let e = c.deref_mut.ensures.value in let i = c.deref_mut-2.ensures.value in
    (claim_gives (key_of c.args.self.now) c.args.seat.now.seat.me c.args.node c.in-Ok.cell.engine.value c.in-Ok.cell.engine_word c.in-Ok.cell.laid c.in-Ok.cell.intake.value c.in-Ok.cell.intake_word c.take_cell.new.seat.me c.requires.of.1 c.args.seat.now.idle.1 c.in-Ok.ensures.taken c.requires.some c.claim-claimed.result c.claim-claimed.new.self c.claim-claimed.new.intake c.requires.free (rw (e, i) at l.claims) l.out (rw e at l.grows) (rw i at l.intake_grows) (rw (e, i) at l.lawful)).gives

pub give_cell-requires-clause-follows : goal.give_cell-requires-clause-follows
give_cell-requires-clause-follows g c =
    let l = c.claim-claimed.ensures in let e = c.deref_mut.ensures.value in let i = c.deref_mut-2.ensures.value in
    (claim_gives (key_of c.args.self.now) c.args.seat.now.seat.me c.args.node c.in-Ok.cell.engine.value c.in-Ok.cell.engine_word c.in-Ok.cell.laid c.in-Ok.cell.intake.value c.in-Ok.cell.intake_word c.take_cell.new.seat.me c.requires.of.1 c.args.seat.now.idle.1 c.in-Ok.ensures.taken c.requires.some c.claim-claimed.result c.claim-claimed.new.self c.claim-claimed.new.intake c.requires.free (rw (e, i) at l.claims) l.out (rw e at l.grows) (rw i at l.intake_grows) (rw (e, i) at l.lawful)).follows

pub returns-clause-lawful : goal.returns-clause-lawful
returns-clause-lawful g c =
    let l = c.claim-claimed.ensures in let e = c.deref_mut.ensures.value in let i = c.deref_mut-2.ensures.value in
    λ job fits. lawful_claim (key_of c.args.self.now) c.args.node (an_engine c.in-Ok.cell.engine.value) (an_intake c.in-Ok.cell.intake.value) c.in-Ok.cell.engine.value c.claim-claimed.new.self c.in-Ok.cell.intake.value c.claim-claimed.new.intake c.claim-claimed.result
    (cell_parts (key_of c.args.self.now) c.args.seat.now.seat.me c.args.node c.in-Ok.cell.engine.value c.in-Ok.cell.engine_word c.in-Ok.cell.laid c.in-Ok.cell.intake.value c.in-Ok.cell.intake_word c.take_cell.new.seat.me c.requires.of.1 c.args.seat.now.idle.1 c.in-Ok.ensures.taken) job fits (rw (e, i) at l.lawful)
