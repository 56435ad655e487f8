use Rattle.mg_turns.proofs.Cells.{engine_again}
use Rattle.mg_turns.proofs.shared.SharedNet.give_cell.Goals as goal

pub give_plain-requires-clause-gives : goal.give_plain-requires-clause-gives
give_plain-requires-clause-gives g c = rw c.of_engine-engine.ensures (engine_again c.args.seat.now.me c.give_claim.new.seat.me c.args.node _ _ _ c.requires.gives c.requires.slots c.requires.follows
    (rw (c.of_engine-engine.ensures, c.of_intake.ensures) at c.give_claim.ensures.gave))
