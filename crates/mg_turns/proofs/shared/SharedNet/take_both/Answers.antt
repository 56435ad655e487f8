use Rattle.std.proofs.Common.{rules}
use Rattle.mg_turns.proofs.Cells.{after_miss}
use Rattle.mg_turns.proofs.shared.SharedNet.take_both.Goals as goal

pub give_plain-requires-clause-gives : goal.give_plain-requires-clause-gives
give_plain-requires-clause-gives g c = after_miss c.args.seat.now.me c.take.new.seat.me c.args.engine c.in-Some.first.part c.in-Some.ensures.taken c.take-2.new.seat.me c.args.intake (search rules)
