use Rattle.mg_turns.proofs.Gives.{has_turn_of, plain_ok}
use Rattle.mg_turns.proofs.shared.SharedNet.give_plain.Goals as goal

pub give_back-requires-clause-turn : goal.give_back-requires-clause-turn
give_back-requires-clause-turn g c = let g = c.requires.gives in has_turn_of c.args.seat.now.me c.args.word c.args.held.part g.0 g.1 g.2

pub give_back-requires-clause-out : goal.give_back-requires-clause-out
give_back-requires-clause-out g c = let g = c.requires.gives in g.2.slot

pub give_back-requires-clause-part : goal.give_back-requires-clause-part
give_back-requires-clause-part g c = let g = c.requires.gives in g.2.follows

pub give_back-requires-clause-after : goal.give_back-requires-clause-after
give_back-requires-clause-after g c = plain_ok c.args.seat.now.me c.args.word c.args.held.part c.requires.gives
