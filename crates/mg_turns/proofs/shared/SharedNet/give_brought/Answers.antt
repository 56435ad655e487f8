use Rattle.std.proofs.Common.{[], ◌∷◌}
use Rattle.mg_turns.proofs.Gives.{has_turn_of, brought_ok}
use Rattle.mg_turns.proofs.shared.SharedNet.give_brought.Goals as goal

pub give_back-requires-clause-turn : goal.give_back-requires-clause-turn
give_back-requires-clause-turn g c = let g = c.requires.gives in has_turn_of c.args.seat.now.me c.args.word c.args.held.part g.t (g.u ∷ []) g.gives

pub give_back-requires-clause-out : goal.give_back-requires-clause-out
give_back-requires-clause-out g c = let g = c.requires.gives in g.gives.slot

pub give_back-requires-clause-part : goal.give_back-requires-clause-part
give_back-requires-clause-part g c = let g = c.requires.gives in g.gives.follows

pub give_back-requires-clause-after : goal.give_back-requires-clause-after
give_back-requires-clause-after g c = brought_ok c.args.seat.now.me c.args.word c.args.held.part c.requires.gives
