use Rattle.std.proofs.Common.{[], ◌∷◌, ◌*◌}
use Rattle.mg_turns.proofs.Gives.{has_turn_of, claim_ok}
use Rattle.mg_turns.proofs.shared.SharedNet.give_claim.Goals as goal

pub give_noting-requires-clause-turn : goal.give_noting-requires-clause-turn
give_noting-requires-clause-turn g c = let g = c.requires.gives in has_turn_of c.args.seat.now.me (2 * c.args.node) c.args.held.part g.t (g.u ∷ []) g.gives

pub give_noting-requires-clause-out : goal.give_noting-requires-clause-out
give_noting-requires-clause-out g c = let g = c.requires.gives in g.gives.slot

pub give_noting-requires-clause-part : goal.give_noting-requires-clause-part
give_noting-requires-clause-part g c = let g = c.requires.gives in g.gives.follows

pub give_noting-requires-clause-after : goal.give_noting-requires-clause-after
give_noting-requires-clause-after g c = claim_ok c.args.seat.now.me c.args.node c.args.held.part c.args.engine.now _ c.requires.gives
