use Rattle.std.proofs.Common.{rules, sym}
use Rattle.mg_turns.proofs.Apart.{tries_apart, tried_word}
use Rattle.mg_turns.proofs.shared.SharedNet.try_turn.Goals as goal

pub fetch_or-found-requires : goal.fetch_or-found-requires
fetch_or-found-requires g c = rw c.place.ensures (search rules, search rules, tries_apart _ _ _ _ _ (search rules) (search rules) (search rules))

pub returns-clause-taken : goal.returns-clause-taken
returns-clause-taken g c = (tried_word {laws = g.C.NodeCalculator.laws} c.args.word c.args.seat.now.me _ _ (rw (sym c.place.ensures) c.fetch_or-found.ensures.2)).0

pub returns-clause-missed : goal.returns-clause-missed
returns-clause-missed g c = (tried_word {laws = g.C.NodeCalculator.laws} c.args.word c.args.seat.now.me _ _ (rw (sym c.place.ensures) c.fetch_or-found.ensures.2)).1
