use Rattle.std.proofs.Common.{rules, sym}
use Rattle.mg_turns.proofs.Apart.{looks_apart, looked_word, what_was_seen}
use Rattle.mg_turns.proofs.shared.SharedNet.is_held.Goals as goal

pub load-found-requires : goal.load-found-requires
load-found-requires g c = rw c.place.ensures (search rules, search rules, looks_apart _ _ _ _ _ (search rules) (search rules))

pub returns-clause-held : goal.returns-clause-held
returns-clause-held g c = what_was_seen c.args.word c.args.seat.now.me c.load-found.new.seat.me _ (looked_word c.args.word c.args.seat.now.me _ _ (rw (sym c.place.ensures) c.load-found.ensures.2))
