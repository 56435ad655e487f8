use Rattle.std.proofs.Common.{refl, sym}
use Rattle.mg_replay.proofs.PacketLines.{no_word, a_word, takes_line}
use Rattle.mg_replay.proofs.opening.take_line.Goals as goal

pub returns-in-Some : goal.returns-in-Some
returns-in-Some c = (a_word c.args.line.now c.in-Some.ended (sym c.in-Some.ensures), refl)

pub returns-in_ok-opened-in-None : goal.returns-in_ok-opened-in-None
returns-in_ok-opened-in-None c = takes_line c.in_ok-opened-in-None.opened c.args.line.now c.args.number _ _ (no_word c.args.line.now (sym c.in-None.ensures)) c.in_ok-opened-in-None.ensures
