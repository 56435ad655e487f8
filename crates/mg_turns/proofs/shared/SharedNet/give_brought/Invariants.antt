use Rattle.mg_turns.specs.Code.Plays.{gave}
use Rattle.mg_turns.proofs.shared.SharedNet.give_brought.Given as goal

abbrev pub ghosts-give_back : goal.ghosts-give_back
ghosts-give_back g a = record { after = gave a.seat.now.me.0 a.word a.held.part }
