use Rattle.mg_turns.specs.Code.Plays.{laid_view}
use Rattle.mg_turns.proofs.shared.SharedNet.give_laid.Given as goal

abbrev pub ghosts-give_back : goal.ghosts-give_back
ghosts-give_back g a = record { after = laid_view a.seat.now.me.0 a.word a.held.part }
