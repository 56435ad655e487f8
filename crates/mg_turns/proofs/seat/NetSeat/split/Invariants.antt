use Rattle.mg_turns.proofs.seat.NetSeat.split.Given as goal

abbrev pub ghosts-cut : goal.ghosts-cut
ghosts-cut g a = record { amount = a._portion }
