use Rattle.mg_levels.proofs.level.cut_at.Given as goal

abbrev pub ghosts-cut : goal.ghosts-cut
ghosts-cut a = record { amount = a._portion }
