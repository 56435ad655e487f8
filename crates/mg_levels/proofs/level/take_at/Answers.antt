use Rattle.mg_levels.proofs.Shares.{takes, learns}
use Rattle.mg_levels.proofs.level.take_at.Goals as goal

pub pop_as-requires-clause-rule : goal.pop_as-requires-clause-rule
pop_as-requires-clause-rule g c = (takes _ _ c.requires.portion, learns _ _)
