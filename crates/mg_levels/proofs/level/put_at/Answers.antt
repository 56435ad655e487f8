use Rattle.mg_levels.proofs.Shares.{puts, learns}
use Rattle.mg_levels.proofs.level.put_at.Goals as goal

pub push_as-requires-clause-rule : goal.push_as-requires-clause-rule
push_as-requires-clause-rule g c = (puts _ _ _ _ c.requires.portion, learns _ _)
