use Rattle.mg_levels.proofs.Shares.{merges}
use Rattle.mg_levels.proofs.level.join_at.Goals as goal

pub absorb-requires-clause-rule : goal.absorb-requires-clause-rule
absorb-requires-clause-rule c = merges _ _ _ _ c.requires.portions.0
