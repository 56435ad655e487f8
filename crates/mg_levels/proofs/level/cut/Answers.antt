use Rattle.std.proofs.Common.{rules}
use Rattle.mg_levels.proofs.Shares.{forks}
use Rattle.mg_levels.proofs.level.cut.Goals as goal

pub another-requires-clause-rule : goal.another-requires-clause-rule
another-requires-clause-rule g c = forks _ g.N.Amount.amount _ (search rules) (search rules)
