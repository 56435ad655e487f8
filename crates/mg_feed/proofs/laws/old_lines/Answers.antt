use Rattle.std.proofs.Common.{refl, []}
use Rattle.mg_feed.proofs.OldLines.{lines-good, lines-same}
use Rattle.mg_feed.proofs.laws.old_lines.Goals as goal

pub returns-clause-good : goal.returns-clause-good
returns-clause-good c = λ graph lines good. lines-good graph [] lines refl good

pub returns-clause-same : goal.returns-clause-same
returns-clause-same c = λ graph lines good. lines-same graph [] lines refl good
