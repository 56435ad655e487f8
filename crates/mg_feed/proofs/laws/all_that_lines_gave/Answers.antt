use Rattle.mg_feed.proofs.Holding.{given-untaken}
use Rattle.mg_feed.proofs.laws.all_that_lines_gave.Goals as goal

pub returns : goal.returns
returns c = λ lines v stands. given-untaken lines v stands
