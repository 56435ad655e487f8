use Rattle.std.proofs.Common.{[]}
use Rattle.mg_feed.proofs.Accepting.{good-accepted}
use Rattle.mg_feed.proofs.laws.accepted_lines_are_good.Goals as goal

pub returns : goal.returns
returns c = λ graph lines. good-accepted graph [] lines
