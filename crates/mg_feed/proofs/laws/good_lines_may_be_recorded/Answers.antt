use Rattle.std.proofs.Common.{[]}
use Rattle.mg_feed.proofs.Recording.{all-recorded}
use Rattle.mg_feed.proofs.laws.good_lines_may_be_recorded.Goals as goal

pub returns : goal.returns
returns c = λ graph lines good. all-recorded graph [] lines good
