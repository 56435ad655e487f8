use Rattle.mg_run.proofs.LiveHeadlines.{one_live_headline}
use Rattle.mg_run.proofs.laws.one_live_headline.Goals as goal

pub returns : goal.returns
returns c = one_live_headline
