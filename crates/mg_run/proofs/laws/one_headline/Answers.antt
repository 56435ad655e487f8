use Rattle.mg_run.proofs.Headlines.{one_headline}
use Rattle.mg_run.proofs.laws.one_headline.Goals as goal

pub returns : goal.returns
returns c = one_headline
