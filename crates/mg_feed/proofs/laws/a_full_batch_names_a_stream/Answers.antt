use Rattle.mg_feed.proofs.Growing.{naming-names}
use Rattle.mg_feed.proofs.laws.a_full_batch_names_a_stream.Goals as goal

pub returns : goal.returns
returns c = λ graph lines taken some. naming-names graph lines taken some
