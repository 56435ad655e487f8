use Rattle.mg_files.proofs.Together.{one-reading}
use Rattle.mg_files.proofs.laws.one_reading.Goals as goal

pub returns : goal.returns
returns c = one-reading
