use Rattle.mg_text.proofs.Faults.{one_text}
use Rattle.mg_text.proofs.laws.one_tree.Goals as goal

pub returns : goal.returns
returns c = one_text
