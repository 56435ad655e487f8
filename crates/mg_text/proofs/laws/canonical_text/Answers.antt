use Rattle.mg_text.proofs.Printing.{canonical_given}
use Rattle.mg_text.proofs.laws.canonical_text.Goals as goal

pub returns : goal.returns
returns c = canonical_given
