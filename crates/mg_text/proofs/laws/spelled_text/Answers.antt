use Rattle.mg_text.proofs.Printing.{text_spelled}
use Rattle.mg_text.proofs.laws.spelled_text.Goals as goal

pub returns : goal.returns
returns c = text_spelled
