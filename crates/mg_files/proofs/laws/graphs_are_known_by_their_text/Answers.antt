use Rattle.mg_files.proofs.Texts.{known_by_text}
use Rattle.mg_files.proofs.laws.graphs_are_known_by_their_text.Goals as goal

pub returns : goal.returns
returns c = known_by_text
