use Rattle.mg_files.proofs.Texts.{said_again}
use Rattle.mg_files.proofs.laws.texts_say_their_graph.Goals as goal

pub returns : goal.returns
returns c = said_again
