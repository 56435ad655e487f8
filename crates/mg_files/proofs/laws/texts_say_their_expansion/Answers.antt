use Rattle.mg_files.proofs.Texts.{expanded_again}
use Rattle.mg_files.proofs.laws.texts_say_their_expansion.Goals as goal

pub returns : goal.returns
returns c = expanded_again
