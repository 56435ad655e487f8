use Rattle.mg_answer.proofs.Writing.{front-on}
use Rattle.mg_answer.proofs.laws.the_front_of_the_text.Goals as goal

pub returns : goal.returns
returns c = λ sink text longer begins took. front-on sink text longer begins took
