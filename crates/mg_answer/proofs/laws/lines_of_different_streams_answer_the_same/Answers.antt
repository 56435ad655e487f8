use Rattle.mg_answer.proofs.ChangedPlaces.{same_answer}
use Rattle.mg_answer.proofs.laws.lines_of_different_streams_answer_the_same.Goals as goal

pub returns : goal.returns
returns c = same_answer
