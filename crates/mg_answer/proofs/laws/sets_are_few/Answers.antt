use Rattle.mg_answer.proofs.Generating.{sets-few}
use Rattle.mg_answer.proofs.laws.sets_are_few.Goals as goal

pub returns : goal.returns
returns c = λ job streams is solution. sets-few job streams is solution
