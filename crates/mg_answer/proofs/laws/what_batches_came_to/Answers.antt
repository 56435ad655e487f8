use Rattle.mg_answer.proofs.Gathering.{came-by}
use Rattle.mg_answer.proofs.laws.what_batches_came_to.Goals as goal

pub returns : goal.returns
returns c = λ graph input came lines end ended gave ends met failed some once. came-by graph input came lines end ended gave ends met failed some once
