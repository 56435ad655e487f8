use Rattle.mg_node.proofs.LaidAndCame.{intake_has_reached}
use Rattle.mg_node.proofs.laws.what_came_is_of_the_solution.Goals as goal

pub returns : goal.returns
returns c = λ laws. intake_has_reached
