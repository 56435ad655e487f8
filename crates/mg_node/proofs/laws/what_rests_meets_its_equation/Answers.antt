use Rattle.mg_node.proofs.Resting.{meets_its_equation}
use Rattle.mg_node.proofs.laws.what_rests_meets_its_equation.Goals as goal

pub returns : goal.returns
returns c = λ laws. meets_its_equation
