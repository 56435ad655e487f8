use Rattle.mg_calc.proofs.Jobs.{solution_grows}
use Rattle.mg_calc.proofs.laws.the_solution_grows.Goals as goal

pub returns : goal.returns
returns c = λ plan laws inputs more solution later is other sides e a b. solution_grows plan inputs more solution later is other sides e a b
