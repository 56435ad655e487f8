use Rattle.mg_calc.proofs.Independence.{solution_independent}
use Rattle.mg_calc.proofs.laws.streams_depend_on_what_reaches_them.Goals as goal

pub returns : goal.returns
returns c = λ plan laws inputs others solution changed stream is other sides le same a b. solution_independent plan inputs others solution changed stream is other sides le same a b
