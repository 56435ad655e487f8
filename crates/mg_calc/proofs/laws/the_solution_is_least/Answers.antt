use Rattle.std.proofs.lemmas.List.Elements.{recursion_from_All}
use Rattle.mg_settled.specs.Prefix.{IsPrefix}
use Rattle.mg_calc.proofs.Solutions.{solution_is_least, one_solution}
use Rattle.mg_calc.proofs.Jobs.{job_known}
use Rattle.mg_calc.proofs.laws.the_solution_is_least.Goals as goal

pub returns-clause-least : goal.returns-clause-least
returns-clause-least c = λ job solution streams is a k meets. solution_is_least job (job_known job is) solution streams a (recursion_from_All IsPrefix streams k) meets

pub returns-clause-one : goal.returns-clause-one
returns-clause-one c = λ job solution other a b. one_solution job solution other a b
