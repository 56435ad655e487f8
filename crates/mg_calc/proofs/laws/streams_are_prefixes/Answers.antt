use Rattle.std.proofs.lemmas.List.Elements.{All-from_recursion}
use Rattle.mg_settled.specs.Prefix.{IsPrefix}
use Rattle.mg_calc.specs.Equations.{round}
use Rattle.mg_calc.proofs.Solutions.{round_keeps, rounds_ascend, solution_keeps, solution_has_each}
use Rattle.mg_calc.proofs.Jobs.{job_known}
use Rattle.mg_calc.proofs.laws.streams_are_prefixes.Goals as goal

pub returns-clause-round : goal.returns-clause-round
returns-clause-round c = λ job n is. All-from_recursion IsPrefix (round job n) (round_keeps job (job_known job is) n)

pub returns-clause-rises : goal.returns-clause-rises
returns-clause-rises c = λ job n is. rounds_ascend job (job_known job is) n

pub returns-clause-solution : goal.returns-clause-solution
returns-clause-solution c = λ job solution is a. All-from_recursion IsPrefix solution (solution_keeps job (job_known job is) solution a)

pub returns-clause-each : goal.returns-clause-each
returns-clause-each c = λ job solution is a. solution_has_each job (job_known job is) solution a
