use Rattle.mg_run.specs.Headline.{bare, job_from}
use Rattle.mg_run.proofs.SolutionLaws.{solution_prefixes, solution_first}
use Rattle.mg_run.proofs.laws.a_headline_has_the_least_solution.Goals as goal

pub returns-clause-prefixes : goal.returns-clause-prefixes
returns-clause-prefixes c = λ laws invocation status devices h. solution_prefixes (job_from laws (bare h.plan) h.from) h.run.streams h.run.is_job h.run.solution

pub returns-clause-meets : goal.returns-clause-meets
returns-clause-meets c = λ laws invocation status devices h. h.run.solution.meets

pub returns-clause-least : goal.returns-clause-least
returns-clause-least c = λ laws invocation status devices h others prefixes meets. solution_first (job_from laws (bare h.plan) h.from) h.run.streams others h.run.is_job h.run.solution prefixes meets
