use Rattle.mg_free.specs.Core.{split_of}
use Rattle.mg_free.specs.Rounds.{core_job}
use Rattle.mg_free.specs.Turns.{last_batch}
use Rattle.mg_run.specs.Headline.{bare}
use Rattle.mg_run.proofs.SolutionLaws.{solution_prefixes, solution_first}
use Rattle.mg_run.proofs.laws.a_live_headline_has_the_least_solution.Goals as goal

pub returns-clause-prefixes : goal.returns-clause-prefixes
returns-clause-prefixes c = λ laws invocation status devices h. solution_prefixes (core_job laws (split_of (bare h.plan)) (last_batch h.first h.later) h.run.comes.takens) h.run.comes.streams h.run.is_job h.run.comes.solution

pub returns-clause-meets : goal.returns-clause-meets
returns-clause-meets c = λ laws invocation status devices h. h.run.comes.solution.meets

pub returns-clause-least : goal.returns-clause-least
returns-clause-least c = λ laws invocation status devices h others prefixes meets. solution_first (core_job laws (split_of (bare h.plan)) (last_batch h.first h.later) h.run.comes.takens) h.run.comes.streams others h.run.is_job h.run.comes.solution prefixes meets
