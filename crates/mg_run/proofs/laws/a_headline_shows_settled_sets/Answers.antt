use Rattle.mg_run.specs.Headline.{bare, job_from}
use Rattle.mg_run.proofs.SolutionLaws.{sets_ascend, sets_below, sets_settled}
use Rattle.mg_run.proofs.laws.a_headline_shows_settled_sets.Goals as goal

pub returns-clause-ascend : goal.returns-clause-ascend
returns-clause-ascend c = λ laws invocation status devices h node. sets_ascend (job_from laws (bare h.plan) h.from) h.run.streams node h.run.is_job h.run.solution

pub returns-clause-bounds : goal.returns-clause-bounds
returns-clause-bounds c = λ laws invocation status devices h node. sets_below (job_from laws (bare h.plan) h.from) h.run.streams node h.run.is_job h.run.solution

pub returns-clause-stay : goal.returns-clause-stay
returns-clause-stay c = λ laws invocation status devices h node further e. sets_settled (job_from laws (bare h.plan) h.from) h.run.streams further node e
