use Rattle.mg_free.specs.Core.{split_of}
use Rattle.mg_free.specs.Rounds.{core_job}
use Rattle.mg_free.specs.Turns.{last_batch}
use Rattle.mg_run.specs.Headline.{bare}
use Rattle.mg_run.proofs.SolutionLaws.{sets_ascend, sets_below, sets_settled}
use Rattle.mg_run.proofs.laws.a_live_headline_shows_settled_sets.Goals as goal

pub returns-clause-ascend : goal.returns-clause-ascend
returns-clause-ascend c = λ laws invocation status devices h node. sets_ascend (core_job laws (split_of (bare h.plan)) (last_batch h.first h.later) h.run.comes.takens) h.run.comes.streams node h.run.is_job h.run.comes.solution

pub returns-clause-bounds : goal.returns-clause-bounds
returns-clause-bounds c = λ laws invocation status devices h node. sets_below (core_job laws (split_of (bare h.plan)) (last_batch h.first h.later) h.run.comes.takens) h.run.comes.streams node h.run.is_job h.run.comes.solution

pub returns-clause-stay : goal.returns-clause-stay
returns-clause-stay c = λ laws invocation status devices h node further e. sets_settled (core_job laws (split_of (bare h.plan)) (last_batch h.first h.later) h.run.comes.takens) h.run.comes.streams further node e
