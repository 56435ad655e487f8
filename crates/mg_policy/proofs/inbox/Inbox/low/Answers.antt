use Rattle.std.proofs.Common.{◌∙◌, ap}
use Rattle.mg_settled.specs.Settled.{reach}
use Rattle.mg_stream.specs.Pool.{queues_of}
use Rattle.mg_policy.specs.Inbox.{Gathered, rests}
use Rattle.mg_policy.proofs.Standing.{what_is_the_reach}
use Rattle.mg_policy.proofs.inbox.Inbox.low.Goals as goal

pub returns-clause-whole : goal.returns-clause-whole
returns-clause-whole c = λ k ss stand.
    let now = c.args.self.now in
    c.reach_of.ensures
    ∙ ap (λ (i : Gathered). reach i.policy (rests (queues_of i.pool))) c.self.view_is
    ∙ what_is_the_reach now.policy k (queues_of now.pool) ss stand
