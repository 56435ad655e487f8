use Rattle.std.proofs.Common.{◌∙◌, ap₂, min}
use Rattle.mg_settled.specs.Settled.{low}
use Rattle.mg_settled.specs.FirstSet.{earliest}
use Rattle.mg_stream.specs.Pool.{queues_of}
use Rattle.mg_policy.specs.Inbox.{rests}
use Rattle.mg_policy.proofs.Horizons.{horizon-least}
use Rattle.mg_policy.proofs.look.least_time.Goals as goal

pub returns-clause-time : goal.returns-clause-time
returns-clause-time c =
    let ss = rests (queues_of c.args.pool.now) in
    c.lesser.ensures ∙ ap₂ min c.times_of-times.ensures.earliest c.times_of-times.ensures.low ∙ horizon-least (earliest ss) (low ss)
