use Rattle.std.proofs.Common.{◌≡◌, max, rules}
use Rattle.mg_stream.specs.QueueView.{queue_view}
use Rattle.mg_stream.proofs.QueueSteps.{raised_queue, stands_raised}
use Rattle.mg_stream.proofs.queue.Queue.raise.Goals as goal

pub invariant_of-self : goal.invariant_of-self
invariant_of-self c =
    let top : max c.self.inside.bound c.args.bound ≡ c.args.bound = search rules in
    rw top at (raised_queue (queue_view c.self.inside) c.args.bound c.done_is_greatest.ensures c.self.invariant)

pub returns-then-lt-clause-stands : goal.returns-then-lt-clause-stands
returns-then-lt-clause-stands c = λ s h.
    let top : max c.self.inside.bound c.args.bound ≡ c.args.bound = search rules in
    rw top at (stands_raised (queue_view c.self.inside) c.args.bound s c.done_is_greatest.ensures (rw c.self.view_is h))
