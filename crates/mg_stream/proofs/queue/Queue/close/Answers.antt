use Rattle.mg_stream.specs.QueueView.{queue_view}
use Rattle.mg_stream.proofs.QueueSteps.{closed_queue, stands_closed}
use Rattle.mg_stream.proofs.queue.Queue.close.Goals as goal

pub invariant_of-self : goal.invariant_of-self
invariant_of-self c = closed_queue (queue_view c.self.inside) c.self.invariant

pub returns-clause-stands : goal.returns-clause-stands
returns-clause-stands c = λ s h. stands_closed (queue_view c.self.inside) s (rw c.self.view_is h)
