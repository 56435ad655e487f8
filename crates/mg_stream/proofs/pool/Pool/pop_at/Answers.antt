use Rattle.std.proofs.lemmas.Option.{slice_get_within}
use Rattle.mg_stream.specs.Pool.{queue_at}
use Rattle.mg_stream.proofs.QueueSteps.{stands_without_first}
use Rattle.mg_stream.proofs.Laid.{stands_with}
use Rattle.mg_stream.proofs.pool.Pool.pop_at.Goals as goal

pub returns-clause-stands : goal.returns-clause-stands
returns-clause-stands c = λ s h.
    let q = queue_at c.args.self.now c.args.port in
    stands_with c.args.self.now c.take.new.self c.args.port _ s c.requires c.take.ensures.popped
    (stands_without_first q s (slice_get_within q.packets 0 c.take.result c.take.ensures.packet) h)
