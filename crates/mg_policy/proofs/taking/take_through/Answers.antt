use Rattle.std.proofs.Common.{◌∙◌, ap}
use Rattle.mg_value.specs.Payload.{Plain}
use Rattle.mg_stream.specs.Queue.{Waiting, front_at, popped_at}
use Rattle.mg_stream.specs.Pool.{Pooled, queue_at, with_queue}
use Rattle.mg_stream.proofs.Laid.{queue_at-with_queue}
use Rattle.mg_policy.specs.Code.Taking.{dropped_before}
use Rattle.mg_policy.proofs.Drops.{through_time, front_through, with_queue-twice}
use Rattle.mg_policy.proofs.taking.take_through.Goals as goal

pub returns-clause-packet : goal.returns-clause-packet
returns-clause-packet c =
    let port = c.args.port in
    let q = queue_at c.args.pool.now port in
    c.pop_at.ensures.packet
    ∙ ap (λ (v : Pooled Plain). front_at c.args.at (queue_at v port).packets) c.drop_before.ensures
    ∙ ap (λ (r : Waiting Plain). front_at c.args.at r.packets) (queue_at-with_queue c.args.pool.now port (dropped_before c.args.at q) c.requires.port)
    ∙ front_through c.args.at q c.requires.rest

pub returns-clause-pool : goal.returns-clause-pool
returns-clause-pool c =
    let port = c.args.port in
    let old = c.args.pool.now in
    let q = queue_at old port in
    let mid = c.drop_before.new.pool in
    with_queue-twice old mid c.pop_at.new.self port _ _ c.drop_before.ensures c.pop_at.ensures.popped
    ∙ ap (λ (r : Waiting Plain). with_queue old port (popped_at c.args.at r)) (ap (λ (v : Pooled Plain). queue_at v port) c.drop_before.ensures ∙ queue_at-with_queue old port (dropped_before c.args.at q) c.requires.port)
    ∙ ap (λ (r : Waiting Plain). with_queue old port r) (through_time c.args.at q c.requires.rest)
