use Rattle.std.proofs.Common.{◌≡◌, ◌<◌, List, [], ◌∷◌, ◌++◌, ap, subst, refl, length, slice_index_or, arith}
use Rattle.mg_value.specs.Payload.{Plain}
use Rattle.mg_value.specs.Packet.{Stamped}
use Rattle.mg_stream.specs.Queue.{MayCome}
use Rattle.mg_stream.specs.Pool.{Backlog, empty_backlog, queue_at}
use Rattle.mg_stream.proofs.QueueSteps.{stands_appended_fields}
use Rattle.mg_stream.proofs.Laid.{stands_with}
use Rattle.mg_stream.proofs.pool.Pool.append.Goals as goal

pub returns-in-Ok-clause-stands : goal.returns-in-Ok-clause-stands
returns-in-Ok-clause-stands c = λ s h.
    let old = c.args.self.now in
    let room = c.reserve.new.self in
    let port = c.args.port in
    let ports = c.in-Ok.ensures.ports in
    let there : port < length room.ports = (let same = ap (λ (bs : List (Backlog Plain)). length bs) ports in let in_old = c.requires in omega (arith, same, in_old)) in
    let at : c.packet.inside.at ≡ c.args.packet.at = ap (λ (p : Stamped Plain). p.at) c.packet.view_is in
    let may : MayCome (queue_at old port) c.args.packet.at = subst (λ t. MayCome (queue_at old port) t) at c.in-None.ensures.none in
    stands_with room c.put.new.self port _ _ there c.put.ensures
    (stands_appended_fields (queue_at old port) _ c.args.packet s
    (ap (λ (bs : List (Backlog Plain)). (slice_index_or bs port empty_backlog).gone) ports)
    (ap (λ (bs : List (Backlog Plain)). (slice_index_or bs port empty_backlog).packets ++ c.args.packet ∷ []) ports)
    refl may h)
