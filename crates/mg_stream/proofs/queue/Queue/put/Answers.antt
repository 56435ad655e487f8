use Rattle.std.proofs.Common.{◌≡◌, ◌<◌, ◌-◌, refl, ap, ◌∙◌, subst, sym, arith}
use Rattle.std.specs.VecDeque.{deque_len, deque_capacity}
use Rattle.mg_time.specs.Time.{next}
use Rattle.mg_value.specs.Payload.{Plain}
use Rattle.mg_value.specs.Packet.{Stamped}
use Rattle.mg_stream.specs.Queue.{Waiting, MayCome, with_packet}
use Rattle.mg_stream.specs.QueueView.{queue_view}
use Rattle.mg_stream.proofs.QueueSteps.{appended_fields, put_fields}
use Rattle.mg_stream.proofs.queue.Queue.put.Goals as goal

pub push_back_reserved-requires : goal.push_back_reserved-requires
push_back_reserved-requires c =
    let room : 0 < deque_capacity c.self.inside.packets - deque_len c.self.inside.packets = subst (λ (v : Waiting Plain). 0 < v.spare) (sym c.self.view_is) c.requires.room in
    omega (arith, room)

pub invariant_of-self : goal.invariant_of-self
invariant_of-self c =
    let q = queue_view c.self.inside in
    let r = queue_view (record { packets = c.push_back_reserved.new.self; gone = c.self.inside.gone; bound = c.next_allowed-bound.result }) in
    let at : c.packet.inside.at ≡ c.args.packet.at = ap (λ (p : Stamped Plain). p.at) c.packet.view_is in
    let may : MayCome q c.args.packet.at = subst (λ (v : Waiting Plain). MayCome v c.args.packet.at) (sym c.self.view_is) c.requires.may_come in
    appended_fields q r c.args.packet refl c.push_back_reserved.ensures.items (c.next_allowed-bound.ensures ∙ ap next at) may c.self.invariant

pub returns : goal.returns
returns c =
    let q = queue_view c.self.inside in
    let r = queue_view (record { packets = c.push_back_reserved.new.self; gone = c.self.inside.gone; bound = c.next_allowed-bound.result }) in
    let at : c.packet.inside.at ≡ c.args.packet.at = ap (λ (p : Stamped Plain). p.at) c.packet.view_is in
    let spare : r.spare ≡ q.spare - 1 = omega (arith, c.push_back_reserved.ensures.len, c.push_back_reserved.ensures.capacity) in
    subst (λ (v : Waiting Plain). r ≡ (let w : Waiting Plain = record (with_packet v c.args.packet) { spare = v.spare - 1 } in w)) c.self.view_is
    (put_fields q r c.args.packet refl c.push_back_reserved.ensures.items (c.next_allowed-bound.ensures ∙ ap next at) spare)
