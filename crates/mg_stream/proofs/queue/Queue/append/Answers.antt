use Rattle.std.proofs.Common.{◌≡◌, [], ◌∷◌, ◌++◌, refl, ap, ◌∙◌, subst₂, sym}
use Rattle.std.specs.VecDeque.{deque_items}
use Rattle.mg_time.specs.Time.{next}
use Rattle.mg_value.specs.Payload.{Plain}
use Rattle.mg_value.specs.Packet.{Stamped}
use Rattle.mg_stream.specs.Queue.{Waiting, MayCome}
use Rattle.mg_stream.specs.QueueView.{queue_view}
use Rattle.mg_stream.proofs.QueueSteps.{pushed_items, appended_fields, stands_appended_fields}
use Rattle.mg_stream.proofs.queue.Queue.append.Goals as goal

pub invariant_of-self : goal.invariant_of-self
invariant_of-self c =
    let q = queue_view c.self.inside in
    let r = queue_view (record { packets = c.push_back_reserved.new.self; gone = c.self.inside.gone; bound = c.next_allowed-bound.result }) in
    let items : deque_items c.push_back_reserved.new.self ≡ deque_items c.self.inside.packets ++ c.args.packet ∷ [] = pushed_items _ _ _ c.args.packet c.push_back_reserved.ensures.items c.in-Ok.ensures.items in
    let at : c.packet.inside.at ≡ c.args.packet.at = ap (λ (p : Stamped Plain). p.at) c.packet.view_is in
    let may : MayCome q c.args.packet.at = subst₂ (λ (v : Waiting Plain) t. MayCome v t) (sym c.self.view_is) at c.in-None.ensures.none in
    appended_fields q r c.args.packet refl items (c.next_allowed-bound.ensures ∙ ap next at) may c.self.invariant

pub returns-in-Ok-clause-stands : goal.returns-in-Ok-clause-stands
returns-in-Ok-clause-stands c = λ s h.
    let q = queue_view c.self.inside in
    let r = queue_view (record { packets = c.push_back_reserved.new.self; gone = c.self.inside.gone; bound = c.next_allowed-bound.result }) in
    let items : deque_items c.push_back_reserved.new.self ≡ deque_items c.self.inside.packets ++ c.args.packet ∷ [] = pushed_items _ _ _ c.args.packet c.push_back_reserved.ensures.items c.in-Ok.ensures.items in
    let at : c.packet.inside.at ≡ c.args.packet.at = ap (λ (p : Stamped Plain). p.at) c.packet.view_is in
    let may : MayCome q c.args.packet.at = subst₂ (λ (v : Waiting Plain) t. MayCome v t) (sym c.self.view_is) at c.in-None.ensures.none in
    stands_appended_fields q r c.args.packet s refl items (c.next_allowed-bound.ensures ∙ ap next at) may (rw c.self.view_is h)
