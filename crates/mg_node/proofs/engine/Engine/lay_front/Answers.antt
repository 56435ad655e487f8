use Rattle.std.proofs.Common.{◌≡◌, ℕ, ◌+◌, List, map, ap, sym, subst, ◌∙◌, arith}
use Rattle.std.specs.Vec.{with_items}
use Rattle.std.proofs.lemmas.List.{with_items_is}
use Rattle.mg_value.specs.Payload.{Plain}
use Rattle.mg_stream.specs.Queue.{Waiting}
use Rattle.mg_stream.specs.Pool.{backlog_of}
use Rattle.mg_node.specs.Views.{EngineView}
use Rattle.mg_node.specs.Code.FrontLaying.{HasRoom, IsFrontLaid, LaysFront}
use Rattle.mg_node.proofs.Giving.{with_outputs}
use Rattle.mg_node.proofs.EngineFronts.{on_err, some_stand, lays_none, lays_some, with_front}
use Rattle.mg_node.proofs.engine.Engine.lay_front.Goals as goal

pub returns-then-has_ended-clause-laid : goal.returns-then-has_ended-clause-laid
returns-then-has_ended-clause-laid g c = lays_none c.args.self.now c.requires.whole (sym c.has_ended.ensures ∙ c.if-has_ended.true)

pub returns-in_err-reserve-clause-unchanged : goal.returns-in_err-reserve-clause-unchanged
returns-in_err-reserve-clause-unchanged g c =
    let items : (with_items c.self.inside.outputs c.reserve.new.outputs).items ≡ c.reserve.new.outputs = with_items_is c.self.inside.outputs c.reserve.new.outputs (omega (arith, c.reserve.auto.outputs, c.deref_mut.ensures.len)) in
    on_err c.from_residual.result _
    (ap (λ (v : EngineView). with_outputs v (map backlog_of (with_items c.self.inside.outputs c.reserve.new.outputs).items)) c.self.view_is
    ∙ ap (λ (l : List (Waiting Plain)). with_outputs c.args.self.now (map backlog_of l)) items
    ∙ ap (with_outputs c.args.self.now) (c.reserve.ensures.same ∙ ap (map backlog_of) c.deref_mut.ensures.value ∙ ap (λ (v : EngineView). v.outputs) c.self.view_is))

pub lay_front-end-requires-clause-stands : goal.lay_front-end-requires-clause-stands
lay_front-end-requires-clause-stands g c =
    let items : c.deref_mut-2.result.now ≡ c.reserve.new.outputs = c.deref_mut-2.ensures.value ∙ with_items_is c.self.inside.outputs c.reserve.new.outputs (omega (arith, c.reserve.auto.outputs, c.deref_mut.ensures.len)) in
    some_stand c.args.self.now c.deref_mut-2.result.now
    (ap (map backlog_of) items ∙ c.reserve.ensures.same ∙ ap (map backlog_of) c.deref_mut.ensures.value ∙ ap (λ (v : EngineView). v.outputs) c.self.view_is) c.requires.whole

pub lay_front-end-requires-clause-room : goal.lay_front-end-requires-clause-room
lay_front-end-requires-clause-room g c =
    let items : c.deref_mut-2.result.now ≡ c.reserve.new.outputs = c.deref_mut-2.ensures.value ∙ with_items_is c.self.inside.outputs c.reserve.new.outputs (omega (arith, c.reserve.auto.outputs, c.deref_mut.ensures.len)) in
    subst (λ (l : List (Waiting Plain)). HasRoom l c.self.inside.window.items) (sym items) c.in_ok-reserve.ensures.room

pub returns-clause-laid : goal.returns-clause-laid
returns-clause-laid g c =
    let before : c.deref_mut-2.result.now ≡ c.reserve.new.outputs = c.deref_mut-2.ensures.value ∙ with_items_is c.self.inside.outputs c.reserve.new.outputs (omega (arith, c.reserve.auto.outputs, c.deref_mut.ensures.len)) in
    let now = c.lay_front-end.new.outputs in
    let window = c.lay_front-end.new.window.items in
    let idle = c.lay_front-end.new.idle.items in
    let end = c.lay_front-end.result in
    let items : (with_items (with_items c.self.inside.outputs c.reserve.new.outputs) now).items ≡ now =
    with_items_is (with_items c.self.inside.outputs c.reserve.new.outputs) now (omega (arith, c.lay_front-end.auto.outputs, c.deref_mut-2.ensures.len)) in
    subst (λ (v : EngineView). LaysFront end.laid c.args.self.now v)
    (sym (ap (λ (v : EngineView). with_front v (map backlog_of (with_items (with_items c.self.inside.outputs c.reserve.new.outputs) now).items) (c.self.inside.laid + c.from.result) window idle end) c.self.view_is
    ∙ ap (λ (l : List (Waiting Plain)). with_front c.args.self.now (map backlog_of l) (c.self.inside.laid + c.from.result) window idle end) items
    ∙ ap (λ (n : ℕ). with_front c.args.self.now (map backlog_of now) n window idle end) (ap (λ (k : ℕ). c.self.inside.laid + k) c.from.ensures ∙ ap (λ (v : EngineView). v.laid + end.laid) c.self.view_is)))
    (lays_some c.args.self.now c.deref_mut-2.result.now now window idle end
    (ap (map backlog_of) before ∙ c.reserve.ensures.same ∙ ap (map backlog_of) c.deref_mut.ensures.value ∙ ap (λ (v : EngineView). v.outputs) c.self.view_is)
    (sym c.has_ended.ensures ∙ c.if-has_ended.false)
    (subst (λ (v : EngineView). IsFrontLaid v.offset v.node c.deref_mut-2.result.now now v.window window v.idle idle end) c.self.view_is c.lay_front-end.ensures.front))
