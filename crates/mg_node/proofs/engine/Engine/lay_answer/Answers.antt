use Rattle.std.proofs.Common.{◌≡◌, List, map, ap, sym, subst, ◌∙◌, arith}
use Rattle.std.specs.Vec.{with_items}
use Rattle.std.proofs.lemmas.List.{with_items_is}
use Rattle.mg_value.specs.Payload.{Plain}
use Rattle.mg_stream.specs.Queue.{Waiting}
use Rattle.mg_stream.specs.Pool.{backlog_of}
use Rattle.mg_calc.specs.declared.node_fault.Phase.TheVariants.{Process}
use Rattle.mg_node.specs.Views.{EngineView}
use Rattle.mg_node.specs.Commits.{raised_before}
use Rattle.mg_node.specs.Code.QueueLaying.{HasRoomFor, IsLaid}
use Rattle.mg_node.specs.Code.FrontLaying.{front_end_of}
use Rattle.mg_node.specs.Code.Showing.{LaysAnswer}
use Rattle.mg_node.proofs.Giving.{with_outputs}
use Rattle.mg_node.proofs.EngineFronts.{some_stand}
use Rattle.mg_node.proofs.ShownAtOnce.{with_answer_laid, lays_answer}
use Rattle.mg_node.proofs.engine.Engine.lay_answer.Goals as goal

pub returns-in_default-clause-unchanged : goal.returns-in_default-clause-unchanged
returns-in_default-clause-unchanged g c =
    let items : (with_items c.self.inside.outputs c.reserve_for.new.outputs).items ≡ c.reserve_for.new.outputs = with_items_is c.self.inside.outputs c.reserve_for.new.outputs (omega (arith, c.reserve_for.auto.outputs, c.deref_mut.ensures.len)) in
    ap (λ (v : EngineView). with_outputs v (map backlog_of (with_items c.self.inside.outputs c.reserve_for.new.outputs).items)) c.self.view_is
    ∙ ap (λ (l : List (Waiting Plain)). with_outputs c.args.self.now (map backlog_of l)) items
    ∙ ap (with_outputs c.args.self.now) (c.reserve_for.ensures.same ∙ ap (map backlog_of) c.deref_mut.ensures.value ∙ ap (λ (v : EngineView). v.outputs) c.self.view_is)

pub lay-cause-requires-clause-stands : goal.lay-cause-requires-clause-stands
lay-cause-requires-clause-stands g c =
    let items : c.deref_mut-2.result.now ≡ c.reserve_for.new.outputs = c.deref_mut-2.ensures.value ∙ with_items_is c.self.inside.outputs c.reserve_for.new.outputs (omega (arith, c.reserve_for.auto.outputs, c.deref_mut.ensures.len)) in
    some_stand c.args.self.now c.deref_mut-2.result.now
    (ap (map backlog_of) items ∙ c.reserve_for.ensures.same ∙ ap (map backlog_of) c.deref_mut.ensures.value ∙ ap (λ (v : EngineView). v.outputs) c.self.view_is) c.requires.whole

pub lay-cause-requires-clause-room : goal.lay-cause-requires-clause-room
lay-cause-requires-clause-room g c =
    let items : c.deref_mut-2.result.now ≡ c.reserve_for.new.outputs = c.deref_mut-2.ensures.value ∙ with_items_is c.self.inside.outputs c.reserve_for.new.outputs (omega (arith, c.reserve_for.auto.outputs, c.deref_mut.ensures.len)) in
    subst (λ (l : List (Waiting Plain)). HasRoomFor l c.args.answer) (sym items) c.in-Ok.ensures.room

pub returns-clause-laid : goal.returns-clause-laid
returns-clause-laid g c =
    let before : c.deref_mut-2.result.now ≡ c.reserve_for.new.outputs = c.deref_mut-2.ensures.value ∙ with_items_is c.self.inside.outputs c.reserve_for.new.outputs (omega (arith, c.reserve_for.auto.outputs, c.deref_mut.ensures.len)) in
    let now = c.lay-cause.new.outputs in
    let fault = c.note_fault.new.fault in
    let items : (with_items (with_items c.self.inside.outputs c.reserve_for.new.outputs) now).items ≡ now =
    with_items_is (with_items c.self.inside.outputs c.reserve_for.new.outputs) now (omega (arith, c.lay-cause.auto.outputs, c.deref_mut-2.ensures.len)) in
    subst (λ (v : EngineView). LaysAnswer c.args.at c.args.answer c.args.self.now v)
    (sym (ap (λ (v : EngineView). with_answer_laid v (map backlog_of (with_items (with_items c.self.inside.outputs c.reserve_for.new.outputs) now).items) fault) c.self.view_is
    ∙ ap (λ (l : List (Waiting Plain)). with_answer_laid c.args.self.now (map backlog_of l) fault) items))
    (lays_answer c.args.self.now c.deref_mut-2.result.now now c.args.at c.args.answer c.lay-cause.result fault
    (ap (map backlog_of) before ∙ c.reserve_for.ensures.same ∙ ap (map backlog_of) c.deref_mut.ensures.value ∙ ap (λ (v : EngineView). v.outputs) c.self.view_is)
    (subst (λ (v : EngineView). IsLaid v.offset (Process c.args.at) (raised_before v.offset (Process c.args.at)) c.args.answer c.deref_mut-2.result.now now c.lay-cause.result) c.self.view_is c.lay-cause.ensures)
    (c.note_fault.ensures ∙ ap (λ (v : EngineView). (front_end_of v.node (Process c.args.at) c.lay-cause.result).fault) c.self.view_is))
