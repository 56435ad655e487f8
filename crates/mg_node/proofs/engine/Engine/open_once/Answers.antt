use Rattle.std.proofs.Common.{◌<◌, length, ap, sym, ◌∙◌, arith}
use Rattle.mg_node.specs.Views.{EngineView}
use Rattle.mg_node.proofs.EngineOpening.{fresh_empty, opened_some, context_there}
use Rattle.mg_node.proofs.engine.Engine.open_once.Goals as goal

pub open-requires-clause-window : goal.open-requires-clause-window
open-requires-clause-window g c = sym (ap (λ (v : EngineView). v.window) c.self.view_is) ∙ c.is_empty.ensures.none c.if-is_empty.true

pub open-requires-clause-context : goal.open-requires-clause-context
open-requires-clause-context g c = context_there c.args.sides.now c.args.self.now c.requires (sym (ap (λ (v : EngineView). v.window) c.self.view_is) ∙ c.is_empty.ensures.none c.if-is_empty.true)

pub returns-then-is_empty-clause-opened : goal.returns-then-is_empty-clause-opened
returns-then-is_empty-clause-opened g c = λ node number told unbegun.
    c.open.ensures.opened node number told
    (fresh_empty node number told c.args.sides.now c.args.self.now unbegun (sym (ap (λ (v : EngineView). v.window) c.self.view_is) ∙ c.is_empty.ensures.none c.if-is_empty.true))

pub returns-else-is_empty-clause-opened : goal.returns-else-is_empty-clause-opened
returns-else-is_empty-clause-opened g c = λ node number told unbegun.
    let some : 0 < length c.self.inside.window.items = c.is_empty.ensures.some c.if-is_empty.false in
    opened_some node number told c.args.sides.now c.args.self.now unbegun (let same = ap (λ (v : EngineView). length v.window) c.self.view_is in omega (arith, some, same))
