use Rattle.std.proofs.Common.{List, ap, sym, ◌∙◌}
use Rattle.mg_node.specs.Views.{EntryView, EngineView}
use Rattle.mg_node.proofs.EngineOpening.{opened_so, window_opened, with_window_idle}
use Rattle.mg_node.proofs.engine.Engine.open.Goals as goal

pub returns-in-Some-clause-opened : goal.returns-in-Some-clause-opened
returns-in-Some-clause-opened g c = λ node number told is.
    let idle = c.take_last-context.new.self.items in
    let items = c.push_back_reserved.new.self.items in
    opened_so c.args.self.now _ node number told c.args.sides.now c.in-Some.answer c.take_last-context.result c.open.new.self idle is
    (sym (ap (λ (v : EngineView). v.idle) c.self.view_is) ∙ c.take_last-context.ensures.items) c.in-Some.ensures.set c.in-Some.ensures.opened
    (ap (λ (v : EngineView). with_window_idle v items idle) c.self.view_is
    ∙ ap (λ (w : List EntryView). with_window_idle c.args.self.now w idle)
    (window_opened c.args.self.now c.self.inside.window.items items c.self.inside.node c.open.new.self c.in-Some.answer c.opened-entry.result c.push_back_reserved.ensures.items c.opened-entry.ensures
    (ap (λ (v : EngineView). v.window) c.self.view_is) (ap (λ (v : EngineView). v.node) c.self.view_is)))
