use Rattle.std.proofs.Common.{ap, sym, ◌∙◌}
use Rattle.std.proofs.lemmas.Result.{on_ok_weaker}
use Rattle.mg_node.specs.Views.{EngineView}
use Rattle.mg_node.proofs.Finishing.{winds_first, none_there}
use Rattle.mg_node.proofs.engine.Engine.wind_up.Goals as goal

pub returns-then-is_empty-clause-wound_up : goal.returns-then-is_empty-clause-wound_up
returns-then-is_empty-clause-wound_up g c =
    let none = none_there c.self.inside.idle.items c.self.inside.idle.len c.is_empty.result c.self.inside.idle.ok.0 c.is_empty.ensures c.if-is_empty.true in
    on_ok_weaker c.finish_front.result
    (λ finishes. winds_first c.args.self.now c.finish_front.new.self (sym c.if-not-lacks_close.ensures) (sym (ap (λ (v : EngineView). v.idle) c.self.view_is) ∙ none) finishes)
    c.finish_front.ensures.finished
