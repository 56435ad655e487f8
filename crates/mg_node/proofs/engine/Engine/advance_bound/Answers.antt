use Rattle.std.proofs.Common.{◌≡◌, ◌∙◌, true, sym, subst}
use Rattle.mg_node.specs.Views.{EngineView}
use Rattle.mg_node.specs.Advances.{never_raised}
use Rattle.mg_node.proofs.Advancing.{never_advanced}
use Rattle.mg_node.proofs.engine.Engine.advance_bound.Goals as goal

pub returns-then-never_raises : goal.returns-then-never_raises
returns-then-never_raises g c =
    never_advanced c.args.self.now c.args.intake.now.waits (sym c.has_ended.ensures ∙ c.if-has_ended.false)
    (subst (λ (v : EngineView). never_raised v.role v.offset ≡ true) c.self.view_is (sym c.never_raises.ensures ∙ c.if-never_raises.true))
