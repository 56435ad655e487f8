use Rattle.std.proofs.Common.{map, ap, ◌∙◌}
use Rattle.std.specs.List.{filter_map}
use Rattle.mg_node.specs.Leaving.{calculator_in, first_handed}
use Rattle.mg_node.proofs.HandedBack.{told_first, told_behind}
use Rattle.mg_node.proofs.engine.Engine.into_calculator.Goals as goal

pub returns-in-Some : goal.returns-in-Some
returns-in-Some g c =
    told_first (map (λ b. b.told) c.self.inside.idle.items) (filter_map calculator_in c.self.inside.window.items) _ c.in-Some.ensures ∙ ap first_handed c.self.view_is

pub returns : goal.returns
returns g c =
    told_behind (map (λ b. b.told) c.self.inside.idle.items) (filter_map calculator_in c.self.inside.window.items) _ c.in-None.ensures c.from_window.ensures ∙ ap first_handed c.self.view_is
