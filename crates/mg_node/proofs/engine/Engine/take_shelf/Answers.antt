use Rattle.std.proofs.Common.{◌-◌, ap, subst}
use Rattle.mg_node.specs.Views.{EngineView}
use Rattle.mg_node.specs.Shelves.{IsTakenOut}
use Rattle.mg_node.proofs.Shelving.{with_window, unshelves_by}
use Rattle.mg_node.proofs.engine.Engine.take_shelf.Goals as goal

pub returns-clause-taken : goal.returns-clause-taken
returns-clause-taken g c =
    unshelves_by c.take_shelf.result c.args.self.now _ c.args.number c.take_shelf.new.window.items (ap (λ (v : EngineView). with_window v c.take_shelf.new.window.items) c.self.view_is)
    (subst (λ (v : EngineView). IsTakenOut c.take_shelf.result v.window c.take_shelf.new.window.items (c.args.number - v.laid)) c.self.view_is c.take_shelf.ensures.taken)
