use Rattle.std.proofs.Common.{◌-◌, IsSomeAnd, slice_get, is_some, true, ◌≡◌, subst, sym}
use Rattle.mg_node.specs.Views.{EngineView}
use Rattle.mg_node.proofs.EngineFronts.{some_place}
use Rattle.mg_node.proofs.engine.Engine.take_back.Goals as goal

pub take_back-requires-clause-place : goal.take_back-requires-clause-place
take_back-requires-clause-place g c =
    some_place c.self.inside.window.items (c.args.number - c.self.inside.laid)
    (subst (λ (v : EngineView). IsSomeAnd (slice_get v.window (c.args.number - v.laid)) (λ x. is_some x.outcome ≡ true)) (sym c.self.view_is) c.requires.there)
