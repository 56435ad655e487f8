use Rattle.std.proofs.Common.{ℕ, ◌+◌, length, IsSome, slice_get, option_and_then, ap, sym, subst, arith}
use Rattle.mg_node.specs.Views.{EngineView}
use Rattle.mg_node.specs.Shelves.{shelf_of, shelf_at}
use Rattle.mg_node.proofs.FirstShelf.{found_under, number_fits}
use Rattle.mg_node.proofs.engine.Engine.shelved.Goals as goal

pub overflow_add-result : goal.overflow_add-result
overflow_add-result g c =
    (let laid = ap (λ (v : EngineView). v.laid) c.self.view_is in
    let long = ap (λ (v : EngineView). length v.window) c.self.view_is in
    let within = c.in_ok-place.ensures.within in
    let few = number_fits c.args.self.now c.in_ok-place.place c.requires (omega (arith, within, long)) in
    omega (arith, few, laid))

pub returns-clause-some : goal.returns-clause-some
returns-clause-some g c =
    subst (λ (n : ℕ). IsSome (shelf_at c.args.self.now (n + c.in_ok-place.place))) (sym (ap (λ (v : EngineView). v.laid) c.self.view_is))
    (found_under c.args.self.now c.in_ok-place.place
    (subst (λ (v : EngineView). IsSome (option_and_then shelf_of (slice_get v.window c.in_ok-place.place))) c.self.view_is c.in_ok-place.ensures.some))
