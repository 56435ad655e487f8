-- The output of a stream is the one at which its writer lays it.
use Rattle.std.proofs.Common.{◌≡◌, ◌∙◌, ℕ, zero, suc, ◌<◌, List, [], ◌∷◌, length, Some, slice_get, slice_index_or, option_map, sym, ap, subst, arith}
use Rattle.mg_value.specs.Payload.{Plain}
use Rattle.mg_stream.specs.Pool.{Backlog, empty_backlog}
use Rattle.mg_calc.specs.declared.plan.Plan.{Plan}
use Rattle.mg_calc.specs.declared.plan_stream.PlanStream.{PlanStream}
use Rattle.mg_calc.specs.declared.plan_stream.Producer.{Producer}
use Rattle.mg_calc.proofs.Earlier.{some_same}
use Rattle.mg_node.specs.Views.{EngineView}
use Rattle.mg_sched.specs.Places.{place_of}
use Rattle.mg_sched.specs.Writers.{output_of}
use Rattle.mg_sched.specs.Code.Outputs.{LaidAt}
use Rattle.mg_sched.specs.Looks.{IsOutputAmong}

got_at : {X : Type 0} (xs : List X) (i : ℕ) (d x : X) → slice_get xs i ≡ Some x → slice_index_or xs i d ≡ x
got_at [] i d x e = absurd cc
got_at (y ∷ xs) zero d x e = some_same y x e
got_at (y ∷ xs) (suc i) d x e = got_at xs i d x e

pub output_found : (plan : Plan) (engines : List EngineView) (stream place port : ℕ) (engine : EngineView) (output : Backlog Plain) → LaidAt plan stream place port → slice_get engines place ≡ Some engine
    → IsOutputAmong plan engines stream output → slice_index_or engine.outputs port empty_backlog ≡ output
output_found plan engines stream place port engine output laid at is =
    let writer = some_same is.producer laid.producer (sym is.written ∙ laid.written) in
    let place_same = ap (place_of plan) writer ∙ laid.place_is in
    let engine_same = some_same is.engine engine (sym is.engine_is ∙ (ap (λ (n : ℕ). slice_get engines n) place_same ∙ at)) in
    let port_same = ap output_of writer ∙ laid.port_is in
    got_at engine.outputs port empty_backlog output
    (subst (λ (e : EngineView). slice_get e.outputs port ≡ Some output) engine_same (subst (λ (n : ℕ). slice_get is.engine.outputs n ≡ Some output) port_same is.output_is))

-- a stream that is written is the plan's
below : (streams : List PlanStream) (i : ℕ) (p : Producer) → option_map (λ s. s.producer) (slice_get streams i) ≡ Some p → i < length streams
below [] i p e = absurd cc
below (s ∷ streams) zero p e = omega arith
below (s ∷ streams) (suc i) p e = (let l = below streams i p e in omega (arith, l))

pub output_below : (plan : Plan) (engines : List EngineView) (stream : ℕ) (output : Backlog Plain) → IsOutputAmong plan engines stream output → stream < length plan.streams
output_below plan engines stream output is = below plan.streams stream is.producer is.written
