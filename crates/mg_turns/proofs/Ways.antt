-- The edges of a plan as they are found at run time.
use Rattle.std.proofs.Common.{◌≡◌, ℕ, zero, suc, List, [], ◌∷◌, map, Some, slice_get, refl, ap, sym, ◌∙◌}
use Rattle.mg_node.proofs.Making.{some_same}
use Rattle.mg_calc.specs.declared.edge.Edge.{Edge}
use Rattle.mg_calc.specs.declared.plan.Plan.{Plan}
use Rattle.mg_turns.specs.Parts.{source_at}
use Rattle.mg_turns.specs.declared.way.Way.{Way}
use Rattle.mg_turns.specs.Code.Ways.{way_of}

pub same_edge : (edges : List Edge) (k : ℕ) (e x : Edge) → slice_get edges k ≡ Some e → slice_get edges k ≡ Some x → e ≡ x
same_edge edges k e x at there = some_same (slice_get edges k) e x at there

way_at : (plan : Plan) (edges : List Edge) (k : ℕ) (w : Way) → slice_get (map (way_of plan) edges) k ≡ Some w → (slice_get edges k ≡ Some w.edge) × (w.source ≡ source_at plan w.edge)
way_at plan [] k w at = absurd cc
way_at plan (e ∷ es) zero w at = (let same : way_of plan e ≡ w = some_same (Some (way_of plan e)) (way_of plan e) w refl at in (ap (λ (x : Way). Some x.edge) same, ap (λ (x : Way). x.source) (sym same) ∙ ap (λ (x : Way). source_at plan x.edge) same))
way_at plan (e ∷ es) (suc k) w at = way_at plan es k w at

pub way_there : (plan : Plan) (edges : List Edge) (ways : List Way) (k : ℕ) (w : Way) → ways ≡ map (way_of plan) edges → slice_get ways k ≡ Some w → (slice_get edges k ≡ Some w.edge) × (w.source ≡ source_at plan w.edge)
way_there plan edges ways k w is at = way_at plan edges k w (ap (λ (l : List Way). slice_get l k) (sym is) ∙ at)
