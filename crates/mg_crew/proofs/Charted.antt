-- The places from which edges lead are those of nodes or graph inputs.
use Rattle.std.proofs.Common.{◌≡◌, ◌<◌, ◌+◌, ◌∙◌, ℕ, List, Option, None, Some, IfSome, length, get_or, ap, sym, arith}
use Rattle.std.proofs.lemmas.Option.{slice_get-get_or}
use Rattle.mg_calc.specs.declared.edge.Edge.{Edge}
use Rattle.mg_calc.specs.declared.plan.Plan.{Plan}
use Rattle.mg_calc.specs.Plan.{IsValid}
use Rattle.mg_sched.specs.Places.{source_of}
use Rattle.mg_sched.proofs.PlanEdges.{edge_ends}
use Rattle.mg_sched.proofs.Leading.{source_within}

pub some_within : (plan : Plan) (edges : List Edge) (number : ℕ) (d : Edge) (place : Option ℕ) → IsValid plan → edges ≡ plan.edges → number < length plan.edges
    → IfSome place (λ p. source_of plan (get_or edges number d) ≡ Some p) → IfSome place (λ p. p < length plan.nodes + length plan.inputs)
some_within plan edges number d None valid same within from = tt
some_within plan edges number d (Some p) valid same within from = source_within plan edges number p d valid same within from

-- and those to which they lead are nodes, or the collector
pub consumer_within : (plan : Plan) (edges : List Edge) (number : ℕ) (d : Edge) → IsValid plan → edges ≡ plan.edges → number < length plan.edges → (get_or edges number d).node < length plan.nodes + 1
consumer_within plan edges number d valid same within =
    let ends = edge_ends plan valid number (get_or edges number d) (slice_get-get_or plan.edges number d within ∙ ap (λ (l : List Edge). Some (get_or l number d)) (sym same)) in
    let most = ends.0 in
    omega (arith, most)
