-- Where an edge of a valid plan stands, which stream it has, and who writes that.
use Rattle.std.proofs.Common.{◌≡◌, ℕ, zero, suc, ◌+◌, ◌<◌, ◌≤◌, List, [], ◌∷◌, length, take, Some, slice_get, ap, refl, arith}
use Rattle.std.specs.Prelude.{sum_by}
use Rattle.std.proofs.lemmas.List.Sums.{sum_by-cons}
use Rattle.std.proofs.lemmas.Option.{none-some, same_Some}
use Rattle.mg_calc.specs.declared.edge.Edge.{Edge}
use Rattle.mg_calc.specs.declared.plan.Plan.{Plan}
use Rattle.mg_calc.specs.declared.plan_node.PlanNode.{PlanNode}
use Rattle.mg_calc.specs.Plan.{IsValid}
use Rattle.mg_node.specs.Job.{ports_of}
use Rattle.mg_sched.specs.Places.{first_edge}
use Rattle.mg_sched.proofs.PlanEdges.{edge_ends, edge_place}

pub record IsPlaced (plan : Plan) (number : ℕ) (e : Edge) : Type 0 where
  pub node : e.node ≤ length plan.nodes
  pub number_is : number ≡ first_edge plan e.node + e.port
  pub within : e.port < length (ports_of plan e.node)
  pub stream : slice_get (ports_of plan e.node) e.port ≡ Some e.stream

pub edge_placed : (plan : Plan) (number : ℕ) (e : Edge) → IsValid plan → slice_get plan.edges number ≡ Some e → IsPlaced plan number e
edge_placed plan number e valid at =
    let ends = edge_ends plan valid number e at in
    let place = edge_place plan valid number e at in
    record { node = ends.0; number_is = place.0; within = place.1; stream = ends.1 }

-- the edges of a node stand before those of a later one
abbrev count_inputs : PlanNode → ℕ
count_inputs n = length n.inputs

first_later : (nodes : List PlanNode) (a b : ℕ) (n : PlanNode) → slice_get nodes a ≡ Some n → a < b → sum_by count_inputs (take a nodes) + length n.inputs ≤ sum_by count_inputs (take b nodes)
first_later [] a b n at less = absurd (none-some n at)
first_later (m ∷ nodes) a zero n at less = absurd (omega (arith, less))
first_later (m ∷ nodes) zero (suc b) n at less =
    let is : m ≡ n = same_Some m n at in
    let same = ap count_inputs is in
    let more = sum_by-cons count_inputs m (take b nodes) in
    let none : sum_by count_inputs (take 0 (m ∷ nodes)) ≡ 0 = refl in
    omega (arith, same, more, none)
first_later (m ∷ nodes) (suc a) (suc b) n at less =
    let later = first_later nodes a b n at (omega (arith, less)) in
    let one = sum_by-cons count_inputs m (take a nodes) in
    let two = sum_by-cons count_inputs m (take b nodes) in
    omega (arith, later, one, two)

pub edges_before : (plan : Plan) (a b : ℕ) (n : PlanNode) → slice_get plan.nodes a ≡ Some n → a < b → first_edge plan a + length n.inputs ≤ first_edge plan b
edges_before plan a b n at less = first_later plan.nodes a b n at less
