-- From which places the edges of a valid plan lead, and how they are kept by these.
use Rattle.std.proofs.Common.{◌≡◌, ℕ, ◌+◌, ◌<◌, List, Option, Some, None, IfSome, length, get_or, slice_get, slice_set, option_map, ap, sym, ◌∙◌, subst, inl, inr, arith, get_or-set_same, get_or-set_other}
use Rattle.std.proofs.lemmas.Bool.{cases_eq}
use Rattle.std.proofs.lemmas.List.{get_or_read}
use Rattle.std.proofs.lemmas.Option.{same_Some, slice_get-get_or, slice_get_within}
use Rattle.mg_calc.specs.declared.edge.Edge.{Edge}
use Rattle.mg_calc.specs.declared.plan.Plan.{Plan}
use Rattle.mg_calc.specs.declared.plan_stream.PlanStream.{PlanStream}
use Rattle.mg_calc.specs.declared.plan_stream.Producer.{Producer}
use Rattle.mg_calc.specs.declared.plan_stream.Producer.TheVariants.{Input, Node}
use Rattle.mg_calc.specs.Plan.{IsValid}
use Rattle.mg_sched.specs.Places.{place_of, source_of}
use Rattle.mg_sched.specs.Code.Agendas.{LeadOn}
use Rattle.mg_sched.proofs.PlanEdges.{edge_stream}
use Rattle.mg_sched.proofs.PlanStreams.{WrittenBy, producer_there}

-- ---- where they lead from

-- the stream of an edge is there
pub stream_within : (plan : Plan) (edges : List Edge) (number : ℕ) (d : Edge) → IsValid plan → edges ≡ plan.edges → number < length plan.edges
    → (get_or edges number d).stream < length plan.streams
stream_within plan edges number d valid same within =
    edge_stream plan valid number (get_or edges number d) (slice_get-get_or plan.edges number d within ∙ ap (λ l. Some (get_or l number d)) (sym same))

written_within : (plan : Plan) (s : ℕ) (p : Producer) → WrittenBy plan s p → place_of plan p < length plan.nodes + length plan.inputs
written_within plan s (Input input) h = omega (arith, h.1)
written_within plan s (Node n port) h = omega (arith, slice_get_within plan.nodes n h.0 h.1)

-- and who writes it has a place
pub source_within : (plan : Plan) (edges : List Edge) (number place : ℕ) (d : Edge) → IsValid plan → edges ≡ plan.edges → number < length plan.edges
    → source_of plan (get_or edges number d) ≡ Some place → place < length plan.nodes + length plan.inputs
source_within plan edges number place d valid same within from =
    let e = get_or edges number d in
    let it = producer_there plan valid e.stream (stream_within plan edges number d valid same within) in
    let is : place_of plan it.0.producer ≡ place = same_Some (place_of plan it.0.producer) place
    (sym (ap (λ (s : Option PlanStream). option_map (place_of plan) (option_map (λ x. x.producer) s)) it.1) ∙ from) in
    subst (λ k. k < length plan.nodes + length plan.inputs) is (written_within plan e.stream it.0.producer it.2)

-- the edge of a number leads from there
pub source_is : (plan : Plan) (edges : List Edge) (number place : ℕ) (d : Edge) → edges ≡ plan.edges → number < length plan.edges → source_of plan (get_or edges number d) ≡ Some place
    → (e : Edge) → slice_get plan.edges number ≡ Some e → source_of plan e ≡ Some place
source_is plan edges number place d same within from e at =
    let is : get_or edges number d ≡ e = ap (λ (l : List Edge). get_or l number d) same ∙ same_Some (get_or plan.edges number d) e (sym (slice_get-get_or plan.edges number d within) ∙ at) in
    ap (source_of plan) (sym is) ∙ from

-- ---- how they are kept

-- one edge more leads from a place
pub lead_more : (low edges place : ℕ) (heads links : List (Option ℕ)) (head : Option ℕ) → LeadOn (low + 1) edges heads links → place < length heads → low < length links → low < edges
    → head ≡ get_or heads place head → LeadOn low edges (slice_set heads place (Some low)) (slice_set links low head)
lead_more low edges place heads links head h place_within edge_within is_edge read = record {
  first = λ p e at. elim (cases_eq p place) [
    | inl same ↦
        let here = get_or-set_same heads place (Some low) None place_within in
        let is : low ≡ e = same_Some low e (sym here ∙ (ap (λ k. get_or (slice_set heads place (Some low)) k None) (sym same) ∙ at)) in
        (omega (arith, is), omega (arith, is, is_edge))
    | inr other ↦
        let old = h.first p e (sym (get_or-set_other heads place p (Some low) None other) ∙ at) in
        (omega (arith, old.0), old.1)
  ];
  next = λ e l at. elim (cases_eq e low) [
    | inl same ↦
        let here = get_or-set_same links low head None edge_within in
        let is : head ≡ Some l = sym here ∙ (ap (λ k. get_or (slice_set links low head) k None) (sym same) ∙ at) in
        let old = h.first place l (sym (get_or_read heads place head place_within read None) ∙ is) in
        (omega (arith, old.0, same), old.1)
    | inr other ↦ h.next e l (sym (get_or-set_other links low e head None other) ∙ at)
  ];
}

-- a place goes on elsewhere, or nowhere
pub lead_at : (edges place : ℕ) (heads links : List (Option ℕ)) (head : Option ℕ) → LeadOn 0 edges heads links → place < length heads → IfSome head (λ edge. edge < edges) → LeadOn 0 edges (slice_set heads place head) links
lead_at edges place heads links head h within there = record {
  first = λ p e at. elim (cases_eq p place) [
    | inl same ↦
        let is : head ≡ Some e = sym (get_or-set_same heads place head None within) ∙ (ap (λ k. get_or (slice_set heads place head) k None) (sym same) ∙ at) in
        (omega arith, subst (λ (o : Option ℕ). IfSome o (λ edge. edge < edges)) is there)
    | inr other ↦ h.first p e (sym (get_or-set_other heads place p head None other) ∙ at)
  ];
  next = h.next;
}

-- what is read of them
pub lead_first : (low edges place : ℕ) (heads links : List (Option ℕ)) (head : Option ℕ) → LeadOn low edges heads links → place < length heads → head ≡ get_or heads place head
    → IfSome head (λ edge. edge < edges)
lead_first low edges place heads links None h within read = tt
lead_first low edges place heads links (Some e) h within read = (h.first place e (sym (get_or_read heads place (Some e) within read None))).1

pub lead_next : (low edges edge : ℕ) (heads links : List (Option ℕ)) (link : Option ℕ) → LeadOn low edges heads links → edge < length links → link ≡ get_or links edge link
    → IfSome link (λ later. (edge < later) × (later < edges))
lead_next low edges edge heads links None h within read = tt
lead_next low edges edge heads links (Some l) h within read = h.next edge l (sym (get_or_read links edge (Some l) within read None))
