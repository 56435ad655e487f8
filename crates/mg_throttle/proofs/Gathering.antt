-- The marks that enter a node, edge by edge.
use Rattle.std.proofs.Common.{◌≡◌, ◌≢◌, ℕ, ◌+◌, ◌<◌, ◌≤◌, Bool, true, false, not, ◌&&◌, ◌||◌, eqb, List, length, take, drop, get_or, slice_get, ◌∙◌, sym, ap, subst, refl, arith, length-drop}
use Rattle.std.proofs.Math.Seq.{take-length}
use Rattle.std.proofs.lemmas.Bool.{and_left, ne_eqb}
use Rattle.std.proofs.lemmas.List.{take-append-drop, get_or-take, get_or-drop, length-take, get_or_default}
use Rattle.std.proofs.lemmas.List.Folds.{list_any_none, list_any-append}
use Rattle.std.specs.List.{list_any}
use Rattle.std.specs.List.Sorted.{IsNonDecreasingBy, IsPartitionPoint}
use Rattle.mg_calc.specs.declared.plan.Plan.{Plan}
use Rattle.mg_calc.specs.declared.edge.Edge.{Edge}
use Rattle.mg_throttle.specs.Code.Rows.{is_marked}
use Rattle.mg_throttle.specs.Code.Reach.{stream_brings, enters, GathersTo}

or_none : (a : Bool) → (a || false) ≡ a
or_none true = refl
or_none false = refl

-- no mark enters a node by the edges of others
other_enters : (plan : Plan) (rows : List (List Bool)) (node f : ℕ) (e : Edge) → e.node ≢ node → enters plan rows node f e ≡ false
other_enters plan rows node f e other = and_left (eqb e.node node) (not e.back && stream_brings rows f (slice_get plan.streams e.stream)) (ne_eqb e.node node other)

pub GathersTo-start : (plan : Plan) (rows : List (List Bool)) (node first : ℕ) (row : List Bool)
    → ((k : ℕ) (d : Edge) → k < first → k < length plan.edges → (get_or plan.edges k d).node < node) → GathersTo plan rows node first row row
GathersTo-start plan rows node first row below = record {
  len = refl;
  marks = λ f within. sym (ap (λ b. is_marked row f || b) (list_any_none (enters plan rows node f) (take first plan.edges)
      (λ k d small. let both = length-take first plan.edges in
      rw (get_or-take first plan.edges k d (omega arith)) (other_enters plan rows node f (get_or plan.edges k d) (λ e. let b = below k d (omega arith) (omega arith) in omega arith))))
      ∙ or_none (is_marked row f));
}

-- past the edges of the node nothing enters
pub GathersTo-all : (plan : Plan) (rows : List (List Bool)) (node k : ℕ) (old row : List Bool)
    → ((j : ℕ) (d : Edge) → k ≤ j → j < length plan.edges → (get_or plan.edges j d).node ≢ node)
    → GathersTo plan rows node k old row → GathersTo plan rows node (length plan.edges) old row
GathersTo-all plan rows node k old row others so_far = record {
  len = so_far.len;
  marks = λ f small.
      let p : Edge → Bool = enters plan rows node f in
      let rest : list_any p (drop k plan.edges) ≡ false = list_any_none p (drop k plan.edges)
      (λ j d inside. let l = length-drop k plan.edges in
      rw (get_or-drop k plan.edges j d) (other_enters plan rows node f (get_or plan.edges (k + j) d) (others (k + j) d (omega arith) (omega arith)))) in
      let whole : list_any p (take (length plan.edges) plan.edges) ≡ list_any p (take k plan.edges) =
      ap (list_any p) (take-length plan.edges) ∙ ap (list_any p) (sym (take-append-drop k plan.edges)) ∙ list_any-append p (take k plan.edges) (drop k plan.edges)
      ∙ ap (λ b. list_any p (take k plan.edges) || b) rest ∙ or_none (list_any p (take k plan.edges)) in
      so_far.marks f small ∙ ap (λ b. is_marked old f || b) (sym whole);
}

-- the edge after the last edge of a node is another node's, and so are all edges after it
pub GathersTo-broken : (plan : Plan) (rows : List (List Bool)) (edges : List Edge) (node first k : ℕ) (e : Edge) (old row : List Bool) → edges ≡ plan.edges
    → IsNonDecreasingBy (λ x. x.node) plan.edges → IsPartitionPoint (λ x. x.node < node) (λ x. node ≤ x.node) edges first
    → first ≤ k → k < length edges → (get_or edges k e).node ≢ node
    → GathersTo plan rows node k old row → GathersTo plan rows node (length plan.edges) old row
GathersTo-broken plan rows edges node first k e old row same rises point low within other so_far =
    let here : node < (get_or edges k e).node = let a : node ≤ (get_or edges k e).node = point.1 k e low within in omega arith in
    let len : length edges ≡ length plan.edges = ap length same in
    GathersTo-all plan rows node k old row
    (λ j d high inside is_node. let up : (get_or plan.edges k d).node ≤ (get_or plan.edges j d).node = rises k j d high inside in
    let is_e : get_or plan.edges k d ≡ get_or edges k e = get_or_default plan.edges k d e (omega arith) ∙ ap (λ es. get_or es k e) (sym same) in
    let at_e : (get_or edges k e).node ≤ (get_or plan.edges j d).node = subst (λ x. x.node ≤ (get_or plan.edges j d).node) is_e up in omega arith)
    so_far
