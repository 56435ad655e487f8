-- The edges of a core join what they have to.
use Rattle.std.proofs.Common.{◌≡◌, ℕ, suc, ◌+◌, Bool, true, false, not, List, [], ◌∷◌, ◌++◌, map, filter, length, refl, sym, ap, ap₂, ◌∙◌, inl, inr, arith}
use Rattle.std.specs.List.{flat_map, enumerate_from}
use Rattle.std.proofs.lemmas.Bool.{cases_Bool}
use Rattle.std.proofs.lemmas.List.{map-append}
use Rattle.mg_calc.specs.declared.edge.Edge.{Edge}
use Rattle.mg_calc.specs.declared.plan.Plan.{Plan}
use Rattle.mg_calc.specs.declared.plan_node.PlanNode.{PlanNode}
use Rattle.mg_calc.specs.Plan.{Ends, ends_of, ends_at, all_ends}
use Rattle.mg_free.specs.Core.{is_free, is_core, is_free_at, stream_number, node_number, core_node, core_edge, core_of}
use Rattle.mg_free.proofs.Placing.{filter_in, filter_out, filter-both}
use Rattle.mg_free.proofs.Walking.{Walk, walk_begins, walk_core, walk_free, walk_is_free, walk_core_number, walk_end_number, walk_end, walk_end_free}

-- what an edge of the core joins, and which edges those are
abbrev core_ends : Plan → Ends → Ends
core_ends plan x = record { stream = stream_number plan x.stream; node = node_number plan x.node; port = x.port }

abbrev stays : Plan → Ends → Bool
stays plan x = not (is_free_at plan x.node)

abbrev joined : Plan → List Ends → List Ends
joined plan xs = map (core_ends plan) (filter (stays plan) xs)

edges_joined : (plan : Plan) (edges : List Edge) → map ends_of (map (core_edge plan) (filter (λ e. not (is_free_at plan e.node)) edges)) ≡ joined plan (map ends_of edges)
edges_joined plan [] = refl
edges_joined plan (e ∷ edges) =
    let rest = edges_joined plan edges in
    let test : Edge → Bool = λ e. not (is_free_at plan e.node) in
    elim (cases_Bool (not (is_free_at plan e.node))) [
      | inl is ↦ ap (λ (l : List Edge). map ends_of (map (core_edge plan) l)) (filter_in test e edges is)
          ∙ (ap (λ (l : List Ends). core_ends plan (ends_of e) ∷ l) rest ∙ sym (ap (λ (l : List Ends). map (core_ends plan) l) (filter_in (stays plan) (ends_of e) (map ends_of edges) is)))
      | inr isnt ↦ ap (λ (l : List Edge). map ends_of (map (core_edge plan) l)) (filter_out test e edges isnt)
          ∙ (rest ∙ sym (ap (λ (l : List Ends). map (core_ends plan) l) (filter_out (stays plan) (ends_of e) (map ends_of edges) isnt)))
    ]

joined-both : (plan : Plan) (xs ys : List Ends) → joined plan (xs ++ ys) ≡ joined plan xs ++ joined plan ys
joined-both plan xs ys = ap (λ (l : List Ends). map (core_ends plan) l) (filter-both (stays plan) xs ys) ∙ map-append (core_ends plan) (filter (stays plan) xs) (filter (stays plan) ys)

-- the streams at the ports of a consumer, from a port on
abbrev ends_from : ℕ → ℕ → List ℕ → List Ends
ends_from node port streams = map (λ e. record { stream = e.1; node = node; port = e.0 }) (enumerate_from port streams)

-- what ends at a consumer that stays
stay_at : (plan : Plan) (n m port : ℕ) (streams : List ℕ) → is_free_at plan n ≡ false → node_number plan n ≡ m → joined plan (ends_from n port streams) ≡ ends_from m port (map (stream_number plan) streams)
stay_at plan n m port [] free number = refl
stay_at plan n m port (s ∷ streams) free number =
    ap (λ (l : List Ends). map (core_ends plan) l) (filter_in (stays plan) (record { stream = s; node = n; port = port }) (ends_from n (port + 1) streams) (ap not free))
    ∙ ap₂ (λ (k : ℕ) (l : List Ends). record { stream = stream_number plan s; node = k; port = port } ∷ l) number (stay_at plan n m (port + 1) streams free number)

-- and at a free node
leave_at : (plan : Plan) (n port : ℕ) (streams : List ℕ) → is_free_at plan n ≡ true → joined plan (ends_from n port streams) ≡ []
leave_at plan n port [] free = refl
leave_at plan n port (s ∷ streams) free =
    ap (λ (l : List Ends). map (core_ends plan) l) (filter_out (stays plan) (record { stream = s; node = n; port = port }) (ends_from n (port + 1) streams) (ap not free))
    ∙ leave_at plan n (port + 1) streams free

-- what ends at nodes
abbrev node_ends : ℕ → List PlanNode → List Ends
node_ends n nodes = flat_map (λ e. ends_at e.0 e.1.inputs) (enumerate_from n nodes)

not_core : (node : PlanNode) → is_core node ≡ true → is_free node ≡ false
not_core node is = by (is_free node) is
  where
    by : (b : Bool) → not b ≡ true → b ≡ false
    by true e = cc
    by false e = refl

is_left : (node : PlanNode) → is_core node ≡ false → is_free node ≡ true
is_left node isnt = by (is_free node) isnt
  where
    by : (b : Bool) → not b ≡ false → b ≡ true
    by true e = refl
    by false e = cc

nodes_joined : (plan : Plan) (n m : ℕ) (nodes : List PlanNode) → Walk plan n m nodes → joined plan (node_ends n nodes ++ ends_at (length plan.nodes) plan.outputs)
    ≡ node_ends m (map (core_node plan) (filter is_core nodes)) ++ ends_at (m + length (filter is_core nodes)) (map (stream_number plan) plan.outputs)
nodes_joined plan n m [] w =
    let last : node_number plan (length plan.nodes) ≡ m + 0 = ap (node_number plan) (walk_end plan n m w) ∙ (walk_end_number plan n m w ∙ (let z : m ≡ m + 0 = omega arith in z)) in
    stay_at plan (length plan.nodes) (m + 0) 0 plan.outputs (walk_end_free plan) last
nodes_joined plan n m (node ∷ nodes) w =
    let rest = ends_at (length plan.nodes) plan.outputs in
    let regrouped : node_ends n (node ∷ nodes) ++ rest ≡ ends_at n node.inputs ++ (node_ends (n + 1) nodes ++ rest) = grouped (ends_at n node.inputs) (node_ends (n + 1) nodes) rest in
    let parts = ap (joined plan) regrouped ∙ joined-both plan (ends_at n node.inputs) (node_ends (n + 1) nodes ++ rest) in
    elim (cases_Bool (is_core node)) [
      | inl is ↦ (
          let free : is_free_at plan n ≡ false = walk_is_free plan n m node nodes w ∙ not_core node is in
          let here = stay_at plan n m 0 node.inputs free (walk_core_number plan n m node nodes w is) in
          let later = nodes_joined plan (n + 1) (m + 1) nodes (walk_core plan n m node nodes w is) in
          let count : (m + 1) + length (filter is_core nodes) ≡ m + suc (length (filter is_core nodes)) = omega arith in
          let front = ends_at m (map (stream_number plan) node.inputs) in
          let nodes_later = node_ends (m + 1) (map (core_node plan) (filter is_core nodes)) in
          let shown = map (stream_number plan) plan.outputs in
          parts ∙ (ap₂ (λ (a b : List Ends). a ++ b) here later
          ∙ (sym (grouped front nodes_later (ends_at ((m + 1) + length (filter is_core nodes)) shown))
          ∙ (ap (λ k. (front ++ nodes_later) ++ ends_at k shown) count
          ∙ sym (ap (λ (l : List PlanNode). node_ends m (map (core_node plan) l) ++ ends_at (m + length l) shown) (filter_in is_core node nodes is)))))
          )
      | inr isnt ↦ (
          let free : is_free_at plan n ≡ true = walk_is_free plan n m node nodes w ∙ is_left node isnt in
          let here = leave_at plan n 0 node.inputs free in
          let later = nodes_joined plan (n + 1) m nodes (walk_free plan n m node nodes w isnt) in
          parts ∙ (ap₂ (λ (a b : List Ends). a ++ b) here later
          ∙ sym (ap (λ (l : List PlanNode). node_ends m (map (core_node plan) l) ++ ends_at (m + length l) (map (stream_number plan) plan.outputs)) (filter_out is_core node nodes isnt)))
          )
    ]
  where
    grouped : (a b c : List Ends) → (a ++ b) ++ c ≡ a ++ (b ++ c)
    grouped [] b c = refl
    grouped (x ∷ a) b c = ap (λ (l : List Ends). x ∷ l) (grouped a b c)

map_long : (plan : Plan) (nodes : List PlanNode) → length (map (core_node plan) nodes) ≡ length nodes
map_long plan [] = refl
map_long plan (x ∷ nodes) = ap suc (map_long plan nodes)

-- The edges of the core join the streams at the ports of its nodes and of the collector.
pub core_edges_join : (plan : Plan) → map ends_of plan.edges ≡ all_ends plan → map ends_of (core_of plan).edges ≡ all_ends (core_of plan)
core_edges_join plan edges =
    edges_joined plan plan.edges
    ∙ (ap (joined plan) edges
    ∙ (nodes_joined plan 0 0 plan.nodes (walk_begins plan)
    ∙ ap (λ k. node_ends 0 (map (core_node plan) (filter is_core plan.nodes)) ++ ends_at k (map (stream_number plan) plan.outputs))
    (let long = map_long plan (filter is_core plan.nodes) in let z : 0 + length (filter is_core plan.nodes) ≡ length (map (core_node plan) (filter is_core plan.nodes)) = omega (arith, long) in z)))
