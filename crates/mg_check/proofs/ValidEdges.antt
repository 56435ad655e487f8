-- The edges of a plan: what they join, and which of them are back.
use Rattle.std.proofs.Common.{ℕ, zero, suc, ◌+◌, ◌≡◌, List, [], ◌∷◌, ◌++◌, All, true, Option, None, Some, IfSome, inl, inr, ◌⊎◌, length, map, refl, sym, ap, ◌∙◌, subst}
use Rattle.std.specs.Prelude.{slice_get, IsSomeAnd}
use Rattle.std.specs.List.{AllByRecursion, enumerate_from, flat_map}
use Rattle.std.proofs.lemmas.Bool.{false≢true, eqb-true}
use Rattle.std.proofs.lemmas.List.{map-append}
use Rattle.std.proofs.lemmas.List.Elements.{All-from_recursion}
use Rattle.std.proofs.lemmas.Option.{same_Some}
use Rattle.mg_config.specs.Config.{GraphView}
use Rattle.mg_subgraph.specs.Refusals.{port_names}
use Rattle.mg_calc.specs.declared.edge.Edge.{Edge}
use Rattle.mg_calc.specs.declared.law.Law.TheVariants.{Loopback}
use Rattle.mg_calc.specs.declared.plan_node.PlanNode.{PlanNode}
use Rattle.mg_calc.specs.Plan.{Ends, ends_of, ends_at, all_ends, EndsAtLoop, EndsAtFinished}
use Rattle.mg_calc.specs.Shape.{IsLimiter}
use Rattle.mg_check.specs.Drafts.{DraftView}
use Rattle.mg_check.specs.Names.{number_among}
use Rattle.mg_check.specs.Joining.{stream_names, side_names, is_back_at, edges_into, node_edges, edges}
use Rattle.mg_check.specs.Planning.{plan_node, plan_nodes, plan_of}
use Rattle.mg_check.specs.Code.Sound.{IsBackPort, IsSound}
use Rattle.mg_calc.proofs.Earlier.{at_place}
use Rattle.mg_check.proofs.ValidLists.{joined, pieces}

-- the edge into a port, and what it joins
abbrev pub edge_to : List (List ℕ) → ℕ → Option ℕ → ℕ × List ℕ → Edge
edge_to names node back e = record { stream = number_among names e.1; node = node; port = e.0; back = is_back_at back e.0 }

abbrev end_at : ℕ → ℕ × ℕ → Ends
end_at node e = record { stream = e.1; node = node; port = e.0 }

ends_from : (names : List (List ℕ)) (node : ℕ) (back : Option ℕ) (n : ℕ) (inputs : List (List ℕ))
    → map ends_of (map (edge_to names node back) (enumerate_from n inputs)) ≡ map (end_at node) (enumerate_from n (map (number_among names) inputs))
ends_from names node back n [] = refl
ends_from names node back n (x ∷ xs) = ap (λ l. end_at node (n, number_among names x) ∷ l) (ends_from names node back (n + 1) xs)

-- those of each node
abbrev pub into_node : List (List ℕ) → ℕ × DraftView → List Edge
into_node names e = edges_into names e.0 e.1.back e.1.inputs

abbrev at_node : ℕ × PlanNode → List Ends
at_node e = ends_at e.0 e.1.inputs

node_ends : (names sides : List (List ℕ)) (n first : ℕ) (ds : List DraftView) → map ends_of (flat_map (into_node names) (enumerate_from n ds)) ≡ flat_map at_node (enumerate_from n (plan_nodes names sides first ds))
node_ends names sides n first [] = refl
node_ends names sides n first (d ∷ ds) =
    map-append ends_of (into_node names (n, d)) (flat_map (into_node names) (enumerate_from (n + 1) ds))
    ∙ (ap (λ l. l ++ map ends_of (flat_map (into_node names) (enumerate_from (n + 1) ds))) (ends_from names n d.back 0 d.inputs)
    ∙ ap (λ l. ends_at n (map (number_among names) d.inputs) ++ l) (node_ends names sides (n + 1) (first + length d.outputs) ds))

pub nodes_long : (streams sides : List (List ℕ)) (first : ℕ) (ds : List DraftView) → length (plan_nodes streams sides first ds) ≡ length ds
nodes_long streams sides first [] = refl
nodes_long streams sides first (d ∷ ds) = ap suc (nodes_long streams sides (first + length d.outputs) ds)

pub valid_edges : (graph : GraphView) (ds : List DraftView) → map ends_of (plan_of graph ds).edges ≡ all_ends (plan_of graph ds)
valid_edges graph ds =
    let names = stream_names graph ds in
    let sides = side_names graph ds in
    let nodes = plan_nodes names sides (length graph.inputs) ds in
    map-append ends_of (node_edges graph ds) (edges_into names (length ds) None (port_names graph.outputs))
    ∙ (ap (λ l. l ++ map ends_of (edges_into names (length ds) None (port_names graph.outputs))) (node_ends names sides 0 (length graph.inputs) ds)
    ∙ (ap (λ l. flat_map at_node (enumerate_from 0 nodes) ++ l) (ends_from names (length ds) None 0 (port_names graph.outputs))
    ∙ ap (λ k. flat_map at_node (enumerate_from 0 nodes) ++ ends_at k (map (number_among names) (port_names graph.outputs))) (sym (nodes_long names sides (length graph.inputs) ds))))

-- the plan's node of a draft
pub node_of : (streams sides : List (List ℕ)) (first : ℕ) (ds : List DraftView) (k : ℕ) (d : DraftView) → slice_get ds k ≡ Some d → (from : ℕ) × (slice_get (plan_nodes streams sides first ds) k ≡ Some (plan_node streams sides from d))
node_of streams sides first [] k d here = cc
node_of streams sides first (e ∷ ds) zero d here = (first, ap (λ x. Some (plan_node streams sides first x)) (same_Some e d here))
node_of streams sides first (e ∷ ds) (suc k) d here = node_of streams sides (first + length e.outputs) ds k d here

-- what holds of each edge into a consumer
pub edges_each : (P : Edge → Type 0) (names : List (List ℕ)) (node : ℕ) (back : Option ℕ) (inputs : List (List ℕ)) → ((port : ℕ) (name : List ℕ) → P (edge_to names node back (port, name)))
    → AllByRecursion P (edges_into names node back inputs)
edges_each P names node back inputs each = from 0 inputs
  where
    from : (n : ℕ) (xs : List (List ℕ)) → AllByRecursion P (map (edge_to names node back) (enumerate_from n xs))
    from n [] = tt
    from n (x ∷ xs) = (each n x, from (n + 1) xs)

-- a back edge ends at LOOP, or at FINISHED of a limiter
abbrev pub MayEnd : GraphView → List DraftView → Edge → Type 0
MayEnd graph ds e = EndsAtLoop (plan_of graph ds) e ⊎ EndsAtFinished (plan_of graph ds) e

back_is : (d : DraftView) (back : Option ℕ) (port : ℕ) → IfSome back (IsBackPort d.law) → is_back_at back port ≡ true → IsBackPort d.law port
back_is d None port known marked = absurd (false≢true marked)
back_is d (Some back) port known marked = subst (IsBackPort d.law) (eqb-true back port marked) known

ends_back : (graph : GraphView) (ds : List DraftView) (k : ℕ) (d : DraftView) (port : ℕ) (name : List ℕ) → IsSound d → slice_get ds k ≡ Some d → is_back_at d.back port ≡ true
    → MayEnd graph ds (edge_to (stream_names graph ds) k d.back (port, name))
ends_back graph ds k d port name sound here marked =
    let node = node_of (stream_names graph ds) (side_names graph ds) (length graph.inputs) ds k d here in
    elim (back_is d d.back port sound.back marked) [
      | inl (at, law) ↦ inl (at, subst (λ o. IsSomeAnd o (λ n. n.law ≡ Loopback)) (sym node.1) law)
      | inr (at, law) ↦ inr (at, subst (λ o. IsSomeAnd o (λ n. IsLimiter n.law)) (sym node.1) law)
    ]

pub valid_back : (graph : GraphView) (ds : List DraftView) → AllByRecursion IsSound ds → All (λ e. e.back ≡ true → MayEnd graph ds e) (plan_of graph ds).edges
valid_back graph ds sound =
    let names = stream_names graph ds in
    let P : Edge → Type 0 = λ e. e.back ≡ true → MayEnd graph ds e in
    All-from_recursion P (edges graph ds)
    (joined P (node_edges graph ds) (edges_into names (length ds) None (port_names graph.outputs))
    (pieces P (into_node names) ds (λ k d here. edges_each P names k d.back d.inputs (λ port name marked. ends_back graph ds k d port name (at_place IsSound ds k d sound here) here marked)))
    (edges_each P names (length ds) None (port_names graph.outputs) (λ port name marked. absurd (false≢true marked))))
