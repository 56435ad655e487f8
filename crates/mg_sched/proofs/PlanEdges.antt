-- Where the edges of a valid plan stand. Those into a consumer stand together, one for each of its ports. They stand after those into the
-- consumers before it.
use Rattle.std.proofs.Common.{◌≡◌, ℕ, zero, suc, ◌+◌, ◌<◌, ◌≤◌, List, [], ◌∷◌, ◌++◌, All, Some, length, map, take, slice_get, option_map, ◌⊎◌, inl, inr, ⊎_elim, refl, sym, ap, ◌∙◌, subst, arith}
use Rattle.std.specs.Prelude.{sum_by, unwrap_or}
use Rattle.std.specs.List.{enumerate_from, flat_map}
use Rattle.std.proofs.lemmas.List.{length-append, length-map, take_all}
use Rattle.std.proofs.lemmas.List.Sums.{sum_by-cons, sum_by_more, sum_by-take-le}
use Rattle.std.proofs.lemmas.List.FromFn.{length-enumerate_from, map-range_with_len_more}
use Rattle.std.proofs.lemmas.Option.{none-some, same_Some, slice_get-map, slice_get_within, slice_get_past, slice_get_cases, slice_get-get_or, get_or_from_slice_get}
use Rattle.mg_calc.specs.declared.edge.Edge.{Edge}
use Rattle.mg_calc.specs.declared.plan.Plan.{Plan}
use Rattle.mg_calc.specs.declared.plan_node.PlanNode.{PlanNode}
use Rattle.mg_calc.specs.Plan.{IsValid, Ends, ends_of, ends_at, all_ends, numbers}
use Rattle.mg_node.specs.Job.{ports_of}
use Rattle.mg_sched.specs.Places.{first_edge}

-- ---- lists, place by place

-- what stands in two lists, one after the other
pub joined_at : {X : Type 0} (xs ys : List X) (k : ℕ) (x : X) → slice_get (xs ++ ys) k ≡ Some x
    → (slice_get xs k ≡ Some x) ⊎ ((j : ℕ) × (k ≡ length xs + j) × (slice_get ys j ≡ Some x))
joined_at [] ys k x at = inr (k, omega arith, at)
joined_at (y ∷ xs) ys zero x at = inl at
joined_at (y ∷ xs) ys (suc k) x at = ⊎_elim (λ h. inl h) (λ r. inr (r.0, omega (arith, r.1), r.2)) (joined_at xs ys k x at)

pub at_first : {X : Type 0} (xs ys : List X) (k : ℕ) (x : X) → slice_get xs k ≡ Some x → slice_get (xs ++ ys) k ≡ Some x
at_first [] ys k x at = absurd (none-some x at)
at_first (y ∷ xs) ys zero x at = at
at_first (y ∷ xs) ys (suc k) x at = at_first xs ys k x at

pub at_second : {X : Type 0} (xs ys : List X) (j : ℕ) (y : X) → slice_get ys j ≡ Some y → slice_get (xs ++ ys) (length xs + j) ≡ Some y
at_second [] ys j y at = let e : 0 + j ≡ j = omega arith in ap (slice_get ys) e ∙ at
at_second (x ∷ xs) ys j y at = let e : suc (length xs) + j ≡ suc (length xs + j) = omega arith in ap (slice_get (x ∷ xs ++ ys)) e ∙ at_second xs ys j y at

-- what a mapped list has at a place is made of what stands there
pub mapped_at : {X Y : Type 0} (f : X → Y) (xs : List X) (k : ℕ) (y : Y) → slice_get (map f xs) k ≡ Some y → (x : X) × (slice_get xs k ≡ Some x) × (f x ≡ y)
mapped_at f [] k y at = absurd (none-some y at)
mapped_at f (x ∷ xs) zero y at = (x, refl, same_Some (f x) y at)
mapped_at f (x ∷ xs) (suc k) y at = mapped_at f xs k y at

pub all_at : {X : Type 0} (P : X → Type 0) (xs : List X) (k : ℕ) (x : X) → slice_get xs k ≡ Some x → All P xs → P x
all_at P xs k x at all = subst P (get_or_from_slice_get xs k x x at) (all k x (slice_get_within xs k x at))

-- ---- the pieces of numbered elements, one after the other

-- where something stands in them: at a place of one piece, after the pieces before it
pub record StandsIn {X Y : Type 0} (f : ℕ × X → List Y) (size : X → ℕ) (a : ℕ) (xs : List X) (k : ℕ) (y : Y) : Type 0 where
  pub number : ℕ
  pub element : X
  pub place : ℕ
  pub there : slice_get xs number ≡ Some element
  pub at : slice_get (f (a + number, element)) place ≡ Some y
  pub behind : k ≡ sum_by size (take number xs) + place

abbrev pub piece_of : {X Y : Type 0} (f : ℕ × X → List Y) (size : X → ℕ) → ((k : ℕ) (x : X) → length (f (k, x)) ≡ size x) → (a : ℕ) (xs : List X) (k : ℕ) (y : Y)
    → slice_get (flat_map f (enumerate_from a xs)) k ≡ Some y → StandsIn f size a xs k y
piece_of f size long a [] k y at = absurd (none-some y at)
piece_of f size long a (x ∷ xs) k y at =
    ⊎_elim
    (λ here. let start : a ≡ a + 0 = omega arith in record {
      number = 0;
      element = x;
      place = k;
      there = refl;
      at = subst (λ n. slice_get (f (n, x)) k ≡ Some y) start here;
      behind = omega arith;
    })
    (λ r. let rest = piece_of f size long (a + 1) xs r.0 y r.2 in
    let next : (a + 1) + rest.number ≡ a + suc rest.number = omega arith in record {
      number = suc rest.number;
      element = rest.element;
      place = rest.place;
      there = rest.there;
      at = subst (λ n. slice_get (f (n, rest.element)) rest.place ≡ Some y) next rest.at;
      behind = omega (arith, r.1, rest.behind, long a x, sum_by-cons size x (take rest.number xs));
    })
    (joined_at (f (a, x)) (flat_map f (enumerate_from (a + 1) xs)) k y at)

pub piece_at : {X Y : Type 0} (f : ℕ × X → List Y) (size : X → ℕ) → ((k : ℕ) (x : X) → length (f (k, x)) ≡ size x) → (a : ℕ) (xs : List X) (i : ℕ) (x : X) (j : ℕ) (y : Y)
    → slice_get xs i ≡ Some x → slice_get (f (a + i, x)) j ≡ Some y → slice_get (flat_map f (enumerate_from a xs)) (sum_by size (take i xs) + j) ≡ Some y
piece_at f size long a [] i x j y there at = absurd (none-some x there)
piece_at f size long a (z ∷ xs) zero x j y there at =
    let start : a + 0 ≡ a = omega arith in
    let none : 0 + j ≡ j = omega arith in
    let here : slice_get (f (a, z)) j ≡ Some y = subst (λ e. slice_get (f (a, e)) j ≡ Some y) (sym (same_Some z x there)) (subst (λ n. slice_get (f (n, x)) j ≡ Some y) start at) in
    ap (slice_get (flat_map f (enumerate_from a (z ∷ xs)))) none ∙ at_first (f (a, z)) (flat_map f (enumerate_from (a + 1) xs)) j y here
piece_at f size long a (z ∷ xs) (suc i) x j y there at =
    let next : a + suc i ≡ (a + 1) + i = omega arith in
    let place : sum_by size (z ∷ take i xs) + j ≡ length (f (a, z)) + (sum_by size (take i xs) + j) = omega (arith, long a z, sum_by-cons size z (take i xs)) in
    let rest = piece_at f size long (a + 1) xs i x j y there (subst (λ n. slice_get (f (n, x)) j ≡ Some y) next at) in
    ap (slice_get (flat_map f (enumerate_from a (z ∷ xs)))) place ∙ at_second (f (a, z)) (flat_map f (enumerate_from (a + 1) xs)) (sum_by size (take i xs) + j) y rest

pub pieces_long : {X Y : Type 0} (f : ℕ × X → List Y) (size : X → ℕ) → ((k : ℕ) (x : X) → length (f (k, x)) ≡ size x) → (a : ℕ) (xs : List X)
    → length (flat_map f (enumerate_from a xs)) ≡ sum_by size xs
pieces_long f size long a [] = refl
pieces_long f size long a (x ∷ xs) =
    omega (arith, length-append (f (a, x)) (flat_map f (enumerate_from (a + 1) xs)), long a x, pieces_long f size long (a + 1) xs, sum_by-cons size x xs)

-- ---- what edges join

abbrev into : ℕ × PlanNode → List Ends
into e = ends_at e.0 e.1.inputs

abbrev inputs_count : PlanNode → ℕ
inputs_count node = length node.inputs

ends_long : (k : ℕ) (node : PlanNode) → length (into (k, node)) ≡ inputs_count node
ends_long k node = length-map (enumerate_from 0 node.inputs) _ ∙ length-enumerate_from 0 node.inputs

-- at a port of a consumer
abbrev end_in : ℕ → ℕ × ℕ → Ends
end_in node e = record { stream = e.1; node = node; port = e.0 }

end_there : (node p : ℕ) (streams : List ℕ) (j s : ℕ) → slice_get streams j ≡ Some s
    → slice_get (map (end_in node) (enumerate_from p streams)) j ≡ Some (end_in node (p + j, s))
end_there node p [] j s at = absurd (none-some s at)
end_there node p (t ∷ streams) zero s at =
    let port : p ≡ p + 0 = omega arith in
    ap (λ t. Some (end_in node (p, t))) (same_Some t s at) ∙ ap (λ n. Some (end_in node (n, s))) port
end_there node p (t ∷ streams) (suc j) s at =
    let port : (p + 1) + j ≡ p + suc j = omega arith in
    end_there node (p + 1) streams j s at ∙ ap (λ n. Some (end_in node (n, s))) port

end_of : (node p : ℕ) (streams : List ℕ) (j : ℕ) (end : Ends) → slice_get (map (end_in node) (enumerate_from p streams)) j ≡ Some end
    → (slice_get streams j ≡ Some end.stream) × (end.node ≡ node) × (end.port ≡ p + j)
end_of node p [] j end at = absurd (none-some end at)
end_of node p (t ∷ streams) zero end at =
    let same : end_in node (p, t) ≡ end = same_Some (end_in node (p, t)) end at in
    (ap (λ e. Some e.stream) same, sym (ap (λ e. e.node) same), omega (arith, ap (λ e. e.port) same))
end_of node p (t ∷ streams) (suc j) end at =
    let rest = end_of node (p + 1) streams j end at in
    (rest.0, rest.1, omega (arith, rest.2))

-- ---- consumers

pub ports_of_node : (plan : Plan) (n : ℕ) (node : PlanNode) → slice_get plan.nodes n ≡ Some node → ports_of plan n ≡ node.inputs
ports_of_node plan n node at = ap (λ o. unwrap_or (option_map (λ x. x.inputs) o) plan.outputs) at

pub ports_of_collector : (plan : Plan) → ports_of plan (length plan.nodes) ≡ plan.outputs
ports_of_collector plan = ap (λ o. unwrap_or (option_map (λ x. x.inputs) o) plan.outputs) (slice_get_past plan.nodes (length plan.nodes) (omega arith))

-- the edges into the collector stand after those into all nodes
before_collector : (plan : Plan) → length (flat_map into (enumerate_from 0 plan.nodes)) ≡ first_edge plan (length plan.nodes)
before_collector plan = pieces_long into inputs_count ends_long 0 plan.nodes ∙ ap (sum_by inputs_count) (sym (take_all (length plan.nodes) plan.nodes (omega arith)))

-- what stands at a place of the list of ends
pub record IsEndAt (plan : Plan) (k : ℕ) (end : Ends) : Type 0 where
  pub consumer : end.node ≤ length plan.nodes
  pub stream : slice_get (ports_of plan end.node) end.port ≡ Some end.stream
  pub place : k ≡ first_edge plan end.node + end.port

end_place : (plan : Plan) (k : ℕ) (end : Ends) → slice_get (all_ends plan) k ≡ Some end → IsEndAt plan k end
end_place plan k end at =
    ⊎_elim
    (λ here. let s = piece_of into inputs_count ends_long 0 plan.nodes k end here in
    let e = end_of (0 + s.number) 0 s.element.inputs s.place end s.at in
    let node : s.number ≡ end.node = omega (arith, e.1) in
    let port : s.place ≡ end.port = omega (arith, e.2) in
    let there : slice_get plan.nodes end.node ≡ Some s.element = subst (λ n. slice_get plan.nodes n ≡ Some s.element) node s.there in
    let place : k ≡ first_edge plan end.node + s.place = subst (λ n. k ≡ first_edge plan n + s.place) node s.behind in record {
      consumer = omega (arith, slice_get_within plan.nodes end.node s.element there);
      stream = ap (λ ports. slice_get ports end.port) (ports_of_node plan end.node s.element there) ∙ subst (λ j. slice_get s.element.inputs j ≡ Some end.stream) port e.0;
      place = omega (arith, place, port);
    })
    (λ r. let e = end_of (length plan.nodes) 0 plan.outputs r.0 end r.2 in
    let port : r.0 ≡ end.port = omega (arith, e.2) in
    let first : first_edge plan (length plan.nodes) ≡ first_edge plan end.node = ap (first_edge plan) (sym e.1) in record {
      consumer = omega (arith, e.1);
      stream = ap (λ n. slice_get (ports_of plan n) end.port) e.1 ∙ (ap (λ ports. slice_get ports end.port) (ports_of_collector plan) ∙ subst (λ j. slice_get plan.outputs j ≡ Some end.stream) port e.0);
      place = omega (arith, r.1, before_collector plan, first, port);
    })
    (joined_at (flat_map into (enumerate_from 0 plan.nodes)) (ends_at (length plan.nodes) plan.outputs) k end at)

end_at : (plan : Plan) (node port s : ℕ) → node ≤ length plan.nodes → slice_get (ports_of plan node) port ≡ Some s
    → slice_get (all_ends plan) (first_edge plan node + port) ≡ Some (end_in node (port, s))
end_at plan node port s within at =
    ⊎_elim
    (λ here. let ports : slice_get here.0.inputs port ≡ Some s = subst (λ l. slice_get l port ≡ Some s) (ports_of_node plan node here.0 here.2) at in
    let number : 0 + node ≡ node = omega arith in
    let place : 0 + port ≡ port = omega arith in
    let end : slice_get (into (0 + node, here.0)) port ≡ Some (end_in node (port, s)) =
    end_there (0 + node) 0 here.0.inputs port s ports ∙ (ap (λ n. Some (end_in n (0 + port, s))) number ∙ ap (λ p. Some (end_in node (p, s))) place) in
    at_first (flat_map into (enumerate_from 0 plan.nodes)) (ends_at (length plan.nodes) plan.outputs) (first_edge plan node + port) _
    (piece_at into inputs_count ends_long 0 plan.nodes node here.0 port (end_in node (port, s)) here.2 end))
    (λ past. let last : length plan.nodes ≡ node = omega (arith, within, past.0) in
    let ports : slice_get plan.outputs port ≡ Some s = subst (λ l. slice_get l port ≡ Some s) (ap (ports_of plan) (sym last) ∙ ports_of_collector plan) at in
    let port_is : 0 + port ≡ port = omega arith in
    let end : slice_get (ends_at (length plan.nodes) plan.outputs) port ≡ Some (end_in node (port, s)) =
    end_there (length plan.nodes) 0 plan.outputs port s ports ∙ (ap (λ n. Some (end_in n (0 + port, s))) last ∙ ap (λ p. Some (end_in node (p, s))) port_is) in
    let first : first_edge plan (length plan.nodes) ≡ first_edge plan node = ap (first_edge plan) last in
    let place : first_edge plan node + port ≡ length (flat_map into (enumerate_from 0 plan.nodes)) + port = omega (arith, before_collector plan, first) in
    ap (slice_get (all_ends plan)) place ∙ at_second (flat_map into (enumerate_from 0 plan.nodes)) (ends_at (length plan.nodes) plan.outputs) port _ end)
    (slice_get_cases plan.nodes node).1

-- ---- edges

edge_known : (plan : Plan) → IsValid plan → (k : ℕ) (e : Edge) → slice_get plan.edges k ≡ Some e → IsEndAt plan k (ends_of e)
edge_known plan valid k e at =
    end_place plan k (ends_of e) (ap (λ l. slice_get l k) (sym valid.edges) ∙ (slice_get-map ends_of plan.edges k ∙ ap (option_map ends_of) at))

-- an edge leads to a port of a consumer, with the stream that stands there
pub edge_ends : (plan : Plan) → IsValid plan → (k : ℕ) (e : Edge) → slice_get plan.edges k ≡ Some e
    → (e.node ≤ length plan.nodes) × (slice_get (ports_of plan e.node) e.port ≡ Some e.stream)
edge_ends plan valid k e at = let known = edge_known plan valid k e at in (known.consumer, known.stream)

-- it stands after those into the consumers before, at its port
pub edge_place : (plan : Plan) → IsValid plan → (k : ℕ) (e : Edge) → slice_get plan.edges k ≡ Some e
    → (k ≡ first_edge plan e.node + e.port) × (e.port < length (ports_of plan e.node))
edge_place plan valid k e at =
    let known = edge_known plan valid k e at in
    (known.place, slice_get_within (ports_of plan e.node) e.port e.stream known.stream)

-- each port of a consumer has an edge
pub edge_number : (plan : Plan) → IsValid plan → (node port : ℕ) → node ≤ length plan.nodes → port < length (ports_of plan node)
    → (e : Edge) × (slice_get plan.edges (first_edge plan node + port) ≡ Some e) × (e.node ≡ node) × (e.port ≡ port)
edge_number plan valid node port consumer within =
    let end = end_at plan node port _ consumer (slice_get-get_or (ports_of plan node) port 0 within) in
    let e = mapped_at ends_of plan.edges (first_edge plan node + port) _ (ap (λ l. slice_get l (first_edge plan node + port)) valid.edges ∙ end) in
    (e.0, e.1, ap (λ x. x.node) e.2, ap (λ x. x.port) e.2)

-- its stream is there
pub edge_stream : (plan : Plan) → IsValid plan → (k : ℕ) (e : Edge) → slice_get plan.edges k ≡ Some e → e.stream < length plan.streams
edge_stream plan valid k e at =
    let known = edge_known plan valid k e at in
    let IsThere : ℕ → Type 0 = λ s. s < length plan.streams in
    ⊎_elim
    (λ here. all_at IsThere here.0.inputs e.port e.stream (subst (λ l. slice_get l e.port ≡ Some e.stream) (ports_of_node plan e.node here.0 here.2) known.stream)
    (all_at (λ node. All IsThere node.inputs) plan.nodes e.node here.0 here.2 valid.ranges.read))
    (λ past. let last : e.node ≡ length plan.nodes = omega (arith, known.consumer, past.0) in
    all_at IsThere plan.outputs e.port e.stream (subst (λ l. slice_get l e.port ≡ Some e.stream) (ap (ports_of plan) last ∙ ports_of_collector plan) known.stream) valid.ranges.shown)
    (slice_get_cases plan.nodes e.node).1

-- ---- counts

-- there are so many edges, those into the collector among them
pub edges_count : (plan : Plan) → IsValid plan → length plan.edges ≡ first_edge plan (length plan.nodes) + length plan.outputs
edges_count plan valid =
    let into_nodes : List Ends = flat_map into (enumerate_from 0 plan.nodes) in
    let into_collector : List Ends = ends_at (length plan.nodes) plan.outputs in
    let collected : length into_collector ≡ length plan.outputs = length-map (enumerate_from 0 plan.outputs) (end_in (length plan.nodes)) ∙ length-enumerate_from 0 plan.outputs in
    omega (arith, length-map plan.edges ends_of, ap length valid.edges, length-append into_nodes into_collector, before_collector plan, collected)

-- the first edge of each consumer is among them
pub first_edge_within : (plan : Plan) → IsValid plan → (node : ℕ) → first_edge plan node ≤ length plan.edges
first_edge_within plan valid node =
    let all : first_edge plan (length plan.nodes) ≡ sum_by inputs_count plan.nodes = ap (sum_by inputs_count) (take_all (length plan.nodes) plan.nodes (omega arith)) in
    omega (arith, sum_by-take-le inputs_count plan.nodes node, all, edges_count plan valid)

-- it stands after the edges of the consumer before
pub first_edge_next : (plan : Plan) (i : ℕ) (node : PlanNode) → slice_get plan.nodes i ≡ Some node → first_edge plan (i + 1) ≡ first_edge plan i + length node.inputs
first_edge_next plan i node at =
    sum_by_more inputs_count plan.nodes i node (slice_get_within plan.nodes i node at) ∙ ap (λ n. first_edge plan i + length n.inputs) (get_or_from_slice_get plan.nodes i node node at)

-- one more of the first edges
pub first_edges_next : (plan : Plan) (i : ℕ) (firsts more : List ℕ) (first : ℕ) → firsts ≡ map (first_edge plan) (numbers i) → first ≡ first_edge plan i
    → more ≡ firsts ++ first ∷ [] → more ≡ map (first_edge plan) (numbers (i + 1))
first_edges_next plan i firsts more first known is is_more =
    is_more ∙ (ap (λ l. l ++ first ∷ []) known ∙ (ap (λ n. map (first_edge plan) (numbers i) ++ n ∷ []) is ∙ sym (map-range_with_len_more (first_edge plan) 0 i i (omega arith))))
