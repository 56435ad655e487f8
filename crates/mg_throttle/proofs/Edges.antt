-- The edges of a valid plan: those of a consumer stand together, and their streams are written by what is there.
use Rattle.std.proofs.Common.{◌≡◌, ℕ, ◌+◌, ◌<◌, ◌≤◌, zero, suc, List, [], ◌∷◌, ◌++◌, length, map, get_or, All, Some, slice_get, ◌∙◌, sym, ap, subst, arith, append_assoc}
use Rattle.std.proofs.lemmas.List.{get_or-map, length-map}
use Rattle.std.proofs.lemmas.List.FromFn.{get_or-range_with_len, length-range_with_len, get_or-enumerate_from, length-enumerate_from}
use Rattle.std.proofs.lemmas.List.Elements.{All-append, All-map, All-nil, All-head, All-tail, All-same}
use Rattle.std.proofs.lemmas.Option.{slice_get_within, get_or_from_slice_get}
use Rattle.std.specs.List.{enumerate_from, flat_map}
use Rattle.std.specs.List.Sorted.{IsNonDecreasingBy}
use Rattle.mg_calc.specs.declared.plan.Plan.{Plan}
use Rattle.mg_calc.specs.declared.plan_node.PlanNode.{PlanNode}
use Rattle.mg_calc.specs.declared.plan_stream.PlanStream.{PlanStream}
use Rattle.mg_calc.specs.declared.plan_stream.Producer.{Producer}
use Rattle.mg_calc.specs.declared.plan_stream.Producer.TheVariants.{Input, Node}
use Rattle.mg_calc.specs.Plan.{IsValid, Ends, ends_of, ends_at, all_ends, producers, numbers}

-- consumers rise along a list, from one on
abbrev Rises : ℕ → List Ends → Type 0
Rises low [] = Unit {0}
Rises low (e ∷ es) = (low ≤ e.node) × Rises e.node es

Rises-weaker : (a b : ℕ) (es : List Ends) → a ≤ b → Rises b es → Rises a es
Rises-weaker a b [] le r = tt
Rises-weaker a b (e ∷ es) le r = (omega (arith, r.0), r.1)

-- the ports of one consumer, and then what rises from it
rises_at : (node p : ℕ) (streams : List ℕ) (es : List Ends) → Rises node es
    → Rises node (map (λ e. record { stream = e.1; node = node; port = e.0 }) (enumerate_from p streams) ++ es)
rises_at node p [] es r = r
rises_at node p (s ∷ ss) es r = (omega arith, rises_at node (p + 1) ss es r)

rises_all : (i : ℕ) (nodes : List PlanNode) (es : List Ends) → Rises (i + length nodes) es
    → Rises i (flat_map (λ e. ends_at e.0 e.1.inputs) (enumerate_from i nodes) ++ es)
rises_all i [] es r = Rises-weaker i (i + 0) es (omega arith) r
rises_all i (n ∷ ns) es r =
    rw append_assoc (rises_at i 0 n.inputs (flat_map (λ e. ends_at e.0 e.1.inputs) (enumerate_from (i + 1) ns) ++ es)
    (Rises-weaker i (i + 1) _ (omega arith) (rises_all (i + 1) ns es (Rises-weaker (i + 1 + length ns) (i + length (n ∷ ns)) es (omega arith) r))))

rises_end : (node p : ℕ) (streams : List ℕ) → Rises node (map (λ e. record { stream = e.1; node = node; port = e.0 }) (enumerate_from p streams))
rises_end node p [] = tt
rises_end node p (s ∷ ss) = (omega arith, rises_end node (p + 1) ss)

low_of : (low : ℕ) (es : List Ends) (d : Ends) (j : ℕ) → Rises low es → j < length es → low ≤ (get_or es j d).node
low_of low [] d j r within = absurd (omega arith)
low_of low (e ∷ es) d zero r within = r.0
low_of low (e ∷ es) d (suc j) r within = omega (arith, low_of e.node es d j r.1 (omega arith), r.0)

rise_by : (low : ℕ) (es : List Ends) (d : Ends) (i j : ℕ) → Rises low es → i ≤ j → j < length es → (get_or es i d).node ≤ (get_or es j d).node
rise_by low [] d i j r le within = absurd (omega arith)
rise_by low (e ∷ es) d zero zero r le within = omega arith
rise_by low (e ∷ es) d zero (suc j) r le within = low_of e.node es d j r.1 (omega arith)
rise_by low (e ∷ es) d (suc i) zero r le within = absurd (omega arith)
rise_by low (e ∷ es) d (suc i) (suc j) r le within = rise_by e.node es d i j r.1 (omega arith) (omega arith)

-- the consumers of a valid plan's edges rise
pub edges_rise : (plan : Plan) → IsValid plan → IsNonDecreasingBy (λ e. e.node) plan.edges
edges_rise plan valid i j d le within =
    let ends : List Ends = all_ends plan in
    let rises : Rises 0 ends = rises_all 0 plan.nodes (ends_at (length plan.nodes) plan.outputs)
    (Rises-weaker (0 + length plan.nodes) (length plan.nodes) (ends_at (length plan.nodes) plan.outputs) (omega arith) (rises_end (length plan.nodes) 0 plan.outputs)) in
    let len : length ends ≡ length plan.edges = sym (ap length valid.edges) ∙ length-map plan.edges ends_of in
    let by_ends : (get_or ends i (ends_of d)).node ≤ (get_or ends j (ends_of d)).node = rise_by 0 ends (ends_of d) i j rises le (omega arith) in
    let mapped : (get_or (map ends_of plan.edges) i (ends_of d)).node ≤ (get_or (map ends_of plan.edges) j (ends_of d)).node =
    subst (λ xs. (get_or xs i (ends_of d)).node ≤ (get_or xs j (ends_of d)).node) (sym valid.edges) by_ends in
    rw (get_or-map ends_of plan.edges i d (ends_of d) (omega arith), get_or-map ends_of plan.edges j d (ends_of d) within) at mapped

-- ---- producers
abbrev pub InRange : Plan → Producer → Type 0
InRange plan (Input input) = input < length plan.inputs
InRange plan (Node node port) = node < length plan.nodes

All-flat_map : {X A : Type 0} (P : A → Type 0) (f : X → List A) (xs : List X) → All (λ x. All P (f x)) xs → All P (flat_map f xs)
All-flat_map P f [] h = All-nil P
All-flat_map P f (x ∷ xs) h = All-append P (f x) (flat_map f xs) (All-head (λ y. All P (f y)) x xs h) (All-flat_map P f xs (All-tail (λ y. All P (f y)) x xs h))

producers_in : (plan : Plan) → All (InRange plan) (producers plan)
producers_in plan =
    All-append (InRange plan) (map Input (numbers (length plan.inputs))) _
    (All-map (InRange plan) Input (numbers (length plan.inputs))
    (λ k d within. let e = get_or-range_with_len 0 (length plan.inputs) k d (let l = length-range_with_len 0 (length plan.inputs) in omega arith) in
    let l = length-range_with_len 0 (length plan.inputs) in omega arith))
    (All-flat_map (InRange plan) (λ e. map (λ port. Node e.0 port) (numbers (length e.1.outputs))) (enumerate_from 0 plan.nodes)
    (λ k d within. let l = length-enumerate_from 0 plan.nodes in
    let small : k < length plan.nodes = omega arith in
    rw (get_or-enumerate_from 0 plan.nodes k d small)
    (All-map (InRange plan) (λ port. Node (0 + k) port) (numbers (length (get_or plan.nodes k d.1).outputs)) (λ _ _ _. omega arith))))

-- the producer of a stream is there
pub producer_in : (plan : Plan) → IsValid plan → (s : ℕ) (stream : PlanStream) → slice_get plan.streams s ≡ Some stream → InRange plan stream.producer
producer_in plan valid s stream at =
    let within : s < length plan.streams = slice_get_within plan.streams s stream at in
    let all : All (InRange plan) (map (λ x. x.producer) plan.streams) = All-same (InRange plan) (map (λ x. x.producer) plan.streams) (producers plan) valid.producers (producers_in plan) in
    let here : InRange plan (get_or (map (λ x. x.producer) plan.streams) s stream.producer) = all s stream.producer (let l = length-map plan.streams (λ x. x.producer) in omega arith) in
    let same : get_or (map (λ x. x.producer) plan.streams) s stream.producer ≡ stream.producer =
    get_or-map (λ x. x.producer) plan.streams s stream stream.producer within ∙ ap (λ x. x.producer) (get_or_from_slice_get plan.streams s stream stream at) in
    subst (InRange plan) same here

-- the graph input, or the node, that writes a stream
pub input_in : (plan : Plan) → IsValid plan → (s : ℕ) (stream : PlanStream) (input : ℕ) → slice_get plan.streams s ≡ Some stream → stream.producer ≡ Input input
    → input < length plan.inputs
input_in plan valid s stream input at is = subst (InRange plan) is (producer_in plan valid s stream at)

pub node_in : (plan : Plan) → IsValid plan → (s : ℕ) (stream : PlanStream) (node port : ℕ) → slice_get plan.streams s ≡ Some stream → stream.producer ≡ Node node port
    → node < length plan.nodes
node_in plan valid s stream node port at is = subst (InRange plan) is (producer_in plan valid s stream at)
