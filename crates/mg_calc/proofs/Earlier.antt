-- In a valid plan each input of a node comes from a graph input or from an earlier node in the order. Only LOOP of a loopback may come
-- from another node.
use Rattle.std.proofs.Common.{◌≡◌, ℕ, zero, suc, ◌+◌, ◌<◌, ◌≤◌, zero-add, length, List, [], ◌∷◌, ◌++◌, map, true, false, Option, Some, None, IfSome, IsSomeAnd, slice_get, get_or, All, refl, sym, ap, ap₂, subst, arith, inl, inr, ◌⊎◌}
use Rattle.std.specs.List.{AllByRecursion, flat_map, range_with_len, enumerate_from}
use Rattle.std.specs.Option.{option_and_then}
use Rattle.std.proofs.lemmas.Bool.{cases_Bool}
use Rattle.std.proofs.lemmas.List.Concat.{flat_map-cons}
use Rattle.std.proofs.lemmas.List.Elements.{recursion_from_All}
use Rattle.mg_value.specs.Payload.{Plain}
use Rattle.mg_settled.specs.Prefix.{StreamPrefix}
use Rattle.mg_calc.specs.declared.edge.Edge.{Edge}
use Rattle.mg_calc.specs.declared.law.Law.TheVariants.{Loopback}
use Rattle.mg_calc.specs.declared.plan.Plan.{Plan}
use Rattle.mg_calc.specs.declared.plan_node.PlanNode.{PlanNode}
use Rattle.mg_calc.specs.declared.plan_stream.PlanStream.{PlanStream}
use Rattle.mg_calc.specs.declared.plan_stream.Producer.{Producer}
use Rattle.mg_calc.specs.declared.plan_stream.Producer.TheVariants.{Input, Node}
use Rattle.mg_calc.specs.Plan.{IsValid, Ends, ends_of, ends_at, all_ends, producers, writing_node, StandsBefore, LeadsForward, EndsAtLoop, numbers}
use Rattle.mg_calc.specs.Equations.{stream_of}
use Rattle.mg_calc.proofs.Positions.{Agree, agree_at, givers}

-- what an edge joins, of edges that end at a loop or lead forward
abbrev AtLoop : Plan → Ends → Type 0
AtLoop plan x = (x.port ≡ 0) × IsSomeAnd (slice_get plan.nodes x.node) (λ node. node.law ≡ Loopback)

abbrev pub Forward : Plan → Ends → Type 0
Forward plan x = IfSome (option_and_then (λ s. writing_node s.producer) (slice_get plan.streams x.stream)) (λ writer. StandsBefore plan.order writer x.node)

abbrev Comes : Plan → Ends → Type 0
Comes plan x = AtLoop plan x ⊎ Forward plan x

edge_comes : (plan : Plan) (e : Edge) → (e.back ≡ false → LeadsForward plan e) → (e.back ≡ true → EndsAtLoop plan e) → Comes plan (ends_of e)
edge_comes plan e forward back = elim (cases_Bool e.back) [ inl t ↦ inl (back t) | inr f ↦ inr (forward f) ]

edges_come : (plan : Plan) (edges : List Edge) → AllByRecursion (λ e. e.back ≡ false → LeadsForward plan e) edges → AllByRecursion (λ e. e.back ≡ true → EndsAtLoop plan e) edges → AllByRecursion (Comes plan) (map ends_of edges)
edges_come plan [] f b = tt
edges_come plan (e ∷ edges) f b = (edge_comes plan e f.0 b.0, edges_come plan edges f.1 b.1)

all_front : {X : Type 0} (P : X → Type 0) (xs ys : List X) → AllByRecursion P (xs ++ ys) → AllByRecursion P xs
all_front P [] ys a = tt
all_front P (x ∷ xs) ys a = (a.0, all_front P xs ys a.1)

all_back : {X : Type 0} (P : X → Type 0) (xs ys : List X) → AllByRecursion P (xs ++ ys) → AllByRecursion P ys
all_back P [] ys a = a
all_back P (x ∷ xs) ys a = all_back P xs ys a.1

-- the inputs of each node, by their numbers from k on
abbrev NodesCome : (Ends → Type 0) → ℕ → List PlanNode → Type 0
NodesCome P k [] = Unit {0}
NodesCome P k (node ∷ nodes) = AllByRecursion P (ends_at k node.inputs) × NodesCome P (k + 1) nodes

nodes_come : (P : Ends → Type 0) (k : ℕ) (nodes : List PlanNode) → AllByRecursion P (flat_map (λ e. ends_at e.0 e.1.inputs) (enumerate_from k nodes)) → NodesCome P k nodes
nodes_come P k [] a = tt
nodes_come P k (node ∷ nodes) a =
    let b : AllByRecursion P (ends_at k node.inputs ++ flat_map (λ e. ends_at e.0 e.1.inputs) (enumerate_from (k + 1) nodes)) =
    subst (AllByRecursion P) (flat_map-cons (λ e. ends_at e.0 e.1.inputs) (k, node) (enumerate_from (k + 1) nodes)) a in
    (all_front P (ends_at k node.inputs) _ b, nodes_come P (k + 1) nodes (all_back P (ends_at k node.inputs) _ b))

pub some_same : {X : Type 0} (x y : X) → Some x ≡ Some y → x ≡ y
some_same x y e = ap (λ o. (elim o [ Some z ↦ z | None ↦ x ])) e

come_at : (P : Ends → Type 0) (k w : ℕ) (nodes : List PlanNode) (node : PlanNode) → NodesCome P k nodes → slice_get nodes w ≡ Some node → AllByRecursion P (ends_at (k + w) node.inputs)
come_at P k w [] node c e = absurd cc
come_at P k zero (n ∷ nodes) node c e =
    subst (λ (i : ℕ). AllByRecursion P (ends_at i node.inputs)) (let s : k ≡ k + 0 = omega arith in s)
    (subst (λ (m : PlanNode). AllByRecursion P (ends_at k m.inputs)) (some_same n node e) c.0)
come_at P k (suc w) (n ∷ nodes) node c e =
    subst (λ (i : ℕ). AllByRecursion P (ends_at i node.inputs)) (let s : k + 1 + w ≡ k + suc w = omega arith in s)
    (come_at P (k + 1) w nodes node c.1 e)

-- what holds of each edge holds of the edges into a node
pub edges_into : (plan : Plan) (P : Ends → Type 0) (w : ℕ) (node : PlanNode) → IsValid plan → AllByRecursion P (map ends_of plan.edges) → slice_get plan.nodes w ≡ Some node → AllByRecursion P (ends_at w node.inputs)
edges_into plan P w node valid edges e =
    let ends : AllByRecursion P (all_ends plan) = subst (AllByRecursion P) valid.edges edges in
    let nodes = nodes_come P 0 plan.nodes (all_front P (flat_map (λ e. ends_at e.0 e.1.inputs) (enumerate_from 0 plan.nodes)) (ends_at (length plan.nodes) plan.outputs) ends) in
    subst (λ (i : ℕ). AllByRecursion P (ends_at i node.inputs)) (zero-add w) (come_at P 0 w plan.nodes node nodes e)

inputs_come : (plan : Plan) (w : ℕ) (node : PlanNode) → IsValid plan → slice_get plan.nodes w ≡ Some node → AllByRecursion (Comes plan) (ends_at w node.inputs)
inputs_come plan w node valid e =
    let edges = edges_come plan plan.edges (recursion_from_All (λ (e : Edge). e.back ≡ false → LeadsForward plan e) plan.edges valid.forward) (recursion_from_All (λ (e : Edge). e.back ≡ true → EndsAtLoop plan e) plan.edges valid.back) in
    edges_into plan (Comes plan) w node valid edges e

-- the nodes that give streams are there
abbrev pub GivenBelow : ℕ → Producer → Type 0
GivenBelow n (Input i) = Unit {0}
GivenBelow n (Node node port) = node < n

outputs_below : (n node from count : ℕ) → node < n → AllByRecursion (GivenBelow n) (map (λ port. Node node port) (range_with_len from count))
outputs_below n node from zero le = tt
outputs_below n node from (suc count) le = (le, outputs_below n node (from + 1) count le)

all_both : {X : Type 0} (P : X → Type 0) (xs ys : List X) → AllByRecursion P xs → AllByRecursion P ys → AllByRecursion P (xs ++ ys)
all_both P [] ys a b = b
all_both P (x ∷ xs) ys a b = (a.0, all_both P xs ys a.1 b)

givers_below : (n k : ℕ) (nodes : List PlanNode) → k + length nodes ≤ n → AllByRecursion (GivenBelow n) (givers k nodes)
givers_below n k [] le = tt
givers_below n k (node ∷ nodes) le =
    rw (flat_map-cons (λ e. map (λ port. Node e.0 port) (range_with_len 0 (length e.1.outputs))) (k, node) (enumerate_from (k + 1) nodes))
    (all_both (GivenBelow n) (map (λ port. Node k port) (range_with_len 0 (length node.outputs))) (givers (k + 1) nodes)
    (outputs_below n k 0 (length node.outputs) (omega (arith, le))) (givers_below n (k + 1) nodes (omega (arith, le))))

inputs_below : (n from count : ℕ) → AllByRecursion (GivenBelow n) (map Input (range_with_len from count))
inputs_below n from zero = tt
inputs_below n from (suc count) = (tt, inputs_below n (from + 1) count)

producers_below : (plan : Plan) → AllByRecursion (GivenBelow (length plan.nodes)) (producers plan)
producers_below plan =
    all_both (GivenBelow (length plan.nodes)) (map Input (numbers (length plan.inputs))) (givers 0 plan.nodes)
    (inputs_below (length plan.nodes) 0 (length plan.inputs)) (givers_below (length plan.nodes) 0 plan.nodes (omega arith))

pub at_place : {X : Type 0} (P : X → Type 0) (xs : List X) (i : ℕ) (x : X) → AllByRecursion P xs → slice_get xs i ≡ Some x → P x
at_place P [] i x a e = absurd cc
at_place P (y ∷ ys) zero x a e = subst P (some_same y x e) a.0
at_place P (y ∷ ys) (suc i) x a e = at_place P ys i x a.1 e

-- The producers that are known: graph inputs, and the nodes that have a given property.
abbrev pub KnownBy : (ℕ → Type 0) → Producer → Type 0
KnownBy Held (Input i) = Unit {0}
KnownBy Held (Node node port) = Held node

-- the element that stands after the first of two lists
pub behind : {X : Type 0} (xs ys : List X) (x : X) → slice_get (xs ++ x ∷ ys) (length xs) ≡ Some x
behind [] ys x = refl
behind (z ∷ xs) ys x = behind xs ys x

in_front : {X : Type 0} (xs ys : List X) (i : ℕ) (x : X) → slice_get (xs ++ ys) i ≡ Some x → i < length xs → slice_get xs i ≡ Some x
in_front [] ys i x e le = absurd (omega (arith, le))
in_front (z ∷ xs) ys zero x e le = e
in_front (z ∷ xs) ys (suc i) x e le = in_front xs ys i x e (omega (arith, le))

pub get_or_some : {X : Type 0} (xs : List X) (i : ℕ) (x : X) → i < length xs → get_or xs i x ≡ x → slice_get xs i ≡ Some x
get_or_some [] i x le e = absurd (omega (arith, le))
get_or_some (y ∷ ys) zero x le e = ap (λ z. Some z) e
get_or_some (y ∷ ys) (suc i) x le e = get_or_some ys i x (omega (arith, le)) e

pub there : {X : Type 0} (xs : List X) (i : ℕ) → i < length xs → (x : X) × (slice_get xs i ≡ Some x)
there [] i le = absurd (omega (arith, le))
there (x ∷ xs) zero le = (x, refl)
there (x ∷ xs) (suc i) le = there xs i (omega (arith, le))

pub get_map : {X Y : Type 0} (f : X → Y) (xs : List X) (i : ℕ) (x : X) → slice_get xs i ≡ Some x → slice_get (map f xs) i ≡ Some (f x)
get_map f [] i x e = absurd cc
get_map f (y ∷ ys) zero x e = ap (λ z. Some (f z)) (some_same y x e)
get_map f (y ∷ ys) (suc i) x e = get_map f ys i x e

-- what is known when the nodes before one in the order are
pub record IsNext (plan : Plan) (Held : ℕ → Type 0) (w : ℕ) : Type 0 where
  pub earlier : List ℕ
  pub later : List ℕ
  pub order : plan.order ≡ earlier ++ w ∷ later
  pub held : AllByRecursion Held earlier

earlier_held : (plan : Plan) (Held : ℕ → Type 0) (w v : ℕ) → IsValid plan → IsNext plan Held w → v < length plan.nodes → StandsBefore plan.order v w → Held v
earlier_held plan Held w v valid next below before =
    let found = valid.order.there v below in
    let at : slice_get plan.order found.0 ≡ Some v = get_or_some plan.order found.0 v found.1 found.2 in
    let here : slice_get plan.order (length next.earlier) ≡ Some w = subst (λ (o : List ℕ). slice_get o (length next.earlier) ≡ Some w) (sym next.order) (behind next.earlier next.later w) in
    let less : found.0 < length next.earlier = before found.0 (length next.earlier) at here in
    at_place Held next.earlier found.0 v next.held
    (in_front next.earlier (w ∷ next.later) found.0 v (subst (λ (o : List ℕ). slice_get o found.0 ≡ Some v) next.order at) less)

producer_known : (plan : Plan) (Held : ℕ → Type 0) (w : ℕ) (p : Producer) → IsValid plan → IsNext plan Held w → GivenBelow (length plan.nodes) p → IfSome (writing_node p) (λ writer. StandsBefore plan.order writer w) → KnownBy Held p
producer_known plan Held w (Input i) valid next below before = tt
producer_known plan Held w (Node v port) valid next below before = earlier_held plan Held w v valid next below before

-- a stream that leads forward to a node
pub forward_same : (plan : Plan) (Held : ℕ → Type 0) (w t port : ℕ) (xs ys : List (StreamPrefix Plain)) → IsValid plan → IsNext plan Held w → t < length plan.streams
    → Forward plan (record { stream = t; node = w; port = port }) → Agree (KnownBy Held) (producers plan) xs ys → stream_of xs t ≡ stream_of ys t
forward_same plan Held w t port xs ys valid next le forward agree =
    let s = there plan.streams t le in
    let at : slice_get (producers plan) t ≡ Some s.0.producer = subst (λ (ps : List Producer). slice_get ps t ≡ Some s.0.producer) valid.producers (get_map (λ z. z.producer) plan.streams t s.0 s.1) in
    let before : IfSome (writing_node s.0.producer) (λ writer. StandsBefore plan.order writer w) =
    subst (λ (o : Option PlanStream). IfSome (option_and_then (λ z. writing_node z.producer) o) (λ writer. StandsBefore plan.order writer w)) s.1 forward in
    agree_at (KnownBy Held) (producers plan) xs ys t s.0.producer agree at
    (producer_known plan Held w s.0.producer valid next (at_place (GivenBelow (length plan.nodes)) (producers plan) t s.0.producer (producers_below plan) at) before)

-- a node that is no loopback, or another port than LOOP
not_loop : (plan : Plan) (w : ℕ) (node : PlanNode) → slice_get plan.nodes w ≡ Some node → ¬ (node.law ≡ Loopback) → IsSomeAnd (slice_get plan.nodes w) (λ n. n.law ≡ Loopback) → ⊥
not_loop plan w node e other loop = other (subst (λ (o : Option PlanNode). IsSomeAnd o (λ n. n.law ≡ Loopback)) e loop)

inputs_same : (plan : Plan) (Held : ℕ → Type 0) (w : ℕ) (node : PlanNode) (from : ℕ) (streams : List ℕ) (xs ys : List (StreamPrefix Plain)) → IsValid plan → IsNext plan Held w → slice_get plan.nodes w ≡ Some node → ¬ (node.law ≡ Loopback)
    → AllByRecursion (λ t. t < length plan.streams) streams → AllByRecursion (Comes plan) (map (λ e. record { stream = e.1; node = w; port = e.0 }) (enumerate_from from streams))
    → Agree (KnownBy Held) (producers plan) xs ys → map (stream_of xs) streams ≡ map (stream_of ys) streams
inputs_same plan Held w node from [] xs ys valid next e other le come agree = refl
inputs_same plan Held w node from (t ∷ streams) xs ys valid next e other le come agree =
    ap₂ (λ (a : StreamPrefix Plain) (b : List (StreamPrefix Plain)). a ∷ b)
    (elim come.0 [ inl loop ↦ absurd (not_loop plan w node e other loop.1) | inr forward ↦ forward_same plan Held w t from xs ys valid next le.0 forward agree ])
    (inputs_same plan Held w node (from + 1) streams xs ys valid next e other le.1 come.1 agree)

read_below : (plan : Plan) (nodes : List PlanNode) (w : ℕ) (node : PlanNode) → AllByRecursion (λ n. All (λ s. s < length plan.streams) n.inputs) nodes → slice_get nodes w ≡ Some node → AllByRecursion (λ s. s < length plan.streams) node.inputs
read_below plan nodes w node a e = recursion_from_All (λ (s : ℕ). s < length plan.streams) node.inputs (at_place (λ (n : PlanNode). All (λ s. s < length plan.streams) n.inputs) nodes w node a e)

pub node_reads_below : (plan : Plan) (w : ℕ) (node : PlanNode) → IsValid plan → slice_get plan.nodes w ≡ Some node → AllByRecursion (λ s. s < length plan.streams) node.inputs
node_reads_below plan w node valid e = read_below plan plan.nodes w node (recursion_from_All (λ (n : PlanNode). All (λ s. s < length plan.streams) n.inputs) plan.nodes valid.ranges.read) e

-- the inputs of a node that is no loopback, if the nodes before it are known
pub known_inputs : (plan : Plan) (Held : ℕ → Type 0) (w : ℕ) (node : PlanNode) (xs ys : List (StreamPrefix Plain)) → IsValid plan → IsNext plan Held w → slice_get plan.nodes w ≡ Some node → ¬ (node.law ≡ Loopback)
    → Agree (KnownBy Held) (producers plan) xs ys → map (stream_of xs) node.inputs ≡ map (stream_of ys) node.inputs
known_inputs plan Held w node xs ys valid next e other agree =
    inputs_same plan Held w node 0 node.inputs xs ys valid next e other (node_reads_below plan w node valid e) (inputs_come plan w node valid e) agree

-- and MAIN of a loopback
main_by : (plan : Plan) (Held : ℕ → Type 0) (w : ℕ) (streams : List ℕ) (xs ys : List (StreamPrefix Plain)) → IsValid plan → IsNext plan Held w
    → AllByRecursion (λ t. t < length plan.streams) streams → AllByRecursion (Comes plan) (ends_at w streams)
    → Agree (KnownBy Held) (producers plan) xs ys → stream_of (map (stream_of xs) streams) 1 ≡ stream_of (map (stream_of ys) streams) 1
main_by plan Held w [] xs ys valid next le come agree = refl
main_by plan Held w (s ∷ []) xs ys valid next le come agree = refl
main_by plan Held w (s ∷ t ∷ streams) xs ys valid next le come agree =
    elim come.1.0 [ inl loop ↦ absurd (omega (arith, loop.0)) | inr forward ↦ forward_same plan Held w t 1 xs ys valid next le.1.0 forward agree ]

pub known_main : (plan : Plan) (Held : ℕ → Type 0) (w : ℕ) (node : PlanNode) (xs ys : List (StreamPrefix Plain)) → IsValid plan → IsNext plan Held w → slice_get plan.nodes w ≡ Some node
    → Agree (KnownBy Held) (producers plan) xs ys → stream_of (map (stream_of xs) node.inputs) 1 ≡ stream_of (map (stream_of ys) node.inputs) 1
known_main plan Held w node xs ys valid next e agree =
    main_by plan Held w node.inputs xs ys valid next (node_reads_below plan w node valid e) (inputs_come plan w node valid e) agree
