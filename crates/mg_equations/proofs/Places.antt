-- Where streams stand that are joined of parts: those of the graph inputs, and then those of each node.
use Rattle.std.proofs.Common.{◌≡◌, ℕ, zero, suc, ◌+◌, ◌<◌, List, [], ◌∷◌, ◌++◌, All, Some, length, map, slice_get, get_or, ◌⊎◌, inl, inr, ⊎_elim, refl, sym, ap, ◌∙◌, subst, arith}
use Rattle.std.specs.Prelude.{Contains}
use Rattle.std.specs.List.{range_with_len, flat_map}
use Rattle.std.proofs.lemmas.List.Elements.{Contains-append_left, Contains-append_right, All-append, All-nil, All-contains}
use Rattle.std.proofs.lemmas.List.FromFn.{get_or-range_with_len, length-range_with_len}
use Rattle.std.proofs.lemmas.Option.{none-some, same_Some, slice_get_within, slice_get-get_or, get_or_from_slice_get}
use Rattle.mg_calc.specs.declared.plan.Plan.{Plan}
use Rattle.mg_calc.specs.declared.plan_node.PlanNode.{PlanNode}
use Rattle.mg_calc.specs.declared.plan_stream.Producer.{Producer}
use Rattle.mg_calc.specs.declared.plan_stream.Producer.TheVariants.{Input, Node}
use Rattle.mg_calc.specs.Plan.{IsValid, numbers, producers, written_streams}
use Rattle.mg_calc.proofs.Positions.{givers}

-- Two lists, one after the other.
joined_at : {X : Type 0} (xs ys : List X) (i : ℕ) (x : X) → slice_get (xs ++ ys) i ≡ Some x
    → (slice_get xs i ≡ Some x) ⊎ ((j : ℕ) × (i ≡ length xs + j) × (slice_get ys j ≡ Some x))
joined_at [] ys i x at = inr (i, omega arith, at)
joined_at (y ∷ xs) ys zero x at = inl at
joined_at (y ∷ xs) ys (suc i) x at = ⊎_elim (λ h. inl h) (λ r. inr (r.0, omega (arith, r.1), r.2)) (joined_at xs ys i x at)

pub at_front : {X : Type 0} (xs ys : List X) (i : ℕ) → i < length xs → slice_get (xs ++ ys) i ≡ slice_get xs i
at_front [] ys i below = absurd (omega (arith, below))
at_front (x ∷ xs) ys zero below = refl
at_front (x ∷ xs) ys (suc i) below = at_front xs ys i (omega (arith, below))

at_back : {X : Type 0} (xs ys : List X) (j : ℕ) → slice_get (xs ++ ys) (length xs + j) ≡ slice_get ys j
at_back [] ys j = let e : 0 + j ≡ j = omega arith in ap (slice_get ys) e
at_back (x ∷ xs) ys j = let e : suc (length xs) + j ≡ suc (length xs + j) = omega arith in ap (slice_get (x ∷ xs ++ ys)) e ∙ at_back xs ys j

-- What a list contains that is joined of parts.
pub place_of : {X : Type 0} (xs : List X) (x : X) (c : Contains xs x) → slice_get xs c.0 ≡ Some x
place_of xs x c = slice_get-get_or xs c.0 x c.1 ∙ ap Some c.2

pub contains_there : {X : Type 0} (xs : List X) (k : ℕ) (x : X) → slice_get xs k ≡ Some x → Contains xs x
contains_there xs k x at = (k, slice_get_within xs k x at, get_or_from_slice_get xs k x x at)

contains_part : {X Y : Type 0} (f : X → List Y) (xs : List X) (k : ℕ) (x : X) (y : Y) → slice_get xs k ≡ Some x → Contains (f x) y → Contains (flat_map f xs) y
contains_part f [] k x y at c = absurd (none-some x at)
contains_part f (z ∷ xs) zero x y at c = Contains-append_left (f z) (flat_map f xs) y (subst (λ w. Contains (f w) y) (sym (same_Some z x at)) c)
contains_part f (z ∷ xs) (suc k) x y at c = Contains-append_right (f z) (flat_map f xs) y (contains_part f xs k x y at c)

pub contains_flat : {X Y : Type 0} (f : X → List Y) (xs : List X) (x : X) (y : Y) → Contains xs x → Contains (f x) y → Contains (flat_map f xs) y
contains_flat f xs x y there c = contains_part f xs there.0 x y (place_of xs x there) c

pub all_flat : {X Y : Type 0} (P : Y → Type 0) (f : X → List Y) (xs : List X) → ((x : X) → All P (f x)) → All P (flat_map f xs)
all_flat P f [] each = All-nil P
all_flat P f (x ∷ xs) each = All-append P (f x) (flat_map f xs) (each x) (all_flat P f xs each)

-- Beside each node stands an element that gives as much as the node has outputs.
pub record GivesEach {E X : Type 0} (f : E → List X) (nodes : List PlanNode) (es : List E) : Type 0 where
  pub many : length es ≡ length nodes
  pub each : (k : ℕ) (node : PlanNode) (e : E) → slice_get nodes k ≡ Some node → slice_get es k ≡ Some e → length (f e) ≡ length node.outputs

-- a node is there, and the element beside it gives at a port what a list has at a place
pub record IsPart {E X : Type 0} (f : E → List X) (nodes : List PlanNode) (es : List E) (whole : List X) (i k port : ℕ) : Type 0 where
  pub node : PlanNode
  pub element : E
  pub there : slice_get nodes k ≡ Some node
  pub beside : slice_get es k ≡ Some element
  pub within : port < length node.outputs
  pub same : slice_get whole i ≡ slice_get (f element) port

abbrev node_in : Producer → ℕ
node_in (Input i) = i
node_in (Node k port) = k

abbrev port_in : Producer → ℕ
port_in (Input i) = i
port_in (Node k port) = port

port_at : (a b n i k port : ℕ) → slice_get (map (λ p. Node a p) (range_with_len b n)) i ≡ Some (Node k port) → (i < n) × (k ≡ a) × (port ≡ b + i)
port_at a b zero i k port at = absurd (none-some (Node k port) at)
port_at a b (suc n) zero k port at =
    let same : Node a b ≡ Node k port = same_Some (Node a b) (Node k port) at in
    let here : b ≡ port = ap port_in same in
    (omega arith, sym (ap node_in same), omega (arith, here))
port_at a b (suc n) (suc i) k port at = let rest = port_at a (b + 1) n i k port at in (omega (arith, rest.0), rest.1, omega (arith, rest.2))

no_input_at : (a b n i input : ℕ) → slice_get (map (λ p. Node a p) (range_with_len b n)) i ≡ Some (Input input) → ⊥
no_input_at a b zero i input at = absurd (none-some (Input input) at)
no_input_at a b (suc n) zero input at = let same : Node a b ≡ Input input = same_Some (Node a b) (Input input) at in absurd cc
no_input_at a b (suc n) (suc i) input at = no_input_at a (b + 1) n i input at

no_input : (a : ℕ) (nodes : List PlanNode) (i input : ℕ) → slice_get (givers a nodes) i ≡ Some (Input input) → ⊥
no_input a [] i input at = absurd (none-some (Input input) at)
no_input a (node ∷ nodes) i input at =
    ⊎_elim (λ here. no_input_at a 0 (length node.outputs) i input here) (λ r. no_input (a + 1) nodes r.0 input r.2)
    (joined_at (map (λ p. Node a p) (numbers (length node.outputs))) (givers (a + 1) nodes) i (Input input) at)

ports_long : (a b n : ℕ) → length (map (λ p. Node a p) (range_with_len b n)) ≡ n
ports_long a b zero = refl
ports_long a b (suc n) = ap (λ m. suc m) (ports_long a (b + 1) n)

part_at : {E X : Type 0} (f : E → List X) (a : ℕ) (nodes : List PlanNode) (es : List E) (i k port : ℕ) → GivesEach f nodes es → slice_get (givers a nodes) i ≡ Some (Node k port)
    → (m : ℕ) × (k ≡ a + m) × IsPart f nodes es (flat_map f es) i m port
part_at f a [] es i k port g at = absurd (none-some (Node k port) at)
part_at f a (node ∷ nodes) [] i k port g at = absurd (let many = g.many in omega (arith, many))
part_at f a (node ∷ nodes) (e ∷ es) i k port g at =
    let long : length (f e) ≡ length node.outputs = g.each 0 node e refl refl in
    ⊎_elim
    (λ here. let found = port_at a 0 (length node.outputs) i k port here in
    let number : i ≡ port = omega (arith, found.2) in (
      0,
      omega (arith, found.1),
      record {
        node = node;
        element = e;
        there = refl;
        beside = refl;
        within = omega (arith, found.0, number);
        same = at_front (f e) (flat_map f es) i (omega (arith, long, found.0)) ∙ ap (slice_get (f e)) number;
      },
    ))
    (λ r. let rest = part_at f (a + 1) nodes es r.0 k port (record { many = (let many = g.many in omega (arith, many)); each = λ j n d x y. g.each (suc j) n d x y }) r.2 in
    let place : i ≡ length (f e) + r.0 = omega (arith, r.1, ports_long a 0 (length node.outputs), long) in (
      suc rest.0,
      omega (arith, rest.1),
      record {
        node = rest.2.node;
        element = rest.2.element;
        there = rest.2.there;
        beside = rest.2.beside;
        within = rest.2.within;
        same = ap (slice_get (f e ++ flat_map f es)) place ∙ at_back (f e) (flat_map f es) r.0 ∙ rest.2.same;
      },
    ))
    (joined_at (map (λ p. Node a p) (numbers (length node.outputs))) (givers (a + 1) nodes) i (Node k port) at)

-- who gives a stream: the graph input of its number, or a node at a port
abbrev pub StandsAt : {E X : Type 0} → (E → List X) → List PlanNode → List X → List E → ℕ → Producer → Type 0
StandsAt f nodes xs es s (Input input) = (input ≡ s) × (s < length xs)
StandsAt f nodes xs es s (Node k port) = IsPart f nodes es (xs ++ flat_map f es) s k port

input_at : (b n i : ℕ) (p : Producer) → slice_get (map Input (range_with_len b n)) i ≡ Some p → (i < n) × (Input (b + i) ≡ p)
input_at b zero i p at = absurd (none-some p at)
input_at b (suc n) zero p at = let e : b + 0 ≡ b = omega arith in (omega arith, ap Input e ∙ same_Some (Input b) p at)
input_at b (suc n) (suc i) p at =
    let rest = input_at (b + 1) n i p at in
    let e : b + suc i ≡ b + 1 + i = omega arith in
    (omega (arith, rest.0), ap Input e ∙ rest.1)

inputs_long : (b n : ℕ) → length (map Input (range_with_len b n)) ≡ n
inputs_long b zero = refl
inputs_long b (suc n) = ap (λ m. suc m) (inputs_long (b + 1) n)

behind_inputs : {E X : Type 0} (f : E → List X) (nodes : List PlanNode) (xs : List X) (es : List E) (s j : ℕ) (p : Producer) → GivesEach f nodes es → s ≡ length xs + j → slice_get (givers 0 nodes) j ≡ Some p → StandsAt f nodes xs es s p
behind_inputs f nodes xs es s j (Input input) g place at = absurd (no_input 0 nodes j input at)
behind_inputs f nodes xs es s j (Node k port) g place at =
    let part = part_at f 0 nodes es j k port g at in
    let number : part.0 ≡ k = omega (arith, part.1) in
    subst (λ m. IsPart f nodes es (xs ++ flat_map f es) s m port) number (record {
      node = part.2.node;
      element = part.2.element;
      there = part.2.there;
      beside = part.2.beside;
      within = part.2.within;
      same = ap (slice_get (xs ++ flat_map f es)) place ∙ at_back xs (flat_map f es) j ∙ part.2.same;
    })

pub stands_at : {E X : Type 0} (f : E → List X) (plan : Plan) (xs : List X) (es : List E) (s : ℕ) (p : Producer) → length xs ≡ length plan.inputs → GivesEach f plan.nodes es → slice_get (producers plan) s ≡ Some p → StandsAt f plan.nodes xs es s p
stands_at f plan xs es s p long g at =
    ⊎_elim
    (λ here. let found = input_at 0 (length plan.inputs) s p here in
    let number : 0 + s ≡ s = omega arith in
    subst (StandsAt f plan.nodes xs es s) found.1 (number, omega (arith, found.0, long)))
    (λ r. behind_inputs f plan.nodes xs es s r.0 p g (omega (arith, r.1, inputs_long 0 (length plan.inputs), long)) r.2)
    (joined_at (map Input (numbers (length plan.inputs))) (givers 0 plan.nodes) s p at)

-- The numbers of the streams that the nodes of a plan write.
number_at : (n s m : ℕ) → slice_get (numbers n) s ≡ Some m → m ≡ s
number_at n s m at =
    let below : s < n = omega (arith, slice_get_within (numbers n) s m at, length-range_with_len 0 n) in
    let is : get_or (numbers n) s 0 ≡ 0 + s = get_or-range_with_len 0 n s 0 below in
    omega (arith, is, get_or_from_slice_get (numbers n) s m 0 at)

numbers_below : (n : ℕ) → All (λ m. m < n) (numbers n)
numbers_below n k d below =
    let within : k < n = omega (arith, below, length-range_with_len 0 n) in
    omega (arith, within, get_or-range_with_len 0 n k d within)

pub outputs_within : (plan : Plan) (k : ℕ) (node : PlanNode) (s : ℕ) → IsValid plan → slice_get plan.nodes k ≡ Some node → Contains node.outputs s → s < length plan.streams
outputs_within plan k node s valid at c =
    let all : All (λ m. m < length plan.streams) (written_streams plan) = subst (λ (l : List ℕ). All (λ m. m < length plan.streams) l) (sym valid.streams) (numbers_below (length plan.streams)) in
    All-contains (λ m. m < length plan.streams) (written_streams plan) s all
    (Contains-append_right plan.inputs (flat_map (λ n. n.outputs) plan.nodes) s (contains_flat (λ (n : PlanNode). n.outputs) plan.nodes node s (contains_there plan.nodes k node at) c))

-- a node writes the streams whose producer it is
pub record IsWriter (plan : Plan) (s k port : ℕ) : Type 0 where
  pub node : PlanNode
  pub there : slice_get plan.nodes k ≡ Some node
  pub writes : Contains node.outputs s

pub writer_at : (plan : Plan) (s k port : ℕ) → IsValid plan → slice_get (producers plan) s ≡ Some (Node k port) → IsWriter plan s k port
writer_at plan s k port valid at =
    let part : IsPart (λ (n : PlanNode). n.outputs) plan.nodes plan.nodes (written_streams plan) s k port =
    stands_at (λ (n : PlanNode). n.outputs) plan plan.inputs plan.nodes s (Node k port) refl
    (record { many = refl; each = λ j n e x y. ap (λ (o : PlanNode). length o.outputs) (same_Some e n (sym y ∙ x)) }) at in
    let node = part.element in
    let same : node ≡ part.node = same_Some node part.node (sym part.beside ∙ part.there) in
    let inside : port < length node.outputs = subst (λ (n : PlanNode). port < length n.outputs) (sym same) part.within in
    let here : slice_get (numbers (length plan.streams)) s ≡ Some (get_or node.outputs port s) = ap (λ l. slice_get l s) (sym valid.streams) ∙ part.same ∙ slice_get-get_or node.outputs port s inside in
    record {
      node = node;
      there = part.beside;
      writes = (port, inside, number_at (length plan.streams) s (get_or node.outputs port s) here);
    }
