-- The order of a core has each of its nodes once, and its edges lead forward in it.
use Rattle.std.proofs.Common.{◌≡◌, ℕ, zero, suc, ◌+◌, ◌<◌, Bool, true, false, not, List, [], ◌∷◌, map, length, slice_get, All, Option, None, Some, IfSome, unwrap_or, option_map, refl, sym, ap, ◌∙◌, subst, arith}
use Rattle.std.specs.List.{range_with_len}
use Rattle.std.specs.Option.{option_and_then}
use Rattle.std.proofs.lemmas.List.Elements.{All-from_recursion, recursion_from_All}
use Rattle.mg_calc.specs.declared.edge.Edge.{Edge}
use Rattle.mg_calc.specs.declared.plan.Plan.{Plan}
use Rattle.mg_calc.specs.declared.plan_node.PlanNode.{PlanNode}
use Rattle.mg_calc.specs.declared.plan_stream.PlanStream.{PlanStream}
use Rattle.mg_calc.specs.declared.plan_stream.Producer.{Producer}
use Rattle.mg_calc.specs.declared.plan_stream.Producer.TheVariants.{Input, Node}
use Rattle.mg_calc.specs.Plan.{HasEachOnce, StandsBefore, LeadsForward, writer_of, writing_node, written_streams, producers, numbers}
use Rattle.mg_calc.proofs.Earlier.{some_same, there}
use Rattle.mg_free.specs.Core.{is_free, is_core, is_free_at, core_numbers, core_streams, place_in, stream_number, node_number, core_edge, order_of, core_of}
use Rattle.mg_free.proofs.Placing.{Among, found, same_place, at_its_place, among_at, contains_among, among_contained, among_below, apart_from_pairs, pairs_from_apart, zipped_at, places_from}
use Rattle.mg_free.proofs.Kept.{all_kept, among_kept, kept_apart, before_from, before_to, before_kept}
use Rattle.mg_free.proofs.Walking.{core_within, core_apart, core_among, core_stays}
use Rattle.mg_free.proofs.CoreStreams.{WrittenAs, Writes, streams_written}

-- a node stays if it isn't free
abbrev stays : Plan → ℕ → Bool
stays plan n = not (is_free_at plan n)

-- a node that is there and stays is of the core
pub stays_among : (plan : Plan) (n : ℕ) → n < length plan.nodes → not (is_free_at plan n) ≡ true → Among n (core_numbers plan)
stays_among plan n le is =
    let node = there plan.nodes n le in
    let core : is_core node.0 ≡ true = sym (ap (λ (o : Option PlanNode). not (unwrap_or (option_map is_free o) false)) node.1) ∙ is in
    subst (λ (k : ℕ). Among k (core_numbers plan)) (let z : 0 + n ≡ n = omega arith in z) (core_among 0 n plan.nodes node.0 node.1 core)

places_in_order : (plan : Plan) → map (node_number plan) (core_numbers plan) ≡ numbers (length (core_numbers plan))
places_in_order plan = places_from [] (core_numbers plan) (core_apart 0 plan.nodes)

front_of : (x y : ℕ) (xs ys : List ℕ) → x ∷ xs ≡ y ∷ ys → x ≡ y
front_of x y xs ys e = ap (λ (l : List ℕ). (elim l [ [] ↦ x | z ∷ zs ↦ z ])) e

rest_of : (x y : ℕ) (xs ys : List ℕ) → x ∷ xs ≡ y ∷ ys → xs ≡ ys
rest_of x y xs ys e = ap (λ (l : List ℕ). (elim l [ [] ↦ xs | z ∷ zs ↦ zs ])) e

-- of numbers whose images are the numbers in order
image_at : (f : ℕ → ℕ) (a c i x : ℕ) (ns : List ℕ) → map f ns ≡ range_with_len a c → slice_get ns i ≡ Some x → f x ≡ a + i
image_at f a c i x [] e at = absurd cc
image_at f a zero i x (n ∷ ns) e at = absurd cc
image_at f a (suc c) zero x (n ∷ ns) e at = ap f (sym (some_same n x at)) ∙ (front_of (f n) a (map f ns) (range_with_len (a + 1) c) e ∙ (let z : a ≡ a + 0 = omega arith in z))
image_at f a (suc c) (suc i) x (n ∷ ns) e at = image_at f (a + 1) c i x ns (rest_of (f n) a (map f ns) (range_with_len (a + 1) c) e) at ∙ (let z : (a + 1) + i ≡ a + suc i = omega arith in z)

-- The order.
same_node : (plan : Plan) (x y : ℕ) → All (λ n. n < length plan.nodes) plan.order → Among x plan.order → not (is_free_at plan x) ≡ true → node_number plan x ≡ node_number plan y → x ≡ y
same_node plan x y below a is e =
    same_place x y (core_numbers plan)
    (stays_among plan x (among_below (λ n. n < length plan.nodes) x plan.order (recursion_from_All (λ n. n < length plan.nodes) plan.order below) a) is) e

pub order_once : (plan : Plan) (count : ℕ) → HasEachOnce (length plan.nodes) plan.order → length (core_numbers plan) ≡ count → HasEachOnce count (order_of plan)
order_once plan count order long = record {
  there = λ n le.
      let x = there (core_numbers plan) n (subst (λ (k : ℕ). n < k) (sym long) le) in
      let number : node_number plan x.0 ≡ 0 + n = image_at (node_number plan) 0 (length (core_numbers plan)) n x.0 (core_numbers plan) (places_in_order plan) x.1 in
      let core = among_at (core_numbers plan) n x.0 x.1 in
      let within = (core_within 0 x.0 plan.nodes core).1 in
      let standing = among_contained x.0 plan.order (order.there x.0 (let z : x.0 < length plan.nodes = omega (arith, within) in z)) in
      contains_among n (order_of plan)
      (subst (λ (k : ℕ). Among k (order_of plan)) (number ∙ (let z : 0 + n ≡ n = omega arith in z))
      (among_kept (stays plan) (node_number plan) x.0 plan.order standing (core_stays plan x.0 core)));
  below = All-from_recursion (λ n. n < count) (order_of plan)
      (all_kept (λ n. n < length plan.nodes) (λ n. n < count) (stays plan) (node_number plan) plan.order
      (λ x is le. let f = found x (core_numbers plan) (stays_among plan x le is) in omega (arith, f, long))
      (recursion_from_All (λ n. n < length plan.nodes) plan.order order.below));
  once = pairs_from_apart (order_of plan)
      (kept_apart (stays plan) (node_number plan) plan.order
      (λ x y is passes a b e. same_node plan x y order.below a is e) (apart_from_pairs plan.order order.once));
}

-- Edges that lead forward.
got_below : {X : Type 0} (xs : List X) (i : ℕ) (x : X) → slice_get xs i ≡ Some x → i < length xs
got_below [] i x e = absurd cc
got_below (y ∷ xs) zero x e = omega arith
got_below (y ∷ xs) (suc i) x e = (let l = got_below xs i x e in omega (arith, l))

unmapped : {X Y : Type 0} (f : X → Y) (xs : List X) (i : ℕ) (y : Y) → slice_get (map f xs) i ≡ Some y → (x : X) × (slice_get xs i ≡ Some x) × (f x ≡ y)
unmapped f [] i y e = absurd cc
unmapped f (x ∷ xs) zero y e = (x, refl, some_same (f x) y e)
unmapped f (x ∷ xs) (suc i) y e = unmapped f xs i y e

-- what stands at the place of a stream is that stream
at_place_of : (xs : List ℕ) (n s : ℕ) → slice_get xs (place_in xs n) ≡ Some s → s ≡ n
at_place_of xs n s e = some_same s n (sym e ∙ at_its_place n xs (got_below xs (place_in xs n) s e))

-- a node that stood before another does in the core
stands_before : (plan : Plan) (k n : ℕ) → All (λ i. i < length plan.nodes) plan.order → StandsBefore plan.order k n → StandsBefore (order_of plan) (node_number plan k) (node_number plan n)
stands_before plan k n below before =
    before_to (order_of plan) (node_number plan k) (node_number plan n)
    (before_kept (stays plan) (node_number plan) k n plan.order
    (λ x among is e. same_node plan x k below among is e) (λ x among is e. same_node plan x n below among is e)
    (before_from plan.order k n before))

writer_before : (plan : Plan) (e : Edge) (p : Producer) → All (λ i. i < length plan.nodes) plan.order → LeadsForward plan e → WrittenAs plan (map (λ s. s.producer) plan.streams) e.stream p
    → IfSome (writing_node p) (λ w. StandsBefore (order_of plan) w (node_number plan e.node))
writer_before plan e (Input i) below forward written = tt
writer_before plan e (Node m port) below forward written =
    let stream = unmapped (λ (s : PlanStream). s.producer) plan.streams e.stream (Node written.0 port) written.1 in
    let writer : writer_of plan e ≡ Some written.0 = ap (λ (o : Option PlanStream). option_and_then (λ s. writing_node s.producer) o) stream.1 ∙ ap writing_node stream.2 in
    let before : StandsBefore plan.order written.0 e.node = subst (λ (o : Option ℕ). IfSome o (λ w. StandsBefore plan.order w e.node)) writer forward in
    subst (λ (w : ℕ). StandsBefore (order_of plan) w (node_number plan e.node)) written.2 (stands_before plan written.0 e.node below before)

by_stream : (plan : Plan) (e : Edge) (o : Option PlanStream) → All (λ i. i < length plan.nodes) plan.order → written_streams plan ≡ numbers (length plan.streams) → map (λ s. s.producer) plan.streams ≡ producers plan
    → LeadsForward plan e → slice_get (core_of plan).streams (stream_number plan e.stream) ≡ o → IfSome (option_and_then (λ s. writing_node s.producer) o) (λ w. StandsBefore (order_of plan) w (node_number plan e.node))
by_stream plan e None below written producing forward at = tt
by_stream plan e (Some stream) below written producing forward at =
    let all = map (λ (s : PlanStream). s.producer) plan.streams in
    let z = zipped_at (Writes plan all) (core_streams plan) (core_of plan).streams (stream_number plan e.stream) stream (streams_written plan written producing) at in
    writer_before plan e stream.producer below forward (subst (λ (s : ℕ). WrittenAs plan all s stream.producer) (at_place_of (core_streams plan) e.stream z.0 z.1) z.2)

pub forward_kept : (plan : Plan) (e : Edge) → All (λ i. i < length plan.nodes) plan.order → written_streams plan ≡ numbers (length plan.streams) → map (λ s. s.producer) plan.streams ≡ producers plan
    → LeadsForward plan e → LeadsForward (core_of plan) (core_edge plan e)
forward_kept plan e below written producing forward =
    by_stream plan e (slice_get (core_of plan).streams (stream_number plan e.stream)) below written producing forward refl
