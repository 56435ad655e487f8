-- The streams of a core: each of the plan's has one place there, and its writer is the plan's.
use Rattle.std.proofs.Common.{◌≡◌, ℕ, zero, suc, ◌+◌, ◌<◌, ◌≤◌, not, List, [], ◌∷◌, ◌++◌, map, filter, length, length-append, slice_get, All, Some, nat_lt, refl, sym, ap, ap₂, ◌∙◌, subst, inl, inr, arith}
use Rattle.std.specs.List.{AllZip, flat_map, enumerate_from, range_with_len}
use Rattle.std.proofs.lemmas.Bool.{cases_Bool}
use Rattle.std.proofs.lemmas.Bool.Decides.{nat_tests}
use Rattle.std.proofs.lemmas.List.{map-append, append_assoc}
use Rattle.std.proofs.lemmas.List.Elements.{All-from_recursion}
use Rattle.mg_calc.specs.declared.plan.Plan.{Plan}
use Rattle.mg_calc.specs.declared.plan_node.PlanNode.{PlanNode}
use Rattle.mg_calc.specs.declared.plan_stream.PlanStream.{PlanStream}
use Rattle.mg_calc.specs.declared.plan_stream.Producer.{Producer}
use Rattle.mg_calc.specs.declared.plan_stream.Producer.TheVariants.{Input, Node}
use Rattle.mg_calc.specs.Plan.{numbers, written_streams, producers}
use Rattle.mg_free.specs.Core.{is_free, is_core, entering, core_streams, stream_number, node_number, core_node, written_by, output_streams, streams_of, core_of}
use Rattle.mg_free.proofs.Placing.{Among, AreApart, all_among, filter_in, filter_out, places_from, times, times-append, times_among, among_times, apart_by_times, range_in, range_past, zipped_long, zipped_both, zipped_parts}
use Rattle.mg_free.proofs.Walking.{Walk, walk_begins, walk_core, walk_free, walk_core_number}

abbrev outputs_of : List PlanNode → List ℕ
outputs_of nodes = flat_map (λ node. node.outputs) nodes

-- Each stream stands in the order of the core as often as in the plan's.
outputs_times : (n : ℕ) (nodes : List PlanNode) → times n (outputs_of nodes) ≡ times n (outputs_of (filter is_free nodes)) + times n (outputs_of (filter is_core nodes))
outputs_times n [] = refl
outputs_times n (node ∷ nodes) =
    let rest = outputs_times n nodes in
    let all = times-append n node.outputs (outputs_of nodes) in
    elim (cases_Bool (is_free node)) [
      | inl is ↦ (
          let free = ap (λ (l : List PlanNode). times n (outputs_of l)) (filter_in is_free node nodes is) ∙ times-append n node.outputs (outputs_of (filter is_free nodes)) in
          let core = ap (λ (l : List PlanNode). times n (outputs_of l)) (filter_out is_core node nodes (ap not is)) in
          omega (arith, rest, all, free, core)
          )
      | inr isnt ↦ (
          let free = ap (λ (l : List PlanNode). times n (outputs_of l)) (filter_out is_free node nodes isnt) in
          let core = ap (λ (l : List PlanNode). times n (outputs_of l)) (filter_in is_core node nodes (ap not isnt)) ∙ times-append n node.outputs (outputs_of (filter is_core nodes)) in
          omega (arith, rest, all, free, core)
          )
    ]

streams_times : (plan : Plan) (n : ℕ) → times n (core_streams plan) ≡ times n (written_streams plan)
streams_times plan n =
    let a = times-append n plan.inputs (outputs_of (filter is_free plan.nodes)) in
    let b = times-append n (entering plan) (outputs_of (filter is_core plan.nodes)) in
    let c = times-append n plan.inputs (outputs_of plan.nodes) in
    let d = outputs_times n plan.nodes in
    omega (arith, a, b, c, d)

range_most : (n c : ℕ) → times n (range_with_len 0 c) ≤ 1
range_most n c = elim (cases_Bool (nat_lt n c)) [
  | inl less ↦ (let l : n < c = grind (arith, nat_tests) in let e = range_in n 0 c (omega arith) (omega (arith, l)) in omega (arith, e))
  | inr more ↦ (let l : c ≤ n = grind (arith, nat_tests) in let e = range_past n 0 c (omega (arith, l)) in omega (arith, e))
]

-- so none stands twice
pub streams_apart : (plan : Plan) → written_streams plan ≡ numbers (length plan.streams) → AreApart (core_streams plan)
streams_apart plan written = apart_by_times (core_streams plan) (λ n.
    let e = streams_times plan n ∙ ap (times n) written in
    let m = range_most n (length plan.streams) in
    omega (arith, e, m))

-- and each stands there
pub stream_among : (plan : Plan) (s : ℕ) → written_streams plan ≡ numbers (length plan.streams) → s < length plan.streams → Among s (core_streams plan)
stream_among plan s written le =
    let e = streams_times plan s ∙ ap (times s) written in
    let one = range_in s 0 (length plan.streams) (omega arith) (omega (arith, le)) in
    times_among s (core_streams plan) (omega (arith, e, one))

-- All of them are the plan's.
stream_below : (plan : Plan) (s : ℕ) → written_streams plan ≡ numbers (length plan.streams) → Among s (core_streams plan) → s < length plan.streams
stream_below plan s written a = elim (cases_Bool (nat_lt s (length plan.streams))) [
  | inl less ↦ grind (arith, nat_tests)
  | inr more ↦ (
      let le : length plan.streams ≤ s = grind (arith, nat_tests) in
      let e = streams_times plan s ∙ ap (times s) written in
      let none = range_past s 0 (length plan.streams) (omega (arith, le)) in
      let some = among_times s (core_streams plan) a in
      absurd (omega (arith, e, none, some))
      )
]

pub streams_below : (plan : Plan) → written_streams plan ≡ numbers (length plan.streams) → All (λ s. s < length plan.streams) (core_streams plan)
streams_below plan written =
    All-from_recursion (λ s. s < length plan.streams) (core_streams plan) (all_among (λ s. s < length plan.streams) (core_streams plan) (λ s a. stream_below plan s written a))

-- The streams that nodes write come after the streams that enter.
outputs_renumbered : (plan : Plan) (nodes : List PlanNode) → outputs_of (map (core_node plan) nodes) ≡ map (stream_number plan) (outputs_of nodes)
outputs_renumbered plan [] = refl
outputs_renumbered plan (node ∷ nodes) =
    ap (λ (l : List ℕ). map (stream_number plan) node.outputs ++ l) (outputs_renumbered plan nodes) ∙ sym (map-append (stream_number plan) node.outputs (outputs_of nodes))

range_more : (a m n : ℕ) → range_with_len a m ++ range_with_len (a + m) n ≡ range_with_len a (m + n)
range_more a zero n =
    let start : a + 0 ≡ a = omega arith in
    let count : 0 + n ≡ n = omega arith in
    ap (λ k. range_with_len k n) start ∙ sym (ap (range_with_len a) count)
range_more a (suc m) n =
    let start : a + suc m ≡ (a + 1) + m = omega arith in
    let count : suc m + n ≡ suc (m + n) = omega arith in
    ap (λ k. a ∷ (range_with_len (a + 1) m ++ range_with_len k n)) start ∙ (ap (λ (l : List ℕ). a ∷ l) (range_more (a + 1) m n) ∙ sym (ap (range_with_len a) count))

pub streams_follow : (plan : Plan) → written_streams plan ≡ numbers (length plan.streams) → written_streams (core_of plan) ≡ numbers (length (core_streams plan))
streams_follow plan written =
    let e = entering plan in
    let o = outputs_of (filter is_core plan.nodes) in
    let start : 0 + length e ≡ length e = omega arith in
    ap (λ (l : List ℕ). numbers (length e) ++ l) (outputs_renumbered plan (filter is_core plan.nodes) ∙ places_from e o (streams_apart plan written))
    ∙ (sym (ap (λ k. numbers (length e) ++ range_with_len k (length o)) start)
    ∙ (range_more 0 (length e) (length o) ∙ sym (ap numbers (length-append e o))))

-- Who writes the streams of the core.
entering_written : (plan : Plan) (n : ℕ) (streams : List ℕ) → map (λ s. s.producer) (map (λ e. written_by plan e.1 (Input e.0)) (enumerate_from n streams)) ≡ map Input (range_with_len n (length streams))
entering_written plan n [] = refl
entering_written plan n (s ∷ streams) = ap (λ (l : List Producer). Input n ∷ l) (entering_written plan (n + 1) streams)

outputs_written : (plan : Plan) (m k : ℕ) (outputs : List ℕ) → map (λ s. s.producer) (map (λ e. written_by plan e.1 (Node m e.0)) (enumerate_from k outputs)) ≡ map (λ port. Node m port) (range_with_len k (length (map (stream_number plan) outputs)))
outputs_written plan m k [] = refl
outputs_written plan m k (s ∷ outputs) = ap (λ (l : List Producer). Node m k ∷ l) (outputs_written plan m (k + 1) outputs)

nodes_written : (plan : Plan) (m : ℕ) (nodes : List PlanNode) → map (λ s. s.producer) (flat_map (λ e. output_streams plan e.0 e.1.outputs) (enumerate_from m nodes))
    ≡ flat_map (λ e. map (λ port. Node e.0 port) (numbers (length e.1.outputs))) (enumerate_from m (map (core_node plan) nodes))
nodes_written plan m [] = refl
nodes_written plan m (node ∷ nodes) =
    map-append (λ (s : PlanStream). s.producer) (output_streams plan m node.outputs) (flat_map (λ e. output_streams plan e.0 e.1.outputs) (enumerate_from (m + 1) nodes))
    ∙ ap₂ (λ (a b : List Producer). a ++ b) (outputs_written plan m 0 node.outputs) (nodes_written plan (m + 1) nodes)

pub long_range : (a n : ℕ) → length (range_with_len a n) ≡ n
long_range a zero = refl
long_range a (suc n) = ap suc (long_range (a + 1) n)

pub producers_follow : (plan : Plan) → map (λ s. s.producer) (core_of plan).streams ≡ producers (core_of plan)
producers_follow plan =
    let e = entering plan in
    map-append (λ (s : PlanStream). s.producer) (map (λ e. written_by plan e.1 (Input e.0)) (enumerate_from 0 e)) (flat_map (λ e. output_streams plan e.0 e.1.outputs) (enumerate_from 0 (filter is_core plan.nodes)))
    ∙ ap₂ (λ (a b : List Producer). a ++ b)
    (entering_written plan 0 e ∙ sym (ap (λ k. map Input (numbers k)) (long_range 0 (length e))))
    (nodes_written plan 0 (filter is_core plan.nodes))

pub inputs_follow : (plan : Plan) → (core_of plan).inputs ≡ numbers (length (core_of plan).inputs)
inputs_follow plan = sym (ap numbers (long_range 0 (length (entering plan))))

-- A stream of the plan with who writes it.
abbrev IsWritten : List Producer → ℕ → Producer → Type 0
IsWritten all s producer = slice_get all s ≡ Some producer

-- and with who writes it in the core: from outside, or the plan's node by its number there
abbrev pub WrittenAs : Plan → List Producer → ℕ → Producer → Type 0
WrittenAs plan all s (Input i) = Unit {0}
WrittenAs plan all s (Node m port) = (k : ℕ) × (slice_get all s ≡ Some (Node k port)) × (node_number plan k ≡ m)

abbrev pub Writes : Plan → List Producer → ℕ → PlanStream → Type 0
Writes plan all s stream = WrittenAs plan all s stream.producer

at_end : {X : Type 0} (front : List X) (x : X) (xs : List X) → slice_get (front ++ x ∷ xs) (length front) ≡ Some x
at_end [] x xs = refl
at_end (y ∷ front) x xs = at_end front x xs

each_written : (front xs : List Producer) → AllZip (IsWritten (front ++ xs)) (range_with_len (length front) (length xs)) xs
each_written front [] = tt
each_written front (x ∷ xs) =
    let again : (front ++ x ∷ []) ++ xs ≡ front ++ x ∷ xs = append_assoc front (x ∷ []) xs in
    let long : length (front ++ x ∷ []) ≡ length front + 1 = length-append front (x ∷ []) in (
      at_end front x xs,
      subst (λ (l : List Producer). AllZip (IsWritten l) (range_with_len (length front + 1) (length xs)) xs) again
          (subst (λ (n : ℕ). AllZip (IsWritten ((front ++ x ∷ []) ++ xs)) (range_with_len n (length xs)) xs) long (each_written (front ++ x ∷ []) xs)),
    )

entering_as : (plan : Plan) (all : List Producer) (n : ℕ) (streams : List ℕ) → AllZip (Writes plan all) streams (map (λ e. written_by plan e.1 (Input e.0)) (enumerate_from n streams))
entering_as plan all n [] = tt
entering_as plan all n (s ∷ streams) = (tt, entering_as plan all (n + 1) streams)

outputs_as : (plan : Plan) (all : List Producer) (n m k : ℕ) (outputs : List ℕ) → node_number plan n ≡ m → AllZip (IsWritten all) outputs (map (λ port. Node n port) (range_with_len k (length outputs)))
    → AllZip (Writes plan all) outputs (map (λ e. written_by plan e.1 (Node m e.0)) (enumerate_from k outputs))
outputs_as plan all n m k [] number z = tt
outputs_as plan all n m k (s ∷ outputs) number z = ((n, z.0, number), outputs_as plan all n m (k + 1) outputs number z.1)

long_ports : (n k c : ℕ) → length (map (λ port. Node n port) (range_with_len k c)) ≡ c
long_ports n k zero = refl
long_ports n k (suc c) = ap suc (long_ports n (k + 1) c)

nodes_as : (plan : Plan) (all : List Producer) (n m : ℕ) (nodes : List PlanNode) → Walk plan n m nodes
    → AllZip (IsWritten all) (outputs_of nodes) (flat_map (λ e. map (λ port. Node e.0 port) (numbers (length e.1.outputs))) (enumerate_from n nodes))
    → AllZip (Writes plan all) (outputs_of (filter is_core nodes)) (flat_map (λ e. output_streams plan e.0 e.1.outputs) (enumerate_from m (filter is_core nodes)))
nodes_as plan all n m [] w z = tt
nodes_as plan all n m (node ∷ nodes) w z =
    let parts = zipped_parts (IsWritten all) node.outputs (map (λ port. Node n port) (numbers (length node.outputs))) (outputs_of nodes)
    (flat_map (λ e. map (λ port. Node e.0 port) (numbers (length e.1.outputs))) (enumerate_from (n + 1) nodes)) (sym (long_ports n 0 (length node.outputs))) z in
    elim (cases_Bool (is_core node)) [
      | inl is ↦ subst (λ (l : List PlanNode). AllZip (Writes plan all) (outputs_of l) (flat_map (λ e. output_streams plan e.0 e.1.outputs) (enumerate_from m l))) (sym (filter_in is_core node nodes is))
          (zipped_both (Writes plan all) node.outputs (output_streams plan m node.outputs) (outputs_of (filter is_core nodes)) (flat_map (λ e. output_streams plan e.0 e.1.outputs) (enumerate_from (m + 1) (filter is_core nodes)))
          (outputs_as plan all n m 0 node.outputs (walk_core_number plan n m node nodes w is) parts.0)
          (nodes_as plan all (n + 1) (m + 1) nodes (walk_core plan n m node nodes w is) parts.1))
      | inr isnt ↦ subst (λ (l : List PlanNode). AllZip (Writes plan all) (outputs_of l) (flat_map (λ e. output_streams plan e.0 e.1.outputs) (enumerate_from m l))) (sym (filter_out is_core node nodes isnt))
          (nodes_as plan all (n + 1) m nodes (walk_free plan n m node nodes w isnt) parts.1)
    ]

long_inputs : (k c : ℕ) → length (map Input (range_with_len k c)) ≡ c
long_inputs k zero = refl
long_inputs k (suc c) = ap suc (long_inputs (k + 1) c)

pub long_image : {X Y : Type 0} (f : X → Y) (xs : List X) → length (map f xs) ≡ length xs
long_image f [] = refl
long_image f (x ∷ xs) = ap suc (long_image f xs)

-- Each stream of the core is one of the plan, and written by its node.
pub streams_written : (plan : Plan) → written_streams plan ≡ numbers (length plan.streams) → map (λ s. s.producer) plan.streams ≡ producers plan
    → AllZip (Writes plan (map (λ s. s.producer) plan.streams)) (core_streams plan) (streams_of plan)
streams_written plan written producing =
    let all = map (λ (s : PlanStream). s.producer) plan.streams in
    let each : AllZip (IsWritten all) (range_with_len 0 (length all)) all = each_written [] all in
    let each_number : AllZip (IsWritten all) (written_streams plan) all =
    subst (λ (l : List ℕ). AllZip (IsWritten all) l all) (ap numbers (long_image (λ (s : PlanStream). s.producer) plan.streams) ∙ sym written) each in
    let each_producer : AllZip (IsWritten all) (written_streams plan) (producers plan) = subst (λ (l : List Producer). AllZip (IsWritten all) (written_streams plan) l) producing each_number in
    let parts = zipped_parts (IsWritten all) plan.inputs (map Input (numbers (length plan.inputs))) (outputs_of plan.nodes)
    (flat_map (λ e. map (λ port. Node e.0 port) (numbers (length e.1.outputs))) (enumerate_from 0 plan.nodes)) (sym (long_inputs 0 (length plan.inputs))) each_producer in
    zipped_both (Writes plan all) (entering plan) (map (λ e. written_by plan e.1 (Input e.0)) (enumerate_from 0 (entering plan)))
    (outputs_of (filter is_core plan.nodes)) (flat_map (λ e. output_streams plan e.0 e.1.outputs) (enumerate_from 0 (filter is_core plan.nodes)))
    (entering_as plan all 0 (entering plan))
    (nodes_as plan all 0 0 plan.nodes (walk_begins plan) parts.1)

-- So many streams the core has.
pub streams_long : (plan : Plan) → written_streams plan ≡ numbers (length plan.streams) → map (λ s. s.producer) plan.streams ≡ producers plan → length (core_of plan).streams ≡ length (core_streams plan)
streams_long plan written producing =
    sym (zipped_long (Writes plan (map (λ s. s.producer) plan.streams)) (core_streams plan) (streams_of plan) (streams_written plan written producing))
