-- The order of a plan. The nodes that take no stream and the links between nodes are of its nodes. Each node stands
-- once in the order, and edges lead forward.
use Rattle.std.proofs.Common.{ℕ, zero, suc, ◌+◌, ◌<◌, ◌≤◌, ◌≡◌, ◌≢◌, List, [], ◌∷◌, All, AllPairs, Contains, Bool, true, false, ◌||◌, cond, ◌==◌, Option, None, Some, length, map, refl, sym, ap, ◌∙◌, subst, arith, if◌then◌else◌, option_map}
use Rattle.std.specs.Prelude.{slice_get, filter, IfSome}
use Rattle.std.specs.List.{AllByRecursion, enumerate_from, flat_map}
use Rattle.std.specs.Option.{option_and_then}
use Rattle.std.proofs.lemmas.Bool.{false≢true, ne_eqb}
use Rattle.std.proofs.lemmas.List.Elements.{All-from_recursion, recursion_from_All, All-contains_itself}
use Rattle.std.proofs.lemmas.List.Kept.{AllPairs-cons}
use Rattle.std.proofs.lemmas.Option.{same_Some, slice_get_within, slice_get-map}
use Rattle.mg_config.specs.Config.{GraphView}
use Rattle.mg_subgraph.specs.Refusals.{port_names}
use Rattle.mg_calc.specs.declared.edge.Edge.{Edge}
use Rattle.mg_calc.specs.declared.plan_stream.Producer.{Producer}
use Rattle.mg_calc.specs.declared.plan_stream.Producer.TheVariants.{Input, Node}
use Rattle.mg_calc.specs.Plan.{numbers, writing_node, writer_of, HasEachOnce, StandsBefore, LeadsForward}
use Rattle.mg_check.specs.Drafts.{DraftView}
use Rattle.mg_check.specs.Order.{is_among, left_out, IsBetween}
use Rattle.mg_check.specs.Joining.{stream_names, side_names, edges_into, node_edges, edges, writers, link_of, links, sources, order, cycle_of, cycle}
use Rattle.mg_check.specs.Planning.{plan_streams, plan_of}
use Rattle.mg_check.specs.declared.ordering.Link.{Link}
use Rattle.mg_check.specs.Code.Sound.{HasNames}
use Rattle.mg_calc.proofs.Earlier.{at_place}
use Rattle.mg_check.specs.Cycle.{largest_cycle}
use Rattle.mg_check.proofs.OrderFacts.{order_below, order_once, order_forward, left_out_none}
use Rattle.mg_check.proofs.LargestCycle.{largest_left_out, one_cycle}
use Rattle.mg_check.proofs.CycleRounds.{rounds_leave_the_largest}
use Rattle.mg_check.proofs.ValidLists.{joined, pieces, place_if, all_given, given_all, all_so, all_both, and_then_mapped}
use Rattle.mg_check.proofs.ValidStreams.{stream_writers}
use Rattle.mg_check.proofs.ValidEdges.{edges_each, edge_to, into_node, nodes_long}

-- Sources.

abbrev reads_nothing : ℕ × DraftView → Bool
reads_nothing e = length e.1.inputs == 0

abbrev sources_from : ℕ → List DraftView → List ℕ
sources_from a ds = map (λ e. e.0) (filter reads_nothing (enumerate_from a ds))

record IsFrom (low high n : ℕ) : Type 0 where
  above : low ≤ n
  under : n < high

wider : (low less high n : ℕ) → less ≤ low → IsFrom low high n → IsFrom less high n
wider low less high n more known = let a = known.above in record { above = omega arith; under = known.under }

with_first : (a : ℕ) (d : DraftView) (test : Bool) (rest : List (ℕ × DraftView)) (P : List ℕ → Type 0) → P (a ∷ map (λ e. e.0) rest) → P (map (λ e. e.0) rest) → P (map (λ e. e.0) (cond test ((a, d) ∷ rest) rest))
with_first a d true rest P first other = first
with_first a d false rest P first other = other

sources_between : (a high : ℕ) (ds : List DraftView) → a + length ds ≡ high → AllByRecursion (IsFrom a high) (sources_from a ds)
sources_between a high [] same = tt
sources_between a high (d ∷ ds) same =
    let rest : AllByRecursion (IsFrom (a + 1) high) (sources_from (a + 1) ds) = sources_between (a + 1) high ds (omega arith) in
    let these = all_so (IsFrom (a + 1) high) (IsFrom a high) (sources_from (a + 1) ds) (λ n known. wider (a + 1) a high n (omega arith) known) rest in
    with_first a d (reads_nothing (a, d)) (filter reads_nothing (enumerate_from (a + 1) ds)) (AllByRecursion (IsFrom a high)) (record { above = omega arith; under = omega arith }, these) these

sources_apart : (a : ℕ) (ds : List DraftView) → AllPairs ◌≢◌ (sources_from a ds)
sources_apart a [] = λ i j d less within. absurd (omega (arith, within))
sources_apart a (d ∷ ds) =
    let rest = sources_apart (a + 1) ds in
    let high = (a + 1) + length ds in
    let others : All (λ n. a ≢ n) (sources_from (a + 1) ds) =
    All-from_recursion (λ n. a ≢ n) (sources_from (a + 1) ds)
    (all_so (IsFrom (a + 1) high) (λ n. a ≢ n) (sources_from (a + 1) ds) (λ n known same. above_it a n known.above same) (sources_between (a + 1) high ds refl)) in
    with_first a d (reads_nothing (a, d)) (filter reads_nothing (enumerate_from (a + 1) ds)) (AllPairs ◌≢◌) (AllPairs-cons ◌≢◌ a (sources_from (a + 1) ds) others rest) rest
  where
    above_it : (a n : ℕ) → a + 1 ≤ n → a ≡ n → ⊥
    above_it a n above same = omega arith

pub sources_below : (ds : List DraftView) → All (λ n. n < length ds) (sources ds)
sources_below ds =
    All-from_recursion (λ n. n < length ds) (sources ds)
    (all_so (IsFrom 0 (length ds)) (λ n. n < length ds) (sources ds) (λ n known. known.under) (sources_between 0 (length ds) ds (omega arith)))

pub sources_once : (ds : List DraftView) → AllPairs ◌≢◌ (sources ds)
sources_once ds = sources_apart 0 ds

-- a number below all numbers of a list is none of them
not_among : (n : ℕ) (ns : List ℕ) → AllByRecursion (λ m. n < m) ns → is_among ns n ≡ false
not_among n [] all = refl
not_among n (m ∷ ns) all =
    let less : n < m = all.0 in
    let other : (n == m) ≡ false = ne_eqb n m (λ same. omega arith) in
    either (n == m) (is_among ns n) other (not_among n ns all.1)
  where
    either : (a b : Bool) → a ≡ false → b ≡ false → (a || b) ≡ false
    either true b first second = absurd (false≢true (sym first))
    either false b first second = second

-- a node that reads something is no source
fed_from : (a : ℕ) (ds : List DraftView) (k n : ℕ) (d : DraftView) → slice_get ds k ≡ Some d → a + k ≡ n → (length d.inputs == 0) ≡ false → is_among (sources_from a ds) n ≡ false
fed_from a [] k n d here at some = cc
fed_from a (e ∷ ds) zero n d here at some =
    let high = (a + 1) + length ds in
    let same : d ≡ e = sym (same_Some e d here) in
    let fails : reads_nothing (a, e) ≡ false = subst (λ x. (length x.inputs == 0) ≡ false) same some in
    let rest = filter reads_nothing (enumerate_from (a + 1) ds) in
    subst (λ t. is_among (map (λ x. x.0) (cond t ((a, e) ∷ rest) rest)) n ≡ false) (sym fails)
    (not_among n (sources_from (a + 1) ds)
    (all_so (IsFrom (a + 1) high) (λ m. n < m) (sources_from (a + 1) ds) (λ m known. let above = known.above in omega arith) (sources_between (a + 1) high ds refl)))
fed_from a (e ∷ ds) (suc k) n d here at some =
    let rest : is_among (sources_from (a + 1) ds) n ≡ false = fed_from (a + 1) ds k n d here (omega arith) some in
    let other : (n == a) ≡ false = ne_eqb n a (λ same. omega arith) in
    with_first a e (reads_nothing (a, e)) (filter reads_nothing (enumerate_from (a + 1) ds)) (λ ns. is_among ns n ≡ false)
    (subst (λ b. (b || is_among (sources_from (a + 1) ds) n) ≡ false) (sym other) rest) rest

-- Links.

abbrev writer_among : List Producer → Edge → Option ℕ
writer_among ws e = option_and_then writing_node (slice_get ws e.stream)

to_node : (node : ℕ) (P : Link → Type 0) (o : Option ℕ) → IfSome o (λ from. P (record { from = from; to = node })) → IfSome (option_map (λ from. record { from = from; to = node }) o) P
to_node node P None known = tt
to_node node P (Some from) known = known

of_node : (node : ℕ) (P : Link → Type 0) (o : Option ℕ) → IfSome (option_map (λ from. record { from = from; to = node }) o) P → IfSome o (λ from. P (record { from = from; to = node }))
of_node node P None known = tt
of_node node P (Some from) known = known

unless : (back : Bool) (P : Link → Type 0) (o : Option Link) → IfSome o P → IfSome (if back then None else o) P
unless true P o known = tt
unless false P o known = known

link_if : (ws : List Producer) (e : Edge) (P : Link → Type 0) → IfSome (writer_among ws e) (λ from. P (record { from = from; to = e.node })) → IfSome (link_of ws e) P
link_if ws e P known = unless e.back P (option_map (λ from. record { from = from; to = e.node }) (writer_among ws e)) (to_node e.node P (writer_among ws e) known)

if_link : (ws : List Producer) (e : Edge) (P : Link → Type 0) → e.back ≡ false → IfSome (link_of ws e) P → IfSome (writer_among ws e) (λ from. P (record { from = from; to = e.node }))
if_link ws e P ahead known =
    of_node e.node P (writer_among ws e)
    (subst (λ b. IfSome (if b then None else option_map (λ from. record { from = from; to = e.node }) (writer_among ws e)) P) ahead known)

if_given : {X Y : Type 0} (f : X → Option Y) (P : Y → Type 0) (o : Option X) → IfSome o (λ x. IfSome (f x) P) → IfSome (option_and_then f o) P
if_given f P None known = tt
if_given f P (Some x) known = known

if_any : {X : Type 0} (P : X → Type 0) (o : Option X) → ((x : X) → P x) → IfSome o P
if_any P None each = tt
if_any P (Some x) each = each x

if_so : {X : Type 0} (P Q : X → Type 0) (o : Option X) → ((x : X) → P x → Q x) → IfSome o P → IfSome o Q
if_so P Q None so known = tt
if_so P Q (Some x) so known = so x known

-- the nodes that write are there
writers_below : (graph : GraphView) (ds : List DraftView) → AllByRecursion (λ p. IfSome (writing_node p) (λ n. n < length ds)) (writers graph ds)
writers_below graph ds =
    let P : Producer → Type 0 = λ p. IfSome (writing_node p) (λ n. n < length ds) in
    joined P (map Input (numbers (length graph.inputs))) (flat_map (λ e. map (λ port. Node e.0 port) (numbers (length e.1.outputs))) (enumerate_from 0 ds))
    (each_input (numbers (length graph.inputs)))
    (pieces P (λ e. map (λ port. Node e.0 port) (numbers (length e.1.outputs))) ds (λ k d here. each_port k (numbers (length d.outputs)) (slice_get_within ds k d here)))
  where
    each_input : (ns : List ℕ) → AllByRecursion (λ p. IfSome (writing_node p) (λ n. n < length ds)) (map Input ns)
    each_input [] = tt
    each_input (n ∷ ns) = (tt, each_input ns)

    each_port : (k : ℕ) (ns : List ℕ) → k < length ds → AllByRecursion (λ p. IfSome (writing_node p) (λ n. n < length ds)) (map (λ port. Node k port) ns)
    each_port k [] within = tt
    each_port k (n ∷ ns) within = (within, each_port k ns within)

writer_below : (graph : GraphView) (ds : List DraftView) (e : Edge) → IfSome (writer_among (writers graph ds) e) (λ n. n < length ds)
writer_below graph ds e = if_given writing_node (λ n. n < length ds) (slice_get (writers graph ds) e.stream) (place_if (λ p. IfSome (writing_node p) (λ n. n < length ds)) (writers graph ds) e.stream (writers_below graph ds))

-- the edges of the nodes lead to nodes that read something
edges_if : (P : Edge → Type 0) (names : List (List ℕ)) (node : ℕ) (back : Option ℕ) (inputs : List (List ℕ)) → ((length inputs == 0) ≡ false → (port : ℕ) (name : List ℕ) → P (edge_to names node back (port, name)))
    → AllByRecursion P (edges_into names node back inputs)
edges_if P names node back [] each = tt
edges_if P names node back (x ∷ xs) each =
    let some : (length (x ∷ xs) == 0) ≡ false = ne_eqb (length (x ∷ xs)) 0 (λ same. omega arith) in
    edges_each P names node back (x ∷ xs) (each some)

record IsFed (ds : List DraftView) (n : ℕ) : Type 0 where
  there : n < length ds
  fed : is_among (sources ds) n ≡ false

edges_fed : (graph : GraphView) (ds : List DraftView) → AllByRecursion (λ e. IsFed ds e.node) (node_edges graph ds)
edges_fed graph ds =
    pieces (λ e. IsFed ds e.node) (into_node (stream_names graph ds)) ds
    (λ k d here. edges_if (λ e. IsFed ds e.node) (stream_names graph ds) k d.back d.inputs
    (λ some port name. record { there = slice_get_within ds k d here; fed = fed_from 0 ds k k d here (omega arith) some }))

record IsSoundLink (ds : List DraftView) (link : Link) : Type 0 where
  from : link.from < length ds
  to : IsFed ds link.to

links_sound : (graph : GraphView) (ds : List DraftView) → AllByRecursion (IsSoundLink ds) (links graph ds)
links_sound graph ds =
    all_given (IsSoundLink ds) (link_of (writers graph ds)) (node_edges graph ds)
    (all_so (λ e. IsFed ds e.node) (λ e. IfSome (link_of (writers graph ds) e) (IsSoundLink ds)) (node_edges graph ds)
    (λ e fed. link_if (writers graph ds) e (IsSoundLink ds)
    (if_so (λ n. n < length ds) (λ n. IsSoundLink ds (record { from = n; to = e.node })) (writer_among (writers graph ds) e) (λ n within. record { from = within; to = fed }) (writer_below graph ds e)))
    (edges_fed graph ds))

pub links_between : (graph : GraphView) (ds : List DraftView) → All (IsBetween (length ds)) (links graph ds)
links_between graph ds =
    All-from_recursion (IsBetween (length ds)) (links graph ds)
    (all_so (IsSoundLink ds) (IsBetween (length ds)) (links graph ds) (λ link sound. record { from = sound.from; to = sound.to.there }) (links_sound graph ds))

pub links_unfed : (graph : GraphView) (ds : List DraftView) → All (λ link. is_among (sources ds) link.to ≡ false) (links graph ds)
links_unfed graph ds =
    let P : Link → Type 0 = λ link. is_among (sources ds) link.to ≡ false in
    All-from_recursion P (links graph ds) (all_so (IsSoundLink ds) P (links graph ds) (λ link sound. sound.to.fed) (links_sound graph ds))

-- The nodes that the order leaves out are those of the largest cycle.
pub left_out_is : (graph : GraphView) (ds : List DraftView) → left_out (length ds) (order graph ds) ≡ largest_cycle (length ds) (links graph ds)
left_out_is graph ds =
    one_cycle (links graph ds) (left_out (length ds) (order graph ds)) (largest_cycle (length ds) (links graph ds))
    (largest_left_out (length ds) (sources ds) (links graph ds) (sources_below ds) (sources_once ds) (links_between graph ds) (links_unfed graph ds))
    (rounds_leave_the_largest (length ds) (links graph ds) (links_between graph ds))

-- Fields of a valid plan.

no_cycle : (ns : List ℕ) → cycle_of ns ≡ None → ns ≡ []
no_cycle [] none = refl
no_cycle (n ∷ ns) none = cc

below_all : (ds : List DraftView) (graph : GraphView) → All (λ n. n < length ds) (order graph ds)
below_all ds graph = order_below (length ds) (sources ds) (links graph ds) (sources_below ds)

pub order_each_once : (graph : GraphView) (ds : List DraftView) → cycle graph ds ≡ None → HasEachOnce (length ds) (order graph ds)
order_each_once graph ds none = record {
  there = left_out_none (length ds) (order graph ds) (left_out_is graph ds ∙ no_cycle (largest_cycle (length ds) (links graph ds)) none);
  below = below_all ds graph;
  once = order_once (length ds) (sources ds) (links graph ds) (sources_once ds);
}

pub valid_order : (graph : GraphView) (ds : List DraftView) → cycle graph ds ≡ None → HasEachOnce (length (plan_of graph ds).nodes) (plan_of graph ds).order
valid_order graph ds none =
    subst (λ count. HasEachOnce count (order graph ds)) (sym (nodes_long (stream_names graph ds) (side_names graph ds) (length graph.inputs) ds)) (order_each_once graph ds none)

pub links_forward : (graph : GraphView) (ds : List DraftView) → AllByRecursion (λ link. StandsBefore (order graph ds) link.from link.to) (links graph ds)
links_forward graph ds =
    all_both (Contains (links graph ds)) (IsSoundLink ds) (λ link. StandsBefore (order graph ds) link.from link.to) (links graph ds)
    (λ link there sound. order_forward (length ds) (sources ds) (links graph ds) link there sound.to.fed)
    (recursion_from_All (Contains (links graph ds)) (links graph ds) (All-contains_itself (links graph ds)))
    (links_sound graph ds)

-- the writer of an edge's stream
writer_same : (graph : GraphView) (ds : List DraftView) (e : Edge) → AllByRecursion HasNames ds → writer_of (plan_of graph ds) e ≡ writer_among (writers graph ds) e
writer_same graph ds e named =
    and_then_mapped (λ s. s.producer) writing_node (slice_get (plan_streams graph ds) e.stream)
    ∙ (ap (option_and_then writing_node) (sym (slice_get-map (λ s. s.producer) (plan_streams graph ds) e.stream))
    ∙ ap (λ ws. writer_among ws e) (stream_writers graph ds named))

-- a number that isn't there comes after all
past_all : (ns : List ℕ) (count writer : ℕ) → All (λ n. n < count) ns → StandsBefore ns writer count
past_all ns count writer below i j first second =
    let less : count < count = at_place (λ n. n < count) ns j count (recursion_from_All (λ n. n < count) ns below) second in absurd (omega arith)

pub valid_forward : (graph : GraphView) (ds : List DraftView) → AllByRecursion HasNames ds → All (λ e. e.back ≡ false → LeadsForward (plan_of graph ds) e) (plan_of graph ds).edges
valid_forward graph ds named =
    let names = stream_names graph ds in
    let ws = writers graph ds in
    let Before : Link → Type 0 = λ link. StandsBefore (order graph ds) link.from link.to in
    let P : Edge → Type 0 = λ e. e.back ≡ false → LeadsForward (plan_of graph ds) e in
    let leads : (e : Edge) → IfSome (writer_among ws e) (λ w. StandsBefore (order graph ds) w e.node) → LeadsForward (plan_of graph ds) e =
    λ e known. subst (λ o. IfSome o (λ w. StandsBefore (order graph ds) w e.node)) (sym (writer_same graph ds e named)) known in
    All-from_recursion P (edges graph ds)
    (joined P (node_edges graph ds) (edges_into names (length ds) None (port_names graph.outputs))
    (all_so (λ e. IfSome (link_of ws e) Before) P (node_edges graph ds) (λ e known ahead. leads e (if_link ws e Before ahead known)) (given_all Before (link_of ws) (node_edges graph ds) (links_forward graph ds)))
    (edges_each P names (length ds) None (port_names graph.outputs)
    (λ port name ahead. leads (edge_to names (length ds) None (port, name))
    (if_any (λ w. StandsBefore (order graph ds) w (length ds)) (writer_among ws (edge_to names (length ds) None (port, name))) (λ w. past_all (order graph ds) (length ds) w (below_all ds graph))))))
