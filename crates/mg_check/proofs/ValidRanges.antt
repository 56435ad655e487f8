-- The numbers of a plan are in their ranges.
use Rattle.std.proofs.Common.{ℕ, suc, ℤ, pos, negsuc, ◌+◌, ◌<◌, ◌≤◌, ◌≡◌, ◌≢◌, List, [], ◌∷◌, ◌++◌, All, Bool, true, false, not, nat_lt, ◌==◌, if◌then◌else◌, Option, None, Some, length, map, refl, sym, ap, ◌∙◌, subst, arith}
use Rattle.std.specs.Prelude.{zip, position, unwrap_or}
use Rattle.std.specs.List.{AllByRecursion, range_with_len, enumerate_from, flat_map, filter_map}
use Rattle.std.specs.Option.{option_or}
use Rattle.std.specs.Str.{bytes_eq}
use Rattle.std.proofs.lemmas.Bool.{false≢true, not-false, ltb-false, eqb-false}
use Rattle.std.proofs.lemmas.Bool.Decides.{nat_tests}
use Rattle.std.proofs.lemmas.List.{length-append, length-map, append-nil}
use Rattle.std.proofs.lemmas.List.Elements.{All-from_recursion, filter_map-append}
use Rattle.std.proofs.lemmas.List.FromFn.{length-range_with_len}
use Rattle.std.proofs.lemmas.List.Quantifiers.{position-Some}
use Rattle.std.proofs.lemmas.Slice.Zip.{length-zip}
use Rattle.mg_value.specs.Plain.{Plain}
use Rattle.mg_config.specs.Config.{GraphView}
use Rattle.mg_subgraph.specs.Refusals.{port_names}
use Rattle.mg_subgraph.proofs.Joins.{none_left, none_right, none_mapped, absent_here, absent_later}
use Rattle.mg_calc.specs.Side.{PlainSide, given_at, fixed}
use Rattle.mg_calc.specs.Plan.{numbers, AreInRange, given_places, place_of}
use Rattle.mg_check.specs.Drafts.{DraftView}
use Rattle.mg_check.specs.Names.{is_name_among, first_missing, number_among}
use Rattle.mg_check.specs.Joining.{stream_names, read_names, side_names, taken_names, edges, two_producers, no_producer, side_missing, kind_clash, back_edge_misplaced, cycle, too_many, join_refusal}
use Rattle.mg_check.specs.Planning.{plan_nodes, plan_streams, plan_sides, given_sides, fixed_sides, limit_of, workers_of, plan_of}
use Rattle.mg_check.specs.declared.fault.CheckFault.{CheckFault}
use Rattle.mg_check.specs.declared.fault.CheckFault.TheVariants.{TooMany, NoProducer, SideMissing}
use Rattle.mg_check.specs.declared.fault.Many.TheVariants.{Edges, Outputs}
use Rattle.mg_check.specs.Code.Sound.{HasNames}
use Rattle.mg_check.proofs.ValidLists.{both_parts, all_mapped}
use Rattle.mg_check.proofs.ValidStreams.{names_count, streams_long}
use Rattle.mg_check.proofs.ValidEdges.{nodes_long}
use Rattle.mg_check.proofs.ValidNodes.{nodes_by}

-- what isn't refused
pub record AreJoined (graph : GraphView) (ds : List DraftView) : Type 0 where
  pub read : first_missing (stream_names graph ds) (read_names graph ds) ≡ None
  pub taken : first_missing (side_names graph ds) (taken_names graph ds) ≡ None
  pub none_wait : cycle graph ds ≡ None
  pub few : too_many graph ds ≡ None

pub are_joined : (graph : GraphView) (ds : List DraftView) → join_refusal graph ds ≡ None → AreJoined graph ds
are_joined graph ds none =
    let last = option_or (cycle graph ds) (too_many graph ds) in
    let back = option_or (back_edge_misplaced ds) last in
    let clash = option_or (kind_clash graph ds) back in
    let sides = option_or (side_missing graph ds) clash in
    let streams = option_or (no_producer graph ds) sides in
    let a = none_right (two_producers graph ds) streams none in
    let b = none_right (no_producer graph ds) sides a in
    let c = none_right (side_missing graph ds) clash b in
    let d = none_right (kind_clash graph ds) back c in
    let e = none_right (back_edge_misplaced ds) last d in
    record {
      read = none_mapped NoProducer (first_missing (stream_names graph ds) (read_names graph ds)) (none_left (no_producer graph ds) sides a);
      taken = none_mapped SideMissing (first_missing (side_names graph ds) (taken_names graph ds)) (none_left (side_missing graph ds) clash b);
      none_wait = none_left (cycle graph ds) (too_many graph ds) e;
      few = none_right (cycle graph ds) (too_many graph ds) e;
    }

-- Names.

-- the number of a name that is there is below how many there are
number_below : (names : List (List ℕ)) (name : List ℕ) → is_name_among names name ≡ true → number_among names name < length names
number_below [] name among = absurd (false≢true among)
number_below (x ∷ xs) name among = by (position (bytes_eq name) (x ∷ xs)) refl
  where
    by : (o : Option ℕ) → position (bytes_eq name) (x ∷ xs) ≡ o → unwrap_or o 0 < length (x ∷ xs)
    by None found = omega arith
    by (Some i) found = (position-Some (bytes_eq name) (x ∷ xs) i [] found).0

-- each name is there if none is missing
none_missing : (there names : List (List ℕ)) → first_missing there names ≡ None → AllByRecursion (λ name. number_among there name < length there) names
none_missing there [] none = tt
none_missing there (x ∷ xs) none = (
  number_below there x (not-false (is_name_among there x) (absent_here (not (is_name_among there x)) x (first_missing there xs) none)),
  none_missing there xs (absent_later (not (is_name_among there x)) x (first_missing there xs) none),
)

abbrev below : ℕ → List ℕ → Type 0
below count ns = All (λ n. n < count) ns

all_below : (there names : List (List ℕ)) (count : ℕ) → length there ≡ count → AllByRecursion (λ name. number_among there name < length there) names → below count (map (number_among there) names)
all_below there names count long all =
    All-from_recursion (λ n. n < count) (map (number_among there) names)
    (all_mapped (λ n. n < count) (number_among there) names (subst (λ k. AllByRecursion (λ name. number_among there name < k) names) long all))

-- the names at each draft
each_part : (P : List ℕ → Type 0) (names_of : DraftView → List (List ℕ)) (ds : List DraftView) → AllByRecursion P (flat_map names_of ds) → AllByRecursion (λ d. AllByRecursion P (names_of d)) ds
each_part P names_of [] all = tt
each_part P names_of (d ∷ ds) all = let parts = both_parts P (names_of d) (flat_map names_of ds) all in (parts.0, each_part P names_of ds parts.1)

-- Side packets.

abbrev given_by : ℕ × List ℕ → PlainSide
given_by e = record { name = e.1; value = given_at e.0 }

abbrev fixed_by : List ℕ × Plain → PlainSide
fixed_by e = record { name = e.0; value = fixed e.1 }

abbrev place_at : PlainSide → Option ℕ
place_at side = place_of side.value

given_long : (n : ℕ) (names : List (List ℕ)) → length (map given_by (enumerate_from n names)) ≡ length names
given_long n [] = refl
given_long n (x ∷ xs) = ap suc (given_long (n + 1) xs)

fixed_long : (ds : List DraftView) → AllByRecursion HasNames ds → length (flat_map fixed_sides ds) ≡ length (flat_map (λ d. d.side_outputs) ds)
fixed_long [] named = refl
fixed_long (d ∷ ds) named =
    let same = named.0.side_outputs in
    let pairs = length-zip d.side_outputs d.constants in
    let here = length-map (zip d.side_outputs d.constants) fixed_by in
    let rest = fixed_long ds named.1 in
    let whole = length-append (fixed_sides d) (flat_map fixed_sides ds) in
    let other = length-append d.side_outputs (flat_map (λ e. e.side_outputs) ds) in
    omega arith

pub sides_long : (graph : GraphView) (ds : List DraftView) → AllByRecursion HasNames ds → length (plan_sides graph ds) ≡ length (side_names graph ds)
sides_long graph ds named =
    let whole = length-append (given_sides graph) (flat_map fixed_sides ds) in
    let other = length-append (port_names graph.input_sides) (flat_map (λ d. d.side_outputs) ds) in
    let given = given_long 0 (port_names graph.input_sides) in
    let fixed = fixed_long ds named in
    omega arith

places_in_order : (n : ℕ) (names : List (List ℕ)) → filter_map place_at (map given_by (enumerate_from n names)) ≡ range_with_len n (length names)
places_in_order n [] = refl
places_in_order n (x ∷ xs) = ap (λ l. n ∷ l) (places_in_order (n + 1) xs)

no_places : (es : List (List ℕ × Plain)) → filter_map place_at (map fixed_by es) ≡ []
no_places [] = refl
no_places (e ∷ es) = no_places es

none_fixed : (ds : List DraftView) → filter_map place_at (flat_map fixed_sides ds) ≡ []
none_fixed [] = refl
none_fixed (d ∷ ds) =
    filter_map-append place_at (fixed_sides d) (flat_map fixed_sides ds)
    ∙ (ap (λ l. l ++ filter_map place_at (flat_map fixed_sides ds)) (no_places (zip d.side_outputs d.constants)) ∙ none_fixed ds)

places_of_all : (graph : GraphView) (ds : List DraftView) → given_places (plan_of graph ds) ≡ numbers (length (port_names graph.input_sides))
places_of_all graph ds =
    filter_map-append place_at (given_sides graph) (flat_map fixed_sides ds)
    ∙ (ap (λ l. filter_map place_at (given_sides graph) ++ l) (none_fixed ds)
    ∙ (append-nil (filter_map place_at (given_sides graph)) ∙ places_in_order 0 (port_names graph.input_sides)))

-- numbers from 0 on are those of their own count
own_count : (ns : List ℕ) (count : ℕ) → ns ≡ numbers count → ns ≡ numbers (length ns)
own_count ns count same = same ∙ sym (ap numbers (ap length same ∙ length-range_with_len 0 count))

-- Limits.

at_least_0 : ℤ → ℕ
at_least_0 (pos n) = n
at_least_0 (negsuc n) = 1

some_limit : (most : ℤ) → limit_of most ≢ pos 0
unfolding at_least_0
some_limit (pos n) same = by (n == 0) (eqb-false n 0) same
  where
    by : (t : Bool) → (t ≡ false → n ≡ 0 → ⊥) → (if t then pos 100 else pos n) ≢ pos 0
    by true other same = let e : ◌≡◌ {A = ℕ} 100 0 = ap at_least_0 same in omega arith
    by false other same = other refl (ap at_least_0 same)
some_limit (negsuc n) same = let e : ◌≡◌ {A = ℕ} 1 0 = ap at_least_0 same in omega arith

few_workers : (threads : ℤ) → workers_of threads ≤ 64
few_workers (pos n) = grind (arith, nat_tests)
few_workers (negsuc n) = omega arith

edges_few : (graph : GraphView) (ds : List DraftView) → too_many graph ds ≡ None → (length (edges graph ds) ≤ 16384) × (length graph.outputs ≤ 256)
edges_few graph ds few =
    let rest : Option CheckFault = if nat_lt 256 (length graph.outputs) then Some (TooMany Outputs) else None in
    let second = absent_later (nat_lt 16384 (length (edges graph ds))) (TooMany Edges) rest few in (
      ltb-false 16384 (length (edges graph ds)) (absent_here (nat_lt 16384 (length (edges graph ds))) (TooMany Edges) rest few),
      ltb-false 256 (length graph.outputs) (absent_here (nat_lt 256 (length graph.outputs)) (TooMany Outputs) None second),
    )

pub valid_ranges : (graph : GraphView) (ds : List DraftView) → length ds ≤ 4096 → AreJoined graph ds → AllByRecursion HasNames ds → AreInRange (plan_of graph ds)
valid_ranges graph ds short known named =
    let streams = stream_names graph ds in
    let sides = side_names graph ds in
    let first = length graph.inputs in
    let count = length (plan_streams graph ds) in
    let packets = length (plan_sides graph ds) in
    let long : length streams ≡ count = names_count graph ds ∙ sym (streams_long graph ds named) in
    let many : length sides ≡ packets = sym (sides_long graph ds named) in
    let few = edges_few graph ds known.few in
    let read = both_parts (λ name. number_among streams name < length streams) (flat_map (λ d. d.inputs) ds) (port_names graph.outputs) (none_missing streams (read_names graph ds) known.read) in
    let taken = both_parts (λ name. number_among sides name < length sides) (flat_map (λ d. d.sides) ds) (port_names graph.output_sides) (none_missing sides (taken_names graph ds) known.taken) in
    record {
      nodes = subst (λ k. k ≤ 4096) (sym (nodes_long streams sides first ds)) short;
      edges = few.0;
      outputs = subst (λ k. k ≤ 256) (sym (length-map (port_names graph.outputs) (number_among streams) ∙ length-map graph.outputs (λ p. p.name))) few.1;
      workers = few_workers graph.num_threads;
      read = All-from_recursion (λ node. below count node.inputs) (plan_nodes streams sides first ds)
          (nodes_by (λ node. below count node.inputs) (λ d. AllByRecursion (λ name. number_among streams name < length streams) d.inputs) streams sides first ds
          (λ from d all. all_below streams d.inputs count long all)
          (each_part (λ name. number_among streams name < length streams) (λ d. d.inputs) ds read.0));
      shown = all_below streams (port_names graph.outputs) count long read.1;
      taken = All-from_recursion (λ node. below packets node.sides) (plan_nodes streams sides first ds)
          (nodes_by (λ node. below packets node.sides) (λ d. AllByRecursion (λ name. number_among sides name < length sides) d.sides) streams sides first ds
          (λ from d all. all_below sides d.sides packets many all)
          (each_part (λ name. number_among sides name < length sides) (λ d. d.sides) ds taken.0));
      given = own_count (given_places (plan_of graph ds)) (length (port_names graph.input_sides)) (places_of_all graph ds);
      limit = some_limit graph.max_queue_size;
    }
