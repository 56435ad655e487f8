-- What is told of a plan with free nodes, by what is told of its core.
use Rattle.std.proofs.Common.{◌≡◌, ◌<◌, ◌≤◌, ◌+◌, ℕ, zero, suc, Bool, true, false, not, List, [], ◌∷◌, ◌++◌, length, length-append, map, filter, take, drop, All, Option, None, Some, is_some, option_map, slice_get, slice_index_or, refl, sym, ap, ◌∙◌, subst, inl, inr, arith}
use Rattle.std.specs.List.{AllByRecursion, enumerate_from, filter_map, flat_map, zip, cons_option, range_with_len}
use Rattle.std.proofs.lemmas.List.{append_assoc, take_all, length-map, flat_map_more}
use Rattle.std.proofs.lemmas.Bool.{cases_Bool}
use Rattle.std.proofs.lemmas.List.Folds.{flat_map-map}
use Rattle.std.proofs.lemmas.List.FromFn.{length-range_with_len}
use Rattle.std.proofs.lemmas.List.Elements.{All-from_recursion, recursion_from_All}
use Rattle.mg_value.specs.Payload.{Plain}
use Rattle.mg_calc.specs.declared.node_fault.NodeFault.{NodeFault}
use Rattle.mg_calc.specs.declared.plan.Plan.{Plan}
use Rattle.mg_calc.specs.declared.plan_node.PlanNode.{PlanNode}
use Rattle.mg_calc.specs.Plan.{IsValidWithFree, numbers}
use Rattle.mg_free.specs.declared.law.FreeLaw.{FreeLaw}
use Rattle.mg_free.specs.declared.node.FreeNode.{FreeNode}
use Rattle.mg_free.specs.Core.{free_law_of, is_free, is_core, core_node, core_numbers, core_of, core_streams, free_node, free_nodes, stream_number}
use Rattle.mg_free.specs.Free.{Arrival}
use Rattle.mg_free.specs.Rounds.{Taken}
use Rattle.mg_free.proofs.Placing.{found, filter_in, filter_out}
use Rattle.mg_free.proofs.CoreStreams.{stream_among, streams_long}
use Rattle.mg_free.proofs.Walking.{core_long, core_below}
use Rattle.mg_live.specs.declared.arrived.Arrived.{Arrived}
use Rattle.mg_live.specs.declared.taker.Taker.{Taker}
use Rattle.mg_live.specs.Takes.{HaveTaken, told}
use Rattle.mg_sched.proofs.GivenBack.{drop_here}
use Rattle.mg_answer.specs.Notes.{arrival_note}
use Rattle.mg_drive.specs.Live.{first_of, renumbered_fault, sets_by, lines_at, arrivals_text}

-- The lines of arrivals --

pub lines_put : (text after : List ℕ) (node i : ℕ) (log : List Arrived) (free : FreeNode) (taken : Taken) → after ≡ text ++ flat_map (λ a. arrival_note node a.port a.at) (take i log) → length log ≤ i → node ≡ free.node → log ≡ map told taken.log
    → after ≡ text ++ lines_at (free, taken)
lines_put text after node i log free taken is all same logs =
    is
    ∙ ap (λ (l : List ℕ). text ++ l) (ap (λ (l : List Arrived). flat_map (λ a. arrival_note node a.port a.at) l) (take_all i log all ∙ logs)
    ∙ flat_map-map (λ (a : Arrived). arrival_note node a.port a.at) told taken.log
    ∙ ap (λ (n : ℕ). flat_map (λ (a : Arrival Plain). arrival_note n a.port a.packet.at) taken.log) same)

-- the free node at a place, and what it has taken
record Placed (frees : List FreeNode) (takens : List Taken) (place : ℕ) : Type 0 where
  node : FreeNode
  took : Taken
  node_is : slice_get frees place ≡ Some node
  took_is : slice_get takens place ≡ Some took
  more : take (place + 1) (zip frees takens) ≡ take place (zip frees takens) ++ (node, took) ∷ []

placed : (frees : List FreeNode) (takens : List Taken) (place : ℕ) → length takens ≡ length frees → place < length frees → Placed frees takens place
placed [] takens place long below = absurd (omega (arith, below))
placed (f ∷ frees) [] place long below = absurd (omega (arith, long))
placed (f ∷ frees) (t ∷ takens) zero long below = record { node = f; took = t; node_is = refl; took_is = refl; more = refl }
placed (f ∷ frees) (t ∷ takens) (suc place) long below =
    let rest = placed frees takens place (omega (arith, long)) (omega (arith, below)) in
    record { node = rest.node; took = rest.took; node_is = rest.node_is; took_is = rest.took_is; more = ap (λ (n : ℕ). take n ((f, t) ∷ zip frees takens)) (let e : suc place + 1 ≡ suc (place + 1) = omega arith in e) ∙ ap (λ (l : List (FreeNode × Taken)). (f, t) ∷ l) rest.more }

pub lines_more : (frees : List FreeNode) (takens : List Taken) (takers : List Taker) (place : ℕ) (now after : List ℕ) → HaveTaken frees takens takers → place < length frees → now ≡ flat_map lines_at (take place (zip frees takens))
    → ((free : FreeNode) (taken : Taken) → slice_get frees place ≡ Some free → slice_get takens place ≡ Some taken → after ≡ now ++ lines_at (free, taken)) → after ≡ flat_map lines_at (take (place + 1) (zip frees takens))
lines_more frees takens takers place now after have below so_far put =
    let at = placed frees takens place have.takens_long below in
    put at.node at.took at.node_is at.took_is
    ∙ ap (λ (l : List ℕ). l ++ lines_at (at.node, at.took)) so_far
    ∙ flat_map_more lines_at [] (take place (zip frees takens)) (at.node, at.took)
    ∙ ap (flat_map lines_at) (sym at.more)

all_zipped : (frees : List FreeNode) (takens : List Taken) (place : ℕ) → length frees ≤ place → take place (zip frees takens) ≡ zip frees takens
all_zipped [] takens zero long = refl
all_zipped [] takens (suc place) long = refl
all_zipped (f ∷ frees) [] zero long = refl
all_zipped (f ∷ frees) [] (suc place) long = refl
all_zipped (f ∷ frees) (t ∷ takens) zero long = absurd (omega (arith, long))
all_zipped (f ∷ frees) (t ∷ takens) (suc place) long = ap (λ (l : List (FreeNode × Taken)). (f, t) ∷ l) (all_zipped frees takens place (omega (arith, long)))

pub lines_all : (frees : List FreeNode) (takens : List Taken) (place : ℕ) (now : List ℕ) → length frees ≤ place → now ≡ flat_map lines_at (take place (zip frees takens)) → now ≡ arrivals_text frees takens
lines_all frees takens place now long is = is ∙ ap (flat_map lines_at) (all_zipped frees takens place long)

-- The sets of the nodes --

abbrev pub logs_long : List Taken → List ℕ
logs_long takens = map (λ t. length t.log) takens

sets_free : (nodes rest : List PlanNode) (node : PlanNode) (sets arrivals later : List ℕ) (n : ℕ) → nodes ≡ node ∷ rest → is_free node ≡ true → arrivals ≡ n ∷ later → sets_by nodes sets arrivals ≡ n ∷ sets_by rest sets later
sets_free nodes rest node sets arrivals later n here is there =
    ap (λ (ns : List PlanNode). sets_by ns sets arrivals) here
    ∙ ap (λ (a : List ℕ). sets_by (node ∷ rest) sets a) there
    ∙ ap (λ (b : Bool). elim b as (λ _. List ℕ) [ true ↦ n ∷ sets_by rest sets later | false ↦ first_of sets ∷ sets_by rest (drop 1 sets) (n ∷ later) ]) is

sets_core : (nodes rest : List PlanNode) (node : PlanNode) (sets later arrivals : List ℕ) (n : ℕ) → nodes ≡ node ∷ rest → is_free node ≡ false → sets ≡ n ∷ later → sets_by nodes sets arrivals ≡ n ∷ sets_by rest later arrivals
sets_core nodes rest node sets later arrivals n here is there =
    ap (λ (ns : List PlanNode). sets_by ns sets arrivals) here
    ∙ ap (λ (s : List ℕ). sets_by (node ∷ rest) s arrivals) there
    ∙ ap (λ (b : Bool). elim b as (λ _. List ℕ) [ true ↦ first_of arrivals ∷ sets_by rest (n ∷ later) (drop 1 arrivals) | false ↦ n ∷ sets_by rest later arrivals ]) is

pub free_step : (now whole : List ℕ) (nodes : List PlanNode) (i core free : ℕ) (node : PlanNode) (sets arrivals : List ℕ) (n : ℕ) → slice_get nodes i ≡ Some node → is_free node ≡ true → slice_get arrivals free ≡ Some n
    → now ++ sets_by (drop i nodes) (drop core sets) (drop free arrivals) ≡ whole → (now ++ n ∷ []) ++ sets_by (drop (i + 1) nodes) (drop core sets) (drop (free + 1) arrivals) ≡ whole
free_step now whole nodes i core free node sets arrivals n at is there same =
    append_assoc now (n ∷ []) (sets_by (drop (i + 1) nodes) (drop core sets) (drop (free + 1) arrivals))
    ∙ ap (λ (l : List ℕ). now ++ l) (sym (sets_free (drop i nodes) (drop (i + 1) nodes) node (drop core sets) (drop free arrivals) (drop (free + 1) arrivals) n (drop_here nodes i node at) is (drop_here arrivals free n there)))
    ∙ same

pub core_step : (now whole : List ℕ) (nodes : List PlanNode) (i core free : ℕ) (node : PlanNode) (sets arrivals : List ℕ) (n : ℕ) → slice_get nodes i ≡ Some node → is_free node ≡ false → slice_get sets core ≡ Some n
    → now ++ sets_by (drop i nodes) (drop core sets) (drop free arrivals) ≡ whole → (now ++ n ∷ []) ++ sets_by (drop (i + 1) nodes) (drop (core + 1) sets) (drop free arrivals) ≡ whole
core_step now whole nodes i core free node sets arrivals n at is there same =
    append_assoc now (n ∷ []) (sets_by (drop (i + 1) nodes) (drop (core + 1) sets) (drop free arrivals))
    ∙ ap (λ (l : List ℕ). now ++ l) (sym (sets_core (drop i nodes) (drop (i + 1) nodes) node (drop core sets) (drop (core + 1) sets) (drop free arrivals) n (drop_here nodes i node at) is (drop_here sets core n there)))
    ∙ same

abbrev LeftBy : List PlanNode → ℕ → ℕ → ℕ → List ℕ → List ℕ → List ℕ → List ℕ
LeftBy nodes i core free sets arrivals now = now ++ sets_by (drop i nodes) (drop core sets) (drop free arrivals)

arrivals_at : (takens : List Taken) (free n : ℕ) → free < length takens → ((taken : Taken) → slice_get takens free ≡ Some taken → n ≡ length taken.log) → slice_get (logs_long takens) free ≡ Some n
arrivals_at [] free n below same = absurd (omega (arith, below))
arrivals_at (t ∷ takens) zero n below same = ap Some (sym (same t refl))
arrivals_at (t ∷ takens) (suc free) n below same = arrivals_at takens free n (omega (arith, below)) same

pub free_kept : (now after whole : List ℕ) (nodes : List PlanNode) (i core free core_now free_now : ℕ) (node : PlanNode) (sets : List ℕ) (takens : List Taken) (n : ℕ) → slice_get nodes i ≡ Some node → is_free node ≡ true → free < length takens
    → ((taken : Taken) → slice_get takens free ≡ Some taken → n ≡ length taken.log) → after ≡ now ++ n ∷ [] → core_now ≡ core → free_now ≡ free + 1
    → now ++ sets_by (drop i nodes) (drop core sets) (drop free (logs_long takens)) ≡ whole → after ++ sets_by (drop (i + 1) nodes) (drop core_now sets) (drop free_now (logs_long takens)) ≡ whole
free_kept now after whole nodes i core free core_now free_now node sets takens n at is below long after_is core_is free_is same =
    ap (LeftBy nodes (i + 1) core_now free_now sets (logs_long takens)) after_is
    ∙ ap (λ (k : ℕ). LeftBy nodes (i + 1) k free_now sets (logs_long takens) (now ++ n ∷ [])) core_is
    ∙ ap (λ (k : ℕ). LeftBy nodes (i + 1) core k sets (logs_long takens) (now ++ n ∷ [])) free_is
    ∙ free_step now whole nodes i core free node sets (logs_long takens) n at is (arrivals_at takens free n below long) same

pub core_kept : (now after whole : List ℕ) (nodes : List PlanNode) (i core free core_now free_now : ℕ) (node : PlanNode) (sets : List ℕ) (takens : List Taken) (n : ℕ) → slice_get nodes i ≡ Some node → is_free node ≡ false → slice_get sets core ≡ Some n
    → after ≡ now ++ n ∷ [] → core_now ≡ core + 1 → free_now ≡ free
    → now ++ sets_by (drop i nodes) (drop core sets) (drop free (logs_long takens)) ≡ whole → after ++ sets_by (drop (i + 1) nodes) (drop core_now sets) (drop free_now (logs_long takens)) ≡ whole
core_kept now after whole nodes i core free core_now free_now node sets takens n at is there after_is core_is free_is same =
    ap (LeftBy nodes (i + 1) core_now free_now sets (logs_long takens)) after_is
    ∙ ap (λ (k : ℕ). LeftBy nodes (i + 1) k free_now sets (logs_long takens) (now ++ n ∷ [])) core_is
    ∙ ap (λ (k : ℕ). LeftBy nodes (i + 1) (core + 1) k sets (logs_long takens) (now ++ n ∷ [])) free_is
    ∙ core_step now whole nodes i core free node sets (logs_long takens) n at is there same

-- of the nodes that are left, one fewer is free
pub fewer_free : (nodes : List PlanNode) (i : ℕ) (node : PlanNode) → slice_get nodes i ≡ Some node → is_free node ≡ true → length (filter is_free (drop i nodes)) ≡ suc (length (filter is_free (drop (i + 1) nodes)))
fewer_free nodes i node at is =
    ap (λ (l : List PlanNode). length (filter is_free l)) (drop_here nodes i node at) ∙ ap (λ (l : List PlanNode). length l) (filter_in is_free node (drop (i + 1) nodes) is)

pub same_free : (nodes : List PlanNode) (i : ℕ) (node : PlanNode) → slice_get nodes i ≡ Some node → is_free node ≡ false → length (filter is_free (drop i nodes)) ≡ length (filter is_free (drop (i + 1) nodes))
same_free nodes i node at is =
    ap (λ (l : List PlanNode). length (filter is_free l)) (drop_here nodes i node at) ∙ ap (λ (l : List PlanNode). length l) (filter_out is_free node (drop (i + 1) nodes) is)

pub fewer_core : (nodes : List PlanNode) (i : ℕ) (node : PlanNode) → slice_get nodes i ≡ Some node → is_core node ≡ true → length (filter is_core (drop i nodes)) ≡ suc (length (filter is_core (drop (i + 1) nodes)))
fewer_core nodes i node at is =
    ap (λ (l : List PlanNode). length (filter is_core l)) (drop_here nodes i node at) ∙ ap (λ (l : List PlanNode). length l) (filter_in is_core node (drop (i + 1) nodes) is)

pub same_core : (nodes : List PlanNode) (i : ℕ) (node : PlanNode) → slice_get nodes i ≡ Some node → is_core node ≡ false → length (filter is_core (drop i nodes)) ≡ length (filter is_core (drop (i + 1) nodes))
same_core nodes i node at is =
    ap (λ (l : List PlanNode). length (filter is_core l)) (drop_here nodes i node at) ∙ ap (λ (l : List PlanNode). length l) (filter_out is_core node (drop (i + 1) nodes) is)

-- As many as there are --

free_by : (plan : Plan) (n : ℕ) (node : PlanNode) (o : Option FreeLaw) → free_law_of node.law ≡ o → free_node plan (n, node)
    ≡ option_map (λ rule. record { node = n; law = rule; inputs = map (stream_number plan) node.inputs; output = slice_index_or (map (stream_number plan) node.outputs) 0 0 }) o
free_by plan n node o e = ap (λ (p : Option FreeLaw). option_map (λ rule. record { node = n; law = rule; inputs = map (stream_number plan) node.inputs; output = slice_index_or (map (stream_number plan) node.outputs) 0 0 }) p) e

as_many : (plan : Plan) (n : ℕ) (nodes : List PlanNode) → length (filter_map (free_node plan) (enumerate_from n nodes)) ≡ length (filter is_free nodes)
as_many plan n [] = refl
as_many plan n (node ∷ nodes) = by (free_law_of node.law) refl (as_many plan (n + 1) nodes)
  where
    by : (o : Option FreeLaw) → free_law_of node.law ≡ o → length (filter_map (free_node plan) (enumerate_from (n + 1) nodes)) ≡ length (filter is_free nodes)
        → length (filter_map (free_node plan) (enumerate_from n (node ∷ nodes))) ≡ length (filter is_free (node ∷ nodes))
    by None e rest =
        ap (λ (o : Option FreeNode). length (cons_option o (filter_map (free_node plan) (enumerate_from (n + 1) nodes)))) (free_by plan n node None e)
        ∙ rest
        ∙ sym (ap (λ (l : List PlanNode). length l) (filter_out is_free node nodes (ap is_some e)))
    by (Some rule) e rest =
        ap (λ (o : Option FreeNode). length (cons_option o (filter_map (free_node plan) (enumerate_from (n + 1) nodes)))) (free_by plan n node (Some rule) e)
        ∙ ap suc rest
        ∙ sym (ap (λ (l : List PlanNode). length l) (filter_in is_free node nodes (ap is_some e)))

pub frees_long : (plan : Plan) → length (free_nodes plan) ≡ length (filter is_free plan.nodes)
frees_long plan = as_many plan 0 plan.nodes

-- the core has as many nodes as numbers
pub core_nodes_long : (plan : Plan) → length (core_of plan).nodes ≡ length (filter is_core plan.nodes)
core_nodes_long plan = length-map (filter is_core plan.nodes) (core_node plan)

pub numbers_long : (plan : Plan) → length (core_numbers plan) ≡ length (core_of plan).nodes
numbers_long plan = core_long 0 plan.nodes ∙ sym (core_nodes_long plan)

-- The streams are in the core --

in_core : (plan : Plan) (n k : ℕ) → IsValidWithFree plan → n + k ≤ length plan.streams → AllByRecursion (λ s. s < length (core_of plan).streams) (map (stream_number plan) (range_with_len n k))
in_core plan n zero valid within = tt
in_core plan n (suc k) valid within =
    let f = found n (core_streams plan) (stream_among plan n valid.streams (omega (arith, within))) in
    let long = streams_long plan valid.streams valid.producers in
    (omega (arith, f, long), in_core plan (n + 1) k valid (omega (arith, within)))

pub all_in_core : (plan : Plan) → IsValidWithFree plan → All (λ s. s < length (core_of plan).streams) (map (stream_number plan) (numbers (length plan.streams)))
all_in_core plan valid =
    All-from_recursion (λ s. s < length (core_of plan).streams) (map (stream_number plan) (numbers (length plan.streams))) (in_core plan 0 (length plan.streams) valid (omega arith))

parts_long : (nodes : List PlanNode) → length (flat_map (λ node. node.outputs) (filter is_free nodes)) + length (flat_map (λ node. node.outputs) (filter is_core nodes)) ≡ length (flat_map (λ node. node.outputs) nodes)
parts_long [] = refl
parts_long (node ∷ nodes) =
    let rest = parts_long nodes in
    let all = length-append node.outputs (flat_map (λ node. node.outputs) nodes) in
    elim (cases_Bool (is_free node)) [
      | inl is ↦ (
          let one = ap (λ (l : List PlanNode). length (flat_map (λ node. node.outputs) l)) (filter_in is_free node nodes is) ∙ length-append node.outputs (flat_map (λ node. node.outputs) (filter is_free nodes)) in
          let two = ap (λ (l : List PlanNode). length (flat_map (λ node. node.outputs) l)) (filter_out is_core node nodes (ap not is)) in
          omega (arith, one, two, rest, all))
      | inr isnt ↦ (
          let one = ap (λ (l : List PlanNode). length (flat_map (λ node. node.outputs) l)) (filter_out is_free node nodes isnt) in
          let two = ap (λ (l : List PlanNode). length (flat_map (λ node. node.outputs) l)) (filter_in is_core node nodes (ap not isnt)) ∙ length-append node.outputs (flat_map (λ node. node.outputs) (filter is_core nodes)) in
          omega (arith, one, two, rest, all))
    ]

-- the core has as many streams as the plan
pub streams_as_many : (plan : Plan) → IsValidWithFree plan → length (core_of plan).streams ≡ length plan.streams
streams_as_many plan valid =
    let long = streams_long plan valid.streams valid.producers in
    let written = ap length valid.streams ∙ length-range_with_len 0 (length plan.streams) in
    let entering = length-append plan.inputs (flat_map (λ node. node.outputs) (filter is_free plan.nodes)) in
    let both = length-append (plan.inputs ++ flat_map (λ node. node.outputs) (filter is_free plan.nodes)) (flat_map (λ node. node.outputs) (filter is_core plan.nodes)) in
    let all = length-append plan.inputs (flat_map (λ node. node.outputs) plan.nodes) in
    let parts = parts_long plan.nodes in
    omega (arith, long, written, entering, both, all, parts)

-- Faults by the plan's numbers --

faults_from : (plan : Plan) (faults : List NodeFault) → AllByRecursion (λ fault. fault.node < length (core_numbers plan)) faults → AllByRecursion (λ fault. fault.node < length plan.nodes) (map (renumbered_fault (core_numbers plan)) faults)
faults_from plan [] all = tt
faults_from plan (fault ∷ faults) all = (core_below plan fault.node 0 all.0, faults_from plan faults all.1)

pub faults_below : (plan : Plan) (faults now : List NodeFault) → All (λ fault. fault.node < length (core_of plan).nodes) faults → now ≡ map (renumbered_fault (core_numbers plan)) faults → All (λ fault. fault.node < length plan.nodes) now
faults_below plan faults now all is =
    subst (λ (fs : List NodeFault). All (λ fault. fault.node < length plan.nodes) fs) (sym is)
    (All-from_recursion (λ (fault : NodeFault). fault.node < length plan.nodes) (map (renumbered_fault (core_numbers plan)) faults)
    (faults_from plan faults (recursion_from_All (λ (fault : NodeFault). fault.node < length (core_numbers plan)) faults (subst (λ (n : ℕ). All (λ (fault : NodeFault). fault.node < n) faults) (sym (numbers_long plan)) all))))
