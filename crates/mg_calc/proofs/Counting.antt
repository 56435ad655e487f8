-- What is told of a run, by the solution.
use Rattle.std.proofs.Common.{◌≡◌, ℕ, zero, suc, ℤ, ◌+◌, ◌<◌, ◌≤◌, ◌==◌, ◌↔◌, Bool, true, false, not, length, length-append, List, [], ◌∷◌, map, take, filter, sum_by, All, Option, Some, None, Result, Ok, Err, option_map, refl, ap, subst, arith, inl, inr, if◌then◌else◌}
use Rattle.std.specs.List.{AllByRecursion, fold, filter_map, enumerate_from, cons_option}
use Rattle.std.proofs.lemmas.List.Sums.{sum_by-cons}
use Rattle.std.proofs.lemmas.Bool.Decides.{eqb_tells}
use Rattle.std.proofs.lemmas.List.{length-take, take-map}
use Rattle.std.specs.List.Sorted.{IsStrictlyIncreasing}
use Rattle.std.proofs.lemmas.List.Elements.{All-from_recursion, recursion_from_All}
use Rattle.mg_time.specs.Time.{done}
use Rattle.mg_value.specs.Payload.{Plain}
use Rattle.mg_value.specs.declared.policy.Policy.{Policy}
use Rattle.mg_settled.specs.Prefix.{StreamPrefix, IsPrefix}
use Rattle.mg_settled.specs.Left.{set_times}
use Rattle.mg_settled.proofs.Lemmas.{Rises}
use Rattle.mg_settled.proofs.Lemmas.{Rises-increasing}
use Rattle.mg_settled.proofs.Lemmas.{times-rise, below-bounds}
use Rattle.mg_settled.specs.Settled.{TimedSet, settled_sets, reach, IsBelowBounds}
use Rattle.mg_calc.specs.declared.cause.Cause.{Cause}
use Rattle.mg_calc.specs.declared.call.Call.TheVariants.{Begun, Shown}
use Rattle.mg_calc.specs.declared.law.Law.{Law}
use Rattle.mg_calc.specs.declared.law.Law.TheVariants.{Count, SideOnce, Constants, Loopback}
use Rattle.mg_calc.specs.declared.node_fault.Phase.{Phase}
use Rattle.mg_calc.specs.declared.node_fault.Phase.TheVariants.{Open, Process, Close}
use Rattle.mg_calc.specs.declared.node_fault.NodeFault.{NodeFault}
use Rattle.mg_calc.specs.declared.plan_node.PlanNode.{PlanNode}
use Rattle.mg_calc.specs.Answer.{Answer}
use Rattle.mg_calc.specs.Law.{opening, step, finish}
use Rattle.mg_calc.specs.Laying.{laid_behind, all_raised}
use Rattle.mg_calc.specs.Outcome.{Failure, Outcome, after_laying, after_call, opened, unopened, unless_failed, shown, shown_all, after_close, closed_with, finished, with_reach, ended, node_outcome}
use Rattle.mg_calc.specs.Shape.{IsOuter}
use Rattle.mg_calc.specs.Equations.{Job, rules_at, inputs_of, sides_of, outcome_by, outcome_of}
use Rattle.mg_calc.proofs.Rounds.{streams_are_prefixes}
use Rattle.mg_calc.specs.Meaning.{fault_of, faults, stalled, count_of, shown_sets, last_call, log_of, weight}
use Rattle.mg_calc.specs.Rules.{Rules}

-- a call that answers changes no count
laying_counts : (phase : Phase) (outcome : Outcome) (answer : Result (List (StreamPrefix Plain)) Cause) → (after_laying phase outcome answer).taken ≡ outcome.taken
laying_counts phase outcome (Ok outputs) = refl
laying_counts phase outcome (Err cause) = refl

pub call_counts : (offset : Option ℤ) (phase : Phase) (outcome : Outcome) (answer : Answer) → (after_call offset phase outcome answer).taken ≡ outcome.taken
call_counts offset phase outcome (Err cause) = refl
call_counts offset phase outcome (Ok given) = laying_counts phase (record outcome { state = given.0 }) (laid_behind offset phase outcome.outputs given.1)

-- each set counts one at most
unless_counts : (fault : Option Failure) (outcome next : Outcome) → next.taken ≡ outcome.taken + 1 → (unless_failed fault outcome next).taken ≤ outcome.taken + 1
unless_counts (Some failure) outcome next e = omega arith
unless_counts None outcome next e = omega (arith, e)

sets_count : (rules : Rules) (offset : Option ℤ) (outcome : Outcome) (sets : List (TimedSet Plain)) → (fold (shown rules offset) outcome sets).taken ≤ outcome.taken + length sets
sets_count rules offset outcome [] = omega arith
sets_count rules offset outcome (set ∷ sets) =
    let later = sets_count rules offset (shown rules offset outcome set) sets in
    let next : Outcome = after_call offset (Process set.at) (record outcome { outputs = all_raised offset set.at outcome.outputs; taken = outcome.taken + 1 }) (rules.step outcome.state set.at set.set) in
    let here = unless_counts outcome.fault outcome next (call_counts offset (Process set.at) (record outcome { outputs = all_raised offset set.at outcome.outputs; taken = outcome.taken + 1 }) (rules.step outcome.state set.at set.set)) in
    omega (arith, later, here)

close_counts : (outcome : Outcome) (answer : Result (List (StreamPrefix Plain)) Cause) → (after_close outcome answer).taken ≡ outcome.taken
close_counts outcome (Ok outputs) = refl
close_counts outcome (Err cause) = refl

closing_counts : (offset : Option ℤ) (outcome : Outcome) (answer : Answer) → (closed_with offset outcome answer).taken ≡ outcome.taken
closing_counts offset outcome (Err cause) = refl
closing_counts offset outcome (Ok given) = close_counts (record outcome { state = given.0 }) (laid_behind offset Close outcome.outputs given.1)

if_counts : (test : Bool) (a b : Outcome) (n : ℕ) → a.taken ≡ n → b.taken ≡ n → (if test then a else b).taken ≡ n
if_counts true a b n e f = e
if_counts false a b n e f = f

pub end_counts_by : (fault : Option Failure) (outcome next : Outcome) → next.taken ≡ outcome.taken → (unless_failed fault outcome next).taken ≡ outcome.taken
end_counts_by (Some failure) outcome next e = refl
end_counts_by None outcome next e = e

pub end_counts : (rules : Rules) (offset : Option ℤ) (reached : ℕ) (outcome : Outcome) → (ended rules offset reached outcome).taken ≡ outcome.taken
end_counts rules offset reached outcome =
    let before : Outcome = record outcome { outputs = all_raised offset reached outcome.outputs } in
    end_counts_by outcome.fault outcome (with_reach rules offset reached outcome)
    (if_counts (reached == done) (finished rules offset before) before outcome.taken (closing_counts offset before (rules.finish outcome.state)) refl)

node_counts : (rules : Rules) (offset : Option ℤ) (policy : Policy) (outputs : ℕ) (sides : List (Option Plain)) (inputs : List (StreamPrefix Plain)) → (node_outcome rules offset policy outputs sides inputs).taken ≤ length (settled_sets policy inputs)
node_counts rules offset policy outputs sides inputs =
    let all = end_counts rules offset (reach policy inputs) (shown_all rules offset outputs sides (settled_sets policy inputs)) in
    let sets = sets_count rules offset (opened rules offset outputs sides) (settled_sets policy inputs) in
    let none = call_counts offset Open (unopened outputs) (rules.opening sides) in
    omega (arith, all, sets, none)

-- as many sets are shown as are counted
count_by_law : (law : Law) (job : Job) (streams : List (StreamPrefix Plain)) (node : PlanNode) → IsOuter law → (outcome_by law job streams node).taken ≤ length (settled_sets node.policy (inputs_of streams node))
count_by_law (Count count start step) job streams node is = absurd is
count_by_law (SideOnce at) job streams node is = absurd is
count_by_law Constants job streams node is = absurd is
count_by_law Loopback job streams node is = absurd is
count_by_law law job streams node is = node_counts (rules_at job node) node.shape.offset node.policy (length node.outputs) (sides_of job node) (inputs_of streams node)

pub shown_as_counted : (job : Job) (streams : List (StreamPrefix Plain)) (node : PlanNode) → IsOuter node.law → length (shown_sets job streams node) ≡ count_of job streams node
shown_as_counted job streams node is =
    let most = count_by_law node.law job streams node is in
    let sets = settled_sets node.policy (inputs_of streams node) in
    omega (arith, most, length-take (count_of job streams node) sets)

-- the first of some things have what all have
pub all_of_first : {X : Type 0} (P : X → Type 0) (n : ℕ) (xs : List X) → AllByRecursion P xs → AllByRecursion P (take n xs)
all_of_first P zero xs a = tt
all_of_first P (suc n) [] a = tt
all_of_first P (suc n) (x ∷ xs) a = (a.0, all_of_first P n xs a.1)

-- no stream is stalled if each has ended
none_stalled_from : (k : ℕ) (streams : List (StreamPrefix Plain)) → AllByRecursion (λ s. s.bound ≡ done) streams → map (λ entry. entry.0) (filter (λ entry. not (entry.1.bound == done)) (enumerate_from k streams)) ≡ []
none_stalled_from k [] a = refl
none_stalled_from k (s ∷ streams) a = elim (eqb_tells s.bound done) [
  | inl (test, e) ↦ rw test (none_stalled_from (k + 1) streams a.1)
  | inr (test, other) ↦ absurd (other a.0)
]

all_ended_from : (k : ℕ) (streams : List (StreamPrefix Plain)) → map (λ entry. entry.0) (filter (λ entry. not (entry.1.bound == done)) (enumerate_from k streams)) ≡ [] → AllByRecursion (λ s. s.bound ≡ done) streams
all_ended_from k [] e = tt
all_ended_from k (s ∷ streams) e = elim (eqb_tells s.bound done) [
  | inl (test, same) ↦ (same, all_ended_from (k + 1) streams (rw test at e))
  | inr (test, other) ↦ absurd (let h = rw test at e in cc)
]

pub none_stalled : (streams : List (StreamPrefix Plain)) → (stalled streams ≡ []) ↔ All (λ s. s.bound ≡ done) streams
none_stalled streams = (
  (λ e. All-from_recursion (λ (s : StreamPrefix Plain). s.bound ≡ done) streams (all_ended_from 0 streams e)),
  (λ a. none_stalled_from 0 streams (recursion_from_All (λ (s : StreamPrefix Plain). s.bound ≡ done) streams a)),
)

-- no fault is told exactly if no node failed
cons_nothing : {X : Type 0} (o : Option X) (xs : List X) → cons_option o xs ≡ [] → (o ≡ None) × (xs ≡ [])
cons_nothing None xs e = (refl, e)
cons_nothing (Some x) xs e = absurd cc

map_nothing : {X Y : Type 0} (f : X → Y) (o : Option X) → option_map f o ≡ None → o ≡ None
map_nothing f None e = refl
map_nothing f (Some x) e = absurd cc

no_faults_from : (job : Job) (streams : List (StreamPrefix Plain)) (k : ℕ) (nodes : List PlanNode) → AllByRecursion (λ node. (outcome_of job streams node).fault ≡ None) nodes → filter_map (fault_of job streams) (enumerate_from k nodes) ≡ []
no_faults_from job streams k [] a = refl
no_faults_from job streams k (node ∷ nodes) a = rw a.0 (no_faults_from job streams (k + 1) nodes a.1)

none_failed_from : (job : Job) (streams : List (StreamPrefix Plain)) (k : ℕ) (nodes : List PlanNode) → filter_map (fault_of job streams) (enumerate_from k nodes) ≡ [] → AllByRecursion (λ node. (outcome_of job streams node).fault ≡ None) nodes
none_failed_from job streams k [] e = tt
none_failed_from job streams k (node ∷ nodes) e =
    let both = cons_nothing (fault_of job streams (k, node)) (filter_map (fault_of job streams) (enumerate_from (k + 1) nodes)) e in
    (map_nothing (λ failure. (let it : NodeFault = record { node = k; phase = failure.phase; cause = failure.cause } in it)) (outcome_of job streams node).fault both.0, none_failed_from job streams (k + 1) nodes both.1)

pub none_failed : (job : Job) (streams : List (StreamPrefix Plain)) → (faults job streams ≡ []) ↔ All (λ node. (outcome_of job streams node).fault ≡ None) job.plan.nodes
none_failed job streams = (
  (λ e. All-from_recursion (λ (node : PlanNode). (outcome_of job streams node).fault ≡ None) job.plan.nodes (none_failed_from job streams 0 job.plan.nodes e)),
  (λ a. no_faults_from job streams 0 job.plan.nodes (recursion_from_All (λ (node : PlanNode). (outcome_of job streams node).fault ≡ None) job.plan.nodes a)),
)

-- a count is below the weight
sum_most : (f : PlanNode → ℕ) (nodes : List PlanNode) → AllByRecursion (λ node. f node ≤ sum_by f nodes) nodes
sum_most f [] = tt
sum_most f (n ∷ nodes) =
    ((let here = sum_by-cons f n nodes in omega (arith, here)), all_higher nodes (sum_most f nodes))
  where
    all_higher : (others : List PlanNode) → AllByRecursion (λ node. f node ≤ sum_by f nodes) others → AllByRecursion (λ node. f node ≤ sum_by f (n ∷ nodes)) others
    all_higher [] a = tt
    all_higher (m ∷ others) a = ((let here = sum_by-cons f n nodes in let le = a.0 in omega (arith, here, le)), all_higher others a.1)

fewer : (f g : PlanNode → ℕ) (most : ℕ) (nodes : List PlanNode) → ((node : PlanNode) → g node < f node) → AllByRecursion (λ node. f node ≤ most) nodes → AllByRecursion (λ node. g node < most) nodes
fewer f g most [] less a = tt
fewer f g most (n ∷ nodes) less a = ((let l = less n in let le = a.0 in omega (arith, l, le)), fewer f g most nodes less a.1)

pub counts_below_weight : (job : Job) (streams : List (StreamPrefix Plain)) → All (λ node. count_of job streams node < weight job streams) job.plan.nodes
counts_below_weight job streams =
    All-from_recursion (λ (node : PlanNode). count_of job streams node < weight job streams) job.plan.nodes
    (fewer (λ node. count_of job streams node + node.in_flight + 1) (count_of job streams) (weight job streams) job.plan.nodes (λ node. omega arith)
    (sum_most (λ node. count_of job streams node + node.in_flight + 1) job.plan.nodes))

-- the times of the sets that are shown ascend
rises_first : (low n : ℕ) (ts : List ℕ) → Rises low ts → Rises low (take n ts)
rises_first low zero ts r = tt
rises_first low (suc n) [] r = tt
rises_first low (suc n) (t ∷ ts) r = (r.0, rises_first (t + 1) n ts r.1)

pub shown_ascend : (job : Job) (streams : List (StreamPrefix Plain)) (node : PlanNode) → AllByRecursion IsPrefix streams → IsStrictlyIncreasing (map (λ e. e.at) (shown_sets job streams node))
shown_ascend job streams node k =
    let inputs = inputs_of streams node in
    let times = times-rise node.policy inputs (All-from_recursion IsPrefix inputs (streams_are_prefixes streams node.inputs k)) in
    subst IsStrictlyIncreasing ((take-map (λ e. e.at) (count_of job streams node) (settled_sets node.policy inputs)))
    (Rises-increasing 0 (take (count_of job streams node) (set_times node.policy inputs)) (rises_first 0 (count_of job streams node) (set_times node.policy inputs) times))

pub shown_below : (job : Job) (streams : List (StreamPrefix Plain)) (node : PlanNode) → AllByRecursion IsPrefix streams → All (λ e. IsBelowBounds node.policy (inputs_of streams node) e.at) (shown_sets job streams node)
shown_below job streams node k =
    let inputs = inputs_of streams node in
    let P : TimedSet Plain → Type 0 = λ e. IsBelowBounds node.policy inputs e.at in
    All-from_recursion P (shown_sets job streams node)
    (all_of_first P (count_of job streams node) (settled_sets node.policy inputs)
    (recursion_from_All P (settled_sets node.policy inputs) (below-bounds node.policy inputs (All-from_recursion IsPrefix inputs (streams_are_prefixes streams node.inputs k)))))

-- a log tells Open, then each shown set, and then Close, if Open succeeded
pub log_long : (job : Job) (streams : List (StreamPrefix Plain)) (node : PlanNode) → length (log_of job streams node) ≡ length (shown_sets job streams node) + 1 + length (last_call (outcome_of job streams node).fault)
log_long job streams node =
    let all = length-append (Begun ∷ map (λ e. Shown e.at e.set) (shown_sets job streams node)) (last_call (outcome_of job streams node).fault) in
    let shown = length_map_by (shown_sets job streams node) in
    omega (arith, all, shown)
  where
    length_map_by : (sets : List (TimedSet Plain)) → length (map (λ e. Shown e.at e.set) sets) ≡ length sets
    length_map_by [] = refl
    length_map_by (e ∷ sets) = ap suc (length_map_by sets)

pub counts_long : (job : Job) (streams : List (StreamPrefix Plain)) (nodes : List PlanNode) → length (map (count_of job streams) nodes) ≡ length nodes
counts_long job streams [] = refl
counts_long job streams (node ∷ nodes) = ap suc (counts_long job streams nodes)
