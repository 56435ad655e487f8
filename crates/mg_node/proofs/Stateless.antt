-- A node that keeps no state has none at any stage.
use Rattle.std.proofs.Common.{◌≡◌, ℕ, ℤ, ◌+◌, ◌<◌, Bool, true, false, List, [], ◌∷◌, length, take, Option, Some, None, IsSome, Result, Ok, Err, IfOk, slice_get, refl, ap, sym, subst, ◌∙◌, arith, rules}
use Rattle.std.specs.List.{AllByRecursion, fold}
use Rattle.std.proofs.lemmas.List.{length-map}
use Rattle.std.proofs.lemmas.List.Elements.{recursion_from_All}
use Rattle.mg_value.specs.Payload.{Plain}
use Rattle.mg_settled.specs.Prefix.{StreamPrefix}
use Rattle.mg_settled.specs.Settled.{TimedSet, settled_sets}
use Rattle.mg_settled.proofs.Lemmas.{sets-places}
use Rattle.mg_calc.specs.Rules.{Laws}
use Rattle.mg_calc.specs.declared.cause.Cause.{Cause}
use Rattle.mg_calc.specs.declared.emission.Laid.{Laid}
use Rattle.mg_calc.specs.declared.law.Law.{Law}
use Rattle.mg_calc.specs.declared.law.Law.TheVariants.{Cloner, Thin, Compute, Count, SideOnce, Constants, Loopback, Tally, Scripted, BeginLoop, EndLoop, Stated}
use Rattle.mg_calc.specs.declared.node_fault.Phase.{Phase}
use Rattle.mg_calc.specs.declared.node_fault.Phase.TheVariants.{Open, Process}
use Rattle.mg_calc.specs.declared.plan_node.PlanNode.{PlanNode}
use Rattle.mg_calc.specs.declared.shape.Shape.{Shape}
use Rattle.mg_calc.specs.Answer.{Answer}
use Rattle.mg_calc.specs.Law.{opening, step, table_rules}
use Rattle.mg_calc.specs.Laying.{laid_behind, all_raised}
use Rattle.mg_calc.specs.Outcome.{Failure, Outcome, after_laying, after_call, unopened, opened, unless_failed, shown, shown_all}
use Rattle.mg_calc.specs.Plan.{HasNumbers, FlightFits}
use Rattle.mg_calc.specs.Shape.{IsShapeOf, FitsInputs, IsStated, is_stateless}
use Rattle.mg_calc.specs.StateForm.{IsStateOf}
use Rattle.mg_calc.specs.Computations.{row_of}
use Rattle.mg_calc.specs.Equations.{Job, IsJob, inputs_of, sides_of, stream_of, rules_at}
use Rattle.mg_calc.proofs.Counting.{all_of_first}
use Rattle.mg_calc.proofs.LawCases.{stepped}
use Rattle.mg_calc.proofs.StateForms.{row_empty, empty_row}
use Rattle.mg_calc.specs.Rules.{Rules}
use Rattle.mg_calc.proofs.TableRules.{by_table}
use Rattle.mg_node.specs.Job.{LoggedJob, Solves, sets_of, stage_by, stage, first_log}
use Rattle.mg_node.proofs.HeldRules.{of_node}

-- such a law's states are empty
form_empty : (law : Law) (state : List Plain) → is_stateless law ≡ true → IsStateOf law state → state ≡ []
form_empty (Cloner lanes) state is h = absurd cc
form_empty (Thin period) state is h = absurd cc
form_empty (Compute computation) state is h = row_empty (row_of computation.formula) state is h
form_empty (SideOnce at) state is h = absurd cc
form_empty Tally state is h = absurd cc
form_empty (Scripted offset first steps last) state is h = absurd cc
form_empty (BeginLoop clones always_end) state is h = absurd cc
form_empty (EndLoop empty_as_bound) state is h = absurd cc
form_empty law state is h = h

empty_form : (law : Law) (state : List Plain) → is_stateless law ≡ true → state ≡ [] → IsStateOf law state
empty_form (Cloner lanes) state is h = absurd cc
empty_form (Thin period) state is h = absurd cc
empty_form (Compute computation) state is h = empty_row (row_of computation.formula) state is h
empty_form (SideOnce at) state is h = absurd cc
empty_form Tally state is h = absurd cc
empty_form (Scripted offset first steps last) state is h = absurd cc
empty_form (BeginLoop clones always_end) state is h = absurd cc
empty_form (EndLoop empty_as_bound) state is h = absurd cc
empty_form law state is h = h

opens_empty : (law : Law) (sides : List (Option Plain)) (given : List Plain × List Laid) → is_stateless law ≡ true → opening law sides ≡ Ok given → given.0 ≡ []
opens_empty (SideOnce at) sides given is h = absurd cc
opens_empty (Scripted offset first steps last) sides given is h = absurd cc
opens_empty law sides given is h = cc

-- what a call leaves is the state before, or that of the answer
laid_state : (P : List Plain → Type 0) (phase : Phase) (outcome : Outcome) (answer : Result (List (StreamPrefix Plain)) Cause) → P outcome.state → P (after_laying phase outcome answer).state
laid_state P phase outcome (Ok outputs) h = h
laid_state P phase outcome (Err cause) h = h

call_state : (P : List Plain → Type 0) (offset : Option ℤ) (phase : Phase) (outcome : Outcome) (answer : Answer) → P outcome.state → ((given : List Plain × List Laid) → answer ≡ Ok given → P given.0) → P (after_call offset phase outcome answer).state
call_state P offset phase outcome (Err cause) h k = h
call_state P offset phase outcome (Ok given) h k = laid_state P phase (record outcome { state = given.0 }) (laid_behind offset phase outcome.outputs given.1) (k given refl)

unless_state : (P : List Plain → Type 0) (fault : Option Failure) (outcome next : Outcome) → P outcome.state → P next.state → P (unless_failed fault outcome next).state
unless_state P (Some failure) outcome next h k = h
unless_state P None outcome next h k = k

if_given : (P : List Plain → Type 0) (answer : Answer) (given : List Plain × List Laid) → IfOk answer (λ g. P g.0) → answer ≡ Ok given → P given.0
if_given P (Ok g) given h e = (let same : g ≡ given = cc in subst (λ (x : List Plain × List Laid). P x.0) same h)
if_given P (Err cause) given h e = absurd cc

module _ (law : Law) (shape : Shape) (is : is_stateless law ≡ true) (of_law : IsShapeOf law shape) where
  shown_empty : (offset : Option ℤ) (outcome : Outcome) (set : TimedSet Plain) → FitsInputs shape set.set → outcome.state ≡ [] → (shown (table_rules law) offset outcome set).state ≡ []
  shown_empty offset outcome set fits empty =
      let before : Outcome = record outcome { outputs = all_raised offset set.at outcome.outputs; taken = outcome.taken + 1 } in
      unless_state (λ (s : List Plain). s ≡ []) outcome.fault outcome (after_call offset (Process set.at) before (step law outcome.state set.at set.set)) empty
      (call_state (λ (s : List Plain). s ≡ []) offset (Process set.at) before (step law outcome.state set.at set.set) empty (λ given e.
      form_empty law given.0 is (if_given (IsStateOf law) (step law outcome.state set.at set.set) given (stepped law shape outcome.state set.at set.set of_law fits (empty_form law outcome.state is empty)) e)))

  all_empty : (offset : Option ℤ) (outcome : Outcome) (sets : List (TimedSet Plain)) → AllByRecursion (λ e. FitsInputs shape e.set) sets → outcome.state ≡ [] → (fold (shown (table_rules law) offset) outcome sets).state ≡ []
  all_empty offset outcome [] fits empty = empty
  all_empty offset outcome (set ∷ sets) fits empty = all_empty offset (shown (table_rules law) offset outcome set) sets fits.1 (shown_empty offset outcome set fits.0 empty)

stage_sets : (law : Law) (job : Job) (streams : List (StreamPrefix Plain)) (node : PlanNode) (n : ℕ) → is_stateless law ≡ true
    → stage_by law job streams node n ≡ shown_all (rules_at job node) node.shape.offset (length node.outputs) (sides_of job node) (take n (sets_of streams node))
stage_sets (Count count start apart) job streams node n is = absurd cc
stage_sets (SideOnce at) job streams node n is = absurd cc
stage_sets Constants job streams node n is = absurd cc
stage_sets Loopback job streams node n is = absurd cc
stage_sets law job streams node n is = refl

-- a law that keeps no state isn't stated
stateless_unstated : (law : Law) → is_stateless law ≡ true → IsStated law → ⊥
stateless_unstated (Stated number parameters offset) is stated = absurd cc
stateless_unstated law is stated = stated

-- so such a node has the table's rules
pub stateless_rules : (job : Job) (number : ℕ) (node : PlanNode) → IsJob job → slice_get job.plan.nodes number ≡ Some node → node.shape.stateless ≡ true → rules_at job node ≡ table_rules node.law
stateless_rules job number node is_job there stateless =
    let shape : IsShapeOf node.law node.shape = of_node (λ (m : PlanNode). IsShapeOf m.law m.shape) job.plan.nodes number node is_job.plan.shapes there in
    by_table job.laws node.law (stateless_unstated node.law (sym shape.stateless ∙ stateless))

pub stage_empty : {laws : Laws} (job : LoggedJob laws) (streams : List (StreamPrefix Plain)) (number : ℕ) (node : PlanNode) (n : ℕ) → Solves job streams → slice_get job.job.plan.nodes number ≡ Some node → node.shape.stateless ≡ true → (stage job.job streams node n).state ≡ []
stage_empty {laws} job streams number node n solves there stateless =
    let shape : IsShapeOf node.law node.shape = of_node (λ (m : PlanNode). IsShapeOf m.law m.shape) job.job.plan.nodes number node solves.is_job.plan.shapes there in
    let has : HasNumbers node = of_node HasNumbers job.job.plan.nodes number node solves.is_job.plan.ports there in
    let is : is_stateless node.law ≡ true = sym shape.stateless ∙ stateless in
    let inputs = inputs_of streams node in
    let long : length inputs ≡ length node.shape.inputs = length-map node.inputs (stream_of streams) ∙ has.inputs in
    let fits : AllByRecursion (λ (e : TimedSet Plain). FitsInputs node.shape e.set) (settled_sets node.policy inputs) =
    subst (λ (k : ℕ). AllByRecursion (λ (e : TimedSet Plain). length e.set ≡ k) (settled_sets node.policy inputs)) long (recursion_from_All (λ (e : TimedSet Plain). length e.set ≡ length inputs) (settled_sets node.policy inputs) (sets-places node.policy inputs)) in
    let begun = opened (table_rules node.law) node.shape.offset (length node.outputs) (sides_of job.job node) in
    let first : begun.state ≡ [] =
    call_state (λ (s : List Plain). s ≡ []) node.shape.offset Open (unopened (length node.outputs)) (opening node.law (sides_of job.job node)) refl (λ given e. opens_empty node.law (sides_of job.job node) given is e) in
    ap (λ (o : Outcome). o.state) (stage_sets node.law job.job streams node n is)
    ∙ ap (λ (r : Rules). (shown_all r node.shape.offset (length node.outputs) (sides_of job.job node) (take n (sets_of streams node))).state) (stateless_rules job.job number node solves.is_job there stateless)
    ∙ all_empty node.law node.shape is shape node.shape.offset begun (take n (sets_of streams node)) (all_of_first (λ (e : TimedSet Plain). FitsInputs node.shape e.set) n (sets_of streams node) fits) first

-- Several works are in flight only if a node's calculators keep nothing, have no logs, and aren't user-supplied.
no_box : (o : Option ℕ) → (IsSome o → ⊥) → o ≡ None
no_box None never = refl
no_box (Some n) never = absurd (never (search rules))

stateless_by : (b : Bool) → (b ≡ false → ⊥) → b ≡ true
stateless_by true never = refl
stateless_by false never = absurd (never refl)

pub record KeepsNothing {laws : Laws} (job : LoggedJob laws) (node : PlanNode) : Type 0 where
  pub stateless : node.shape.stateless ≡ true
  pub unlogged : first_log job node ≡ None
  pub unboxed : node.box_number ≡ None

pub several_keep_nothing : {laws : Laws} (job : LoggedJob laws) (number : ℕ) (node : PlanNode) → IsJob job.job → slice_get job.job.plan.nodes number ≡ Some node → 1 < node.in_flight → KeepsNothing job node
several_keep_nothing {laws} job number node is_job there several =
    let flight : FlightFits node = of_node FlightFits job.job.plan.nodes number node is_job.plan.flights there in
    let box : node.box_number ≡ None = no_box node.box_number (λ s. (let one = flight.boxed s in omega (arith, one, several))) in
    record {
      stateless = stateless_by node.shape.stateless (λ e. (let one = flight.stateful e in omega (arith, one, several)));
      unlogged = rw box refl;
      unboxed = box;
    }
