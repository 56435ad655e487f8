-- A node that has ended has reached all that becomes of it: its count, its fault and its streams are the solution's.
use Rattle.std.proofs.Common.{◌≡◌, ℕ, ℤ, ◌+◌, ◌≤◌, Bool, true, false, List, [], ◌∷◌, length, map, take, Option, Some, None, option_map, is_some, slice_get, refl, ap, sym, subst, ◌∙◌, arith, inl, inr}
use Rattle.std.specs.Prelude.{◌||◌}
use Rattle.std.specs.List.{AllZip, fold, range_with_len}
use Rattle.std.proofs.lemmas.List.{length-take}
use Rattle.std.proofs.lemmas.List.FromFn.{length-range_with_len}
use Rattle.mg_value.specs.Payload.{Plain}
use Rattle.mg_settled.specs.Prefix.{StreamPrefix, closed}
use Rattle.mg_settled.specs.Extension.{AreExtendedBy}
use Rattle.mg_settled.specs.Settled.{TimedSet, reach}
use Rattle.mg_calc.specs.Rules.{Laws}
use Rattle.mg_calc.specs.declared.law.Law.{Law}
use Rattle.mg_calc.specs.declared.law.Law.TheVariants.{Loopback}
use Rattle.mg_calc.specs.declared.node_fault.NodeFault.{NodeFault}
use Rattle.mg_calc.specs.declared.node_fault.Phase.TheVariants.{Open, Call as SourceCall, Process}
use Rattle.mg_calc.specs.declared.plan_node.PlanNode.{PlanNode}
use Rattle.mg_calc.specs.Law.{opening, step, call}
use Rattle.mg_calc.specs.Laying.{all_raised}
use Rattle.mg_calc.specs.Outcome.{Failure, Outcome, after_call, unopened, opened, unless_failed, shown, shown_all, called}
use Rattle.mg_calc.specs.Shape.{calls_of}
use Rattle.mg_calc.specs.Equations.{Job, inputs_of, sides_of, outcome_by, outcome_of, rules_at}
use Rattle.mg_calc.specs.Meaning.{count_of, fault_of}
use Rattle.mg_calc.proofs.Counting.{call_counts, end_counts, end_counts_by}
use Rattle.mg_calc.proofs.Solutions.{one_solution}
use Rattle.mg_node.specs.Views.{EngineView}
use Rattle.mg_node.specs.Claims.{has_ended}
use Rattle.mg_node.specs.Job.{LoggedJob, Solves, streams_at, sets_of, count_by, count_of_all, stage_by, stage, IsLastWork}
use Rattle.mg_node.specs.Lawful.{IsRaised, StandForAll, come_to, IsEngineOf, LawfulEngine, of_node}
use Rattle.mg_node.proofs.NodeSolution.{node_streams}
use Rattle.mg_node.proofs.Stages.{kind_of, outer_stage, outer_outcome, outer_count, calls_made, called_stage, called_outcome, called_count, failed_is_all}
use Rattle.mg_node.proofs.RestingStands.{none_are_raised}
use Rattle.mg_calc.specs.Rules.{Rules}

-- No more is counted than there are works.
unless_most : (fault : Option Failure) (outcome next : Outcome) → next.taken ≡ outcome.taken + 1 → (unless_failed fault outcome next).taken ≤ outcome.taken + 1
unless_most (Some failure) outcome next one = omega arith
unless_most None outcome next one = omega (arith, one)

set_most : (rules : Rules) (offset : Option ℤ) (o : Outcome) (set : TimedSet Plain) → (shown rules offset o set).taken ≤ o.taken + 1
set_most rules offset o set =
    let before : Outcome = record o { outputs = all_raised offset set.at o.outputs; taken = o.taken + 1 } in
    unless_most o.fault o (after_call offset (Process set.at) before (rules.step o.state set.at set.set)) (call_counts offset (Process set.at) before (rules.step o.state set.at set.set))

call_most : (law : Law) (o : Outcome) (number : ℕ) → (called law o number).taken ≤ o.taken + 1
call_most law o number =
    let before : Outcome = record o { taken = o.taken + 1 } in
    unless_most o.fault o (after_call None (SourceCall number) before (call law o.state number)) (call_counts None (SourceCall number) before (call law o.state number))

all_most : {X : Type 0} (go : Outcome → X → Outcome) → ((o : Outcome) (x : X) → (go o x).taken ≤ o.taken + 1) → (o : Outcome) (xs : List X) → (fold go o xs).taken ≤ o.taken + length xs
all_most go most o [] = omega arith
all_most go most o (x ∷ xs) = (let one = most o x in let more = all_most go most (go o x) xs in omega (arith, one, more))

sets_most : (rules : Rules) (offset : Option ℤ) (outputs : ℕ) (sides : List (Option Plain)) (sets : List (TimedSet Plain)) → (shown_all rules offset outputs sides sets).taken ≤ length sets
sets_most rules offset outputs sides sets =
    let none : (opened rules offset outputs sides).taken ≡ 0 = call_counts offset Open (unopened outputs) (rules.opening sides) in
    let most = all_most (shown rules offset) (set_most rules offset) (opened rules offset outputs sides) sets in
    omega (arith, none, most)

calls_most : (job : Job) (node : PlanNode) (n : ℕ) → (calls_made job node n).taken ≤ n
calls_most job node n =
    let begun = opened (rules_at job node) None (length node.outputs) (sides_of job node) in
    let none : begun.taken ≡ 0 = call_counts None Open (unopened (length node.outputs)) ((rules_at job node).opening (sides_of job node)) in
    let most = all_most (called node.law) (call_most node.law) begun (range_with_len 0 n) in
    let many = length-range_with_len 0 n in
    omega (arith, none, most, many)

-- a stage has taken no more works than its number
loop_most : (law : Law) (job : Job) (streams : List (StreamPrefix Plain)) (node : PlanNode) (n : ℕ) → law ≡ Loopback → (stage_by law job streams node n).taken ≤ n
loop_most law job streams node n is = subst (λ (l : Law). (stage_by l job streams node n).taken ≤ n) (sym is) (omega arith)

stage_most : (job : Job) (streams : List (StreamPrefix Plain)) (node : PlanNode) (n : ℕ) → (stage job streams node n).taken ≤ n
stage_most job streams node n = elim (kind_of node.law) [
  | inl is ↦
      (let at = ap (λ (o : Outcome). o.taken) (outer_stage node.law job streams node n is) in
      let most = sets_most (rules_at job node) node.shape.offset (length node.outputs) (sides_of job node) (take n (sets_of streams node)) in
      let cut = length-take n (sets_of streams node) in
      omega (arith, at, most, cut))
  | inr (inl is) ↦ (let at = ap (λ (o : Outcome). o.taken) (called_stage node.law job streams node n is) in let most = calls_most job node n in omega (arith, at, most))
  | inr (inr is) ↦ loop_most node.law job streams node n is
]

loop_counts : (law : Law) (job : Job) (streams : List (StreamPrefix Plain)) (node : PlanNode) → law ≡ Loopback → (outcome_by law job streams node).taken ≤ count_by law streams node
loop_counts law job streams node is = subst (λ (l : Law). (outcome_by l job streams node).taken ≤ count_by l streams node) (sym is) (omega arith)

pub most_counted : (job : Job) (streams : List (StreamPrefix Plain)) (node : PlanNode) → count_of job streams node ≤ count_of_all streams node
most_counted job streams node = elim (kind_of node.law) [
  | inl is ↦
      (let whole = shown_all (rules_at job node) node.shape.offset (length node.outputs) (sides_of job node) (sets_of streams node) in
      let end = ap (λ (o : Outcome). o.taken) (outer_outcome node.law job streams node is) ∙ end_counts (rules_at job node) node.shape.offset (reach node.policy (inputs_of streams node)) whole in
      let most = sets_most (rules_at job node) node.shape.offset (length node.outputs) (sides_of job node) (sets_of streams node) in
      let count = outer_count node.law streams node is in
      omega (arith, end, most, count))
  | inr (inl is) ↦
      (let whole = calls_made job node (calls_of node.law) in
      let end = ap (λ (o : Outcome). o.taken) (called_outcome node.law job streams node is) ∙ end_counts_by whole.fault whole (record whole { outputs = map closed whole.outputs }) refl in
      let most = calls_most job node (calls_of node.law) in
      let count = called_count node.law streams node is in
      omega (arith, end, most, count))
  | inr (inr is) ↦ loop_counts node.law job streams node is
]

-- A node that has closed or failed.
some_failed : (number : ℕ) (x : NodeFault) (f : Option Failure) → Some x ≡ option_map (λ g. record { node = number; phase = g.phase; cause = g.cause }) f → (failure : Failure) × (f ≡ Some failure)
some_failed number x None is = absurd cc
some_failed number x (Some failure) is = (failure, refl)

-- its outcome so far is all that becomes of it, and each of its works is laid
pub record HasAll {laws : Laws} (job : LoggedJob laws) (number : ℕ) (engine : EngineView) (h : IsEngineOf job number engine) : Type 0 where
  pub all : come_to job h.streams h.node engine.laid engine.closed ≡ outcome_of job.job h.streams h.node
  pub counted : engine.laid ≡ count_of job.job h.streams h.node

has_all_by : {laws : Laws} (job : LoggedJob laws) (number : ℕ) (engine : EngineView) (h : IsEngineOf job number engine) (c : Bool) (f : Option NodeFault) → engine.closed ≡ c → engine.fault ≡ f → (c || is_some f) ≡ true → HasAll job number engine h
has_all_by {laws} job number engine h true f closed fault ended =
    let last : IsLastWork job.job h.streams h.node engine.laid = h.closed closed in
    let taken = h.taken in
    let all = last.all in
    let most = most_counted job.job h.streams h.node in
    record {
      all = ap (come_to job h.streams h.node engine.laid) closed;
      counted = omega (arith, taken, all, most);
    }
has_all_by {laws} job number engine h false None closed fault ended = absurd cc
has_all_by {laws} job number engine h false (Some x) closed fault ended =
    let going : come_to job h.streams h.node engine.laid engine.closed ≡ stage job.job h.streams h.node engine.laid = ap (come_to job h.streams h.node engine.laid) closed in
    let failed = some_failed number x (stage job.job h.streams h.node engine.laid).fault (sym fault ∙ h.fault ∙ ap (λ (o : Outcome). option_map (λ g. (let it : NodeFault = record { node = number; phase = g.phase; cause = g.cause } in it)) o.fault) going) in
    let taken = h.taken in
    let most = most_counted job.job h.streams h.node in
    let same : outcome_of job.job h.streams h.node ≡ stage job.job h.streams h.node engine.laid = failed_is_all job.job h.streams h.node engine.laid failed.0 (omega (arith, taken, most)) failed.1 in
    let counted = ap (λ (o : Outcome). o.taken) same in
    let few = stage_most job.job h.streams h.node engine.laid in
    record {
      all = going ∙ sym same;
      counted = omega (arith, taken, counted, few);
    }

pub has_all : {laws : Laws} (job : LoggedJob laws) (number : ℕ) (engine : EngineView) (h : IsEngineOf job number engine) → has_ended engine ≡ true → HasAll job number engine h
has_all {laws} job number engine h ended = has_all_by job number engine h engine.closed engine.fault refl refl ended

-- so its outputs are the solution's streams
pub whole_is_all : {laws : Laws} (job : LoggedJob laws) (number : ℕ) (engine : EngineView) (h : IsEngineOf job number engine) → has_ended engine ≡ true → h.whole ≡ streams_at h.streams h.node.outputs
whole_is_all {laws} job number engine h ended =
    let into : streams_at h.streams h.node.outputs ≡ (outcome_of job.job h.streams h.node).outputs = node_streams job h.streams number h.node h.solves h.there in
    let all = (has_all job number engine h ended).all in
    none_are_raised (outcome_of job.job h.streams h.node).outputs h.whole (subst (λ (o : Outcome). AllZip IsRaised o.outputs h.whole) all h.raised) (subst (AreExtendedBy h.whole) into h.extended) ∙ sym into

-- In words of any solution and of the node.

-- what holds of the engine's own streams and node holds of these
pub of_these : {laws : Laws} (P : List (StreamPrefix Plain) → PlanNode → Type 0) (job : LoggedJob laws) (number : ℕ) (node : PlanNode) (engine : EngineView) (solution : List (StreamPrefix Plain)) (h : IsEngineOf job number engine) → Solves job solution → slice_get job.job.plan.nodes number ≡ Some node
    → P h.streams h.node → P solution node
of_these {laws} P job number node engine solution h solves there p =
    let same_streams : h.streams ≡ solution = one_solution job.job h.streams solution h.solves.solution solves.solution in
    let same_node : h.node ≡ node = some_same h.node node (sym h.there ∙ there) in
    subst (P solution) same_node (subst (λ (ss : List (StreamPrefix Plain)). P ss h.node) same_streams p)
  where
    some_same : (m n : PlanNode) → Some m ≡ Some n → m ≡ n
    some_same m n e = cc

pub ended_count : {laws : Laws} (job : LoggedJob laws) (number : ℕ) (node : PlanNode) (engine : EngineView) (solution : List (StreamPrefix Plain)) → Solves job solution → slice_get job.job.plan.nodes number ≡ Some node → LawfulEngine job (of_node number) engine → has_ended engine ≡ true
    → engine.laid ≡ count_of job.job solution node
unfolding LawfulEngine
ended_count {laws} job number node engine solution solves there h ended =
    of_these (λ ss m. engine.laid ≡ count_of job.job ss m) job number node engine solution h solves there (has_all job number engine h ended).counted

pub ended_fault : {laws : Laws} (job : LoggedJob laws) (number : ℕ) (node : PlanNode) (engine : EngineView) (solution : List (StreamPrefix Plain)) → Solves job solution → slice_get job.job.plan.nodes number ≡ Some node → LawfulEngine job (of_node number) engine → has_ended engine ≡ true
    → engine.fault ≡ fault_of job.job solution (number, node)
unfolding LawfulEngine
ended_fault {laws} job number node engine solution solves there h ended =
    of_these (λ ss m. engine.fault ≡ fault_of job.job ss (number, m)) job number node engine solution h solves there
    (h.fault ∙ ap (λ (o : Outcome). option_map (λ f. (let it : NodeFault = record { node = number; phase = f.phase; cause = f.cause } in it)) o.fault) (has_all job number engine h ended).all)

pub ended_outputs : {laws : Laws} (job : LoggedJob laws) (number : ℕ) (node : PlanNode) (engine : EngineView) (solution : List (StreamPrefix Plain)) → Solves job solution → slice_get job.job.plan.nodes number ≡ Some node → LawfulEngine job (of_node number) engine → has_ended engine ≡ true
    → StandForAll engine.outputs (streams_at solution node.outputs)
unfolding LawfulEngine
ended_outputs {laws} job number node engine solution solves there h ended =
    of_these (λ ss m. StandForAll engine.outputs (streams_at ss m.outputs)) job number node engine solution h solves there
    (subst (StandForAll engine.outputs) (whole_is_all job number engine h ended) h.kept)
