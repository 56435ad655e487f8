-- The solution's streams of a node extend the node's outputs at each of its stages. They also extend these outputs raised, as far as
-- nothing further stands below.
use Rattle.std.proofs.Common.{◌≡◌, ℕ, zero, suc, ◌+◌, ◌-◌, ◌<◌, ◌≤◌, inl, inr, List, [], ◌∷◌, ◌++◌, append_assoc, map, take, drop, take-append-drop, length, All, Some, None, IfSome, slice_get, refl, ap, sym, subst, ◌∙◌, arith}
use Rattle.std.specs.List.{AllByRecursion, fold, filter_map, range_with_len}
use Rattle.std.proofs.lemmas.List.Elements.{All-weaker, All-drop, All-from_recursion, recursion_from_All, filter_map-append}
use Rattle.mg_time.specs.Time.{done}
use Rattle.mg_value.specs.Payload.{Plain}
use Rattle.mg_value.specs.Packet.{Stamped}
use Rattle.mg_settled.specs.Prefix.{StreamPrefix, IsPrefix, empty_prefix, appended, all_appended}
use Rattle.mg_settled.specs.Extension.{IsExtendedBy, AreExtendedBy}
use Rattle.mg_settled.specs.Loopback.{packet_of, replies, loopback}
use Rattle.mg_settled.specs.Settled.{TimedSet, reach}
use Rattle.mg_settled.proofs.Lemmas.{all_further, Rises, times-rise, below-reach, reach-most, loopback_is_prefix}
use Rattle.mg_calc.specs.Rules.{Laws}
use Rattle.mg_calc.specs.declared.law.Law.{Law}
use Rattle.mg_calc.specs.declared.law.Law.TheVariants.{Loopback}
use Rattle.mg_calc.specs.declared.plan_node.PlanNode.{PlanNode}
use Rattle.mg_calc.specs.Laying.{all_raised}
use Rattle.mg_calc.specs.Outcome.{Outcome, opened, shown, shown_all, ended, with_last_call}
use Rattle.mg_calc.specs.Shape.{IsOuter, ParametersFit, calls_of}
use Rattle.mg_calc.specs.Equations.{Job, inputs_of, sides_of, outcome_by, outcome_of, rules_at}
use Rattle.mg_calc.proofs.Counting.{all_of_first}
use Rattle.mg_calc.proofs.Jobs.{job_known}
use Rattle.mg_calc.proofs.Outcomes.{Further, opened_keeps, sets_keep, sets_extend, end_extends, raised_extends_end, calls_keep, calls_extend, last_call_extends}
use Rattle.mg_calc.proofs.Rounds.{streams_are_prefixes, stream_is_prefix}
use Rattle.mg_calc.proofs.Solutions.{solution_keeps, empties_extend}
use Rattle.mg_node.specs.Job.{LoggedJob, Solves, streams_at, sets_of, main_of, loop_of, count_of_all, answered, stage_by, stage}
use Rattle.mg_node.proofs.Answering.{follows}
use Rattle.mg_node.proofs.NodeSolution.{node_streams}
use Rattle.mg_node.proofs.HeldRules.{of_node}
use Rattle.mg_node.proofs.Stages.{IsCalled, kind_of, outer_stage, outer_outcome, calls_made, called_stage, called_outcome, called_count, sets_in_parts, calls_in_parts}

-- What is known of a node of a job: its inputs are prefixes.
pub record IsKnownNode (streams : List (StreamPrefix Plain)) (node : PlanNode) : Type 0 where
  pub inputs : All IsPrefix (inputs_of streams node)

pub node_known : {laws : Laws} (job : LoggedJob laws) (streams : List (StreamPrefix Plain)) (number : ℕ) (node : PlanNode) → Solves job streams → slice_get job.job.plan.nodes number ≡ Some node → IsKnownNode streams node
node_known {laws} job streams number node solves there = record {
  inputs = All-from_recursion IsPrefix (inputs_of streams node) (streams_are_prefixes streams node.inputs (solution_keeps job.job (job_known job.job solves.is_job) streams solves.solution));
}

-- Of a node that is shown sets.
module _ (job : Job) (streams : List (StreamPrefix Plain)) (node : PlanNode) (known : IsKnownNode streams node) where
  set_times_end : AllByRecursion (λ (set : TimedSet Plain). set.at ≤ done) (sets_of streams node)
  set_times_end =
      let inputs = inputs_of streams node in
      let most = reach-most node.policy inputs known.inputs in
      recursion_from_All (λ (set : TimedSet Plain). set.at ≤ done) (sets_of streams node)
      (All-weaker (λ (set : TimedSet Plain). set.at < reach node.policy inputs) (λ (set : TimedSet Plain). set.at ≤ done) (λ set below. omega (arith, below, most)) (sets_of streams node) (below-reach node.policy inputs known.inputs))

  first_kept : (n : ℕ) → AllByRecursion IsPrefix (shown_all (rules_at job node) node.shape.offset (length node.outputs) (sides_of job node) (take n (sets_of streams node))).outputs
  first_kept n =
      sets_keep (rules_at job node) node.shape.offset (opened (rules_at job node) node.shape.offset (length node.outputs) (sides_of job node)) (take n (sets_of streams node))
      (all_of_first (λ (set : TimedSet Plain). set.at ≤ done) n (sets_of streams node) set_times_end) (opened_keeps (rules_at job node) node.shape.offset (length node.outputs) (sides_of job node))

  all_kept : AllByRecursion IsPrefix (shown_all (rules_at job node) node.shape.offset (length node.outputs) (sides_of job node) (sets_of streams node)).outputs
  all_kept =
      sets_keep (rules_at job node) node.shape.offset (opened (rules_at job node) node.shape.offset (length node.outputs) (sides_of job node)) (sets_of streams node) set_times_end
      (opened_keeps (rules_at job node) node.shape.offset (length node.outputs) (sides_of job node))

  outer_extended : (n : ℕ) → IsOuter node.law → AreExtendedBy (stage job streams node n).outputs (outcome_of job streams node).outputs
  outer_extended n is =
      let offset = node.shape.offset in
      let reached = reach node.policy (inputs_of streams node) in
      let sets = sets_of streams node in
      let first = shown_all (rules_at job node) offset (length node.outputs) (sides_of job node) (take n sets) in
      let whole = shown_all (rules_at job node) offset (length node.outputs) (sides_of job node) sets in
      let parts : fold (shown (rules_at job node) offset) first (drop n sets) ≡ whole = sym (sets_in_parts (rules_at job node) offset (length node.outputs) (sides_of job node) sets n) in
      let shown_more : AreExtendedBy first.outputs whole.outputs = subst (λ (o : Outcome). AreExtendedBy first.outputs o.outputs) parts (sets_extend (rules_at job node) offset first (drop n sets)) in
      let to_end : AreExtendedBy whole.outputs (ended (rules_at job node) offset reached whole).outputs = end_extends (rules_at job node) offset reached whole (reach-most node.policy (inputs_of streams node) known.inputs) all_kept in
      subst (λ (o : Outcome). AreExtendedBy o.outputs (outcome_of job streams node).outputs) (sym (outer_stage node.law job streams node n is))
      (subst (λ (o : Outcome). AreExtendedBy first.outputs o.outputs) (sym (outer_outcome node.law job streams node is)) (all_further first.outputs whole.outputs _ shown_more to_end))

-- Of a source.
called_extended : (job : Job) (streams : List (StreamPrefix Plain)) (node : PlanNode) (n : ℕ) → IsCalled node.law → n ≤ calls_of node.law → AreExtendedBy (stage job streams node n).outputs (outcome_of job streams node).outputs
called_extended job streams node n is le =
    let begun = opened (rules_at job node) None (length node.outputs) (sides_of job node) in
    let first = calls_made job node n in
    let whole = calls_made job node (calls_of node.law) in
    let more : AreExtendedBy first.outputs whole.outputs =
    subst (λ (o : Outcome). AreExtendedBy first.outputs o.outputs) (sym (calls_in_parts job node n (calls_of node.law) le)) (calls_extend node.law first (range_with_len n (calls_of node.law - n))) in
    let kept : AllByRecursion IsPrefix whole.outputs = calls_keep node.law begun (range_with_len 0 (calls_of node.law)) (opened_keeps (rules_at job node) None (length node.outputs) (sides_of job node)) in
    subst (λ (o : Outcome). AreExtendedBy o.outputs (outcome_of job streams node).outputs) (sym (called_stage node.law job streams node n is))
    (subst (λ (o : Outcome). AreExtendedBy first.outputs o.outputs) (sym (called_outcome node.law job streams node is))
    (all_further first.outputs whole.outputs (with_last_call whole).outputs more (last_call_extends whole.fault whole kept)))

-- Of a loopback: the first packets of a stream, one after the other.
front_extended : (stream w : StreamPrefix Plain) (ps qs : List (Stamped Plain)) → IsPrefix stream → IsExtendedBy w stream → stream.packets ≡ w.packets ++ (ps ++ qs) → IsExtendedBy (all_appended w ps) stream
front_extended stream w [] qs is e same = e
front_extended stream w (p ∷ ps) qs is e same =
    let go = follows stream w p (ps ++ qs) is e same in
    front_extended stream (appended w p) ps qs is go.extended (same ∙ sym (append_assoc w.packets (p ∷ []) (ps ++ qs)))

pub answered_extended : (n : ℕ) (main loop : StreamPrefix Plain) → IsPrefix main → IsExtendedBy (answered n main loop) (loopback main loop)
answered_extended n main loop is =
    let stream = loopback main loop in
    let prefix = loopback_is_prefix main loop is in
    let rs = replies main loop in
    let parts : stream.packets ≡ filter_map packet_of (take n rs) ++ filter_map packet_of (drop n rs) = ap (filter_map packet_of) (sym (take-append-drop n rs)) ∙ filter_map-append packet_of (take n rs) (drop n rs) in
    front_extended stream empty_prefix (filter_map packet_of (take n rs)) (filter_map packet_of (drop n rs)) prefix (empties_extend 1 (stream ∷ []) refl (prefix, tt)).0 parts

loop_extended : (law : Law) (job : Job) (streams : List (StreamPrefix Plain)) (node : PlanNode) (n : ℕ) → law ≡ Loopback → IsPrefix (main_of streams node) → AreExtendedBy (stage_by law job streams node n).outputs (outcome_by law job streams node).outputs
loop_extended law job streams node n is main =
    subst (λ (l : Law). AreExtendedBy (stage_by l job streams node n).outputs (outcome_by l job streams node).outputs) (sym is) (answered_extended n (main_of streams node) (loop_of streams node) main, tt)

-- the solution's streams extend each stage
pub stage_extended : {laws : Laws} (job : LoggedJob laws) (streams : List (StreamPrefix Plain)) (number : ℕ) (node : PlanNode) (n : ℕ) → Solves job streams → slice_get job.job.plan.nodes number ≡ Some node → n ≤ count_of_all streams node
    → AreExtendedBy (stage job.job streams node n).outputs (streams_at streams node.outputs)
stage_extended {laws} job streams number node n solves there le =
    let known = node_known job streams number node solves there in
    subst (AreExtendedBy (stage job.job streams node n).outputs) (sym (node_streams job streams number node solves there))
    (elim (kind_of node.law) [
      | inl is ↦ outer_extended job.job streams node known n is
      | inr (inl is) ↦ called_extended job.job streams node n is (let count = called_count node.law streams node is in omega (arith, le, count))
      | inr (inr is) ↦ loop_extended node.law job.job streams node n is
          (stream_is_prefix (inputs_of streams node) 1 (streams_are_prefixes streams node.inputs (solution_keeps job.job (job_known job.job solves.is_job) streams solves.solution)))
    ])

-- Raised to a time.

-- of sets that rise, those after the first n stand at the time of the first of them or above
all_above : (a t : ℕ) (sets : List (TimedSet Plain)) → Rises a (map (λ e. e.at) sets) → t ≤ a → AllByRecursion (λ e. t ≤ e.at) sets
all_above a t [] r le = tt
all_above a t (e ∷ sets) r le = (let low = r.0 in omega (arith, le, low), all_above (e.at + 1) t sets r.1 (let low = r.0 in omega (arith, le, low)))

all_above_from : (a t n : ℕ) (sets : List (TimedSet Plain)) → Rises a (map (λ e. e.at) sets) → IfSome (slice_get sets n) (λ e. t ≤ e.at) → AllByRecursion (λ e. t ≤ e.at) (drop n sets)
all_above_from a t zero [] r here = tt
all_above_from a t zero (e ∷ sets) r here = (here, all_above (e.at + 1) t sets r.1 (omega (arith, here)))
all_above_from a t (suc n) [] r here = tt
all_above_from a t (suc n) (e ∷ sets) r here = all_above_from (e.at + 1) t n sets r.1 here

none_at_end : (t r : ℕ) (sets : List (TimedSet Plain)) → r ≤ done → AllByRecursion (λ e. t ≤ e.at) sets → AllByRecursion (λ e. e.at < r) sets → t ≡ done → sets ≡ []
none_at_end t r [] le above below end = refl
none_at_end t r (e ∷ sets) le above below end = absurd (let low = above.0 in let high = below.0 in omega (arith, le, low, high, end))

-- if a node that is shown sets hasn't failed, nothing further stands below its raised outputs. The time to which they are raised is at most
-- how far its sets reach. It is also at most the time of its next set, if it has one.
pub raised_stage_extended : {laws : Laws} (job : LoggedJob laws) (streams : List (StreamPrefix Plain)) (number : ℕ) (node : PlanNode) (n t : ℕ) → Solves job streams → slice_get job.job.plan.nodes number ≡ Some node → IsOuter node.law
    → (stage job.job streams node n).fault ≡ None → t ≤ reach node.policy (inputs_of streams node) → IfSome (slice_get (sets_of streams node) n) (λ e. t ≤ e.at)
    → AreExtendedBy (all_raised node.shape.offset t (stage job.job streams node n).outputs) (streams_at streams node.outputs)
raised_stage_extended {laws} job streams number node n t solves there is good le next =
    let known = node_known job streams number node solves there in
    let offset = node.shape.offset in
    let inputs = inputs_of streams node in
    let reached = reach node.policy inputs in
    let sets = sets_of streams node in
    let first = shown_all (rules_at job.job node) offset (length node.outputs) (sides_of job.job node) (take n sets) in
    let most = reach-most node.policy inputs known.inputs in
    let at : stage job.job streams node n ≡ first = outer_stage node.law job.job streams node n is in
    let parts = sets_in_parts (rules_at job.job node) offset (length node.outputs) (sides_of job.job node) sets n in
    let above = all_above_from 0 t n sets (times-rise node.policy inputs known.inputs) next in
    let below = recursion_from_All (λ (e : TimedSet Plain). e.at < reached) (drop n sets) (All-drop (λ (e : TimedSet Plain). e.at < reached) n sets (below-reach node.policy inputs known.inputs)) in
    let further : Further t reached (drop n sets) = record { rises = le; within = most; above = above; none = none_at_end t reached (drop n sets) most above below } in
    let raised = raised_extends_end (rules_at job.job node) offset t reached first (drop n sets) further (first_kept job.job streams node known n)
    (subst (λ (o : Outcome). AllByRecursion IsPrefix o.outputs) parts (all_kept job.job streams node known)) (ap (λ (o : Outcome). o.fault) (sym at) ∙ good) in
    subst (λ (o : Outcome). AreExtendedBy (all_raised offset t o.outputs) (streams_at streams node.outputs)) (sym at)
    (subst (AreExtendedBy (all_raised offset t first.outputs)) (sym (node_streams job streams number node solves there))
    (subst (λ (o : Outcome). AreExtendedBy (all_raised offset t first.outputs) o.outputs) (sym (outer_outcome node.law job.job streams node is ∙ ap (ended (rules_at job.job node) offset reached) parts)) raised))
