use Rattle.std.proofs.Common.{◌<◌, ℕ, List, map, length, filter, All, sym, ap, ◌∙◌, subst}
use Rattle.std.proofs.lemmas.Simd.{map-map}
use Rattle.mg_calc.specs.declared.node_fault.NodeFault.{NodeFault}
use Rattle.mg_calc.specs.declared.plan_node.PlanNode.{PlanNode}
use Rattle.mg_calc.specs.Equations.{stream_of}
use Rattle.mg_calc.specs.Plan.{numbers}
use Rattle.mg_free.specs.Core.{split_of, is_free, is_core, stream_number}
use Rattle.mg_settled.specs.Ends.{end_of}
use Rattle.mg_drive.specs.Live.{renumbered_fault, sets_by}
use Rattle.mg_drive.proofs.LiveTells.{logs_long, frees_long, core_nodes_long, numbers_long, all_in_core}
use Rattle.mg_drive.proofs.in_plan.InPlan.outcomes.Goals as goal

pub faults_in-requires : goal.faults_in-requires
faults_in-requires c =
    let plan = c.args.self.now.plan.now in
    subst (λ (fs : List NodeFault). All (λ fault. fault.node < length c.as_slice.result.now) fs) (sym c.as_slice-2.ensures)
    (subst (λ (n : ℕ). All (λ (fault : NodeFault). fault.node < n) c.args.core.now.faults) (sym (ap length c.as_slice.ensures ∙ ap length c.requires.numbers.nodes_are ∙ numbers_long plan)) c.requires.tells.nodes)

pub sets_of-requires-clause-free : goal.sets_of-requires-clause-free
sets_of-requires-clause-free c =
    sym c.requires.long ∙ ap length c.requires.free ∙ frees_long c.args.self.now.plan.now ∙ ap (λ (l : List PlanNode). length (filter is_free l)) (sym c.as_slice-3.ensures)

pub sets_of-requires-clause-core : goal.sets_of-requires-clause-core
sets_of-requires-clause-core c =
    ap length c.as_slice-4.ensures ∙ c.requires.tells.sets ∙ core_nodes_long c.args.self.now.plan.now ∙ ap (λ (l : List PlanNode). length (filter is_core l)) (sym c.as_slice-3.ensures)

pub ends_of-requires : goal.ends_of-requires
ends_of-requires c =
    let plan = c.args.self.now.plan.now in
    subst (λ (ss : List ℕ). All (λ s. s < length c.as_slice-6.result.now) ss) (sym (c.as_slice-5.ensures ∙ c.requires.numbers.streams_are))
    (subst (λ (n : ℕ). All (λ s. s < n) (map (stream_number plan) (numbers (length plan.streams)))) (sym (ap length c.as_slice-6.ensures.value ∙ c.requires.tells.many)) (all_in_core plan c.requires.valid))

pub asked_lines-requires : goal.asked_lines-requires
asked_lines-requires c = c.requires.long

pub returns : goal.returns
returns c = λ job streams takens core_is tells have.
    let plan = c.args.self.now.plan.now in
    record {
      faults = c.in_ok-faults.ensures ∙ ap (λ (ns : List ℕ). map (renumbered_fault ns) c.as_slice-2.result.now) (c.as_slice.ensures ∙ c.requires.numbers.nodes_are) ∙ ap (map (renumbered_fault (split_of plan).numbers)) (c.as_slice-2.ensures ∙ tells.faults);
      sets = c.in_ok-sets.ensures takens have ∙ ap (λ (ns : List PlanNode). sets_by ns c.as_slice-4.result.now (logs_long takens)) c.as_slice-3.ensures
          ∙ ap (λ (ss : List ℕ). sets_by plan.nodes ss (logs_long takens)) (c.as_slice-4.ensures ∙ tells.sets);
      ends = c.in_ok-ends.ensures streams (c.as_slice-6.ensures.value ∙ tells.ends) ∙ ap (map (λ stream. end_of (stream_of streams stream))) (c.as_slice-5.ensures ∙ c.requires.numbers.streams_are)
          ∙ map-map (λ stream. end_of (stream_of streams stream)) (stream_number plan) (numbers (length plan.streams));
      arrivals = c.in_ok-arrivals.ensures takens have;
    }
