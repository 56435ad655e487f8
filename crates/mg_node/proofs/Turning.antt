-- What a performed work makes of its node, by its phase. A set or a call leads to the next stage, and Close to the end.
use Rattle.std.proofs.Common.{◌≡◌, ℕ, ℤ, ◌+◌, ◌≤◌, true, false, List, ◌++◌, Option, Some, None, IfSome, Result, slice_get, ap, sym, refl, subst, ◌∙◌, arith, inl, inr, ◌⊎◌, if◌then◌else◌}
use Rattle.std.proofs.lemmas.Option.{slice_get_past}
use Rattle.mg_time.specs.Time.{done}
use Rattle.mg_value.specs.Payload.{Plain}
use Rattle.mg_value.specs.Packet.{Stamped}
use Rattle.mg_settled.specs.Prefix.{StreamPrefix}
use Rattle.mg_settled.specs.Settled.{TimedSet}
use Rattle.mg_settled.specs.Extension.{AreExtendedBy}
use Rattle.mg_settled.proofs.Lemmas.{all_by_themselves, all_further}
use Rattle.mg_calc.specs.Rules.{Laws}
use Rattle.mg_calc.specs.declared.cause.Cause.{Cause}
use Rattle.mg_calc.specs.declared.emission.Laid.{Laid}
use Rattle.mg_calc.specs.declared.law.Law.{Law}
use Rattle.mg_calc.specs.declared.law.Law.TheVariants.{Loopback}
use Rattle.mg_calc.specs.declared.node_fault.Phase.{Phase}
use Rattle.mg_calc.specs.declared.node_fault.Phase.TheVariants.{Open, Call as SourceCall, Process, Close}
use Rattle.mg_calc.specs.declared.plan_node.PlanNode.{PlanNode}
use Rattle.mg_calc.specs.Laying.{all_raised}
use Rattle.mg_calc.specs.Outcome.{Outcome, after_call}
use Rattle.mg_calc.specs.Shape.{IsShapeOf, offset_of}
use Rattle.mg_calc.specs.Equations.{outcome_of, rules_at}
use Rattle.mg_calc.proofs.Outcomes.{call_extends, goes_on}
use Rattle.mg_node.specs.Views.{ContextView}
use Rattle.mg_node.specs.Job.{LoggedJob, Solves, streams_at, sets_of, stage, IsLastWork, IsTask, calls_before, calls_in}
use Rattle.mg_node.specs.Lawful.{answer_in, is_close, calls_by, HasAnswered}
use Rattle.mg_node.specs.Commits.{raised_before, calls_in_phase}
use Rattle.mg_node.proofs.NodeSolution.{node_streams}
use Rattle.mg_node.proofs.HeldRules.{of_node}
use Rattle.mg_node.proofs.StageCounts.{one_more_counted}
use Rattle.mg_node.proofs.Stages.{kind_of, IsCalled, called_offset, outer_count, outer_over, next_stage, failed_is_all, stage_laid, closed_stage, state_stays}
use Rattle.mg_node.proofs.StageStreams.{stage_extended, raised_stage_extended}
use Rattle.mg_node.proofs.Stateless.{stage_empty, stateless_rules}
use Rattle.mg_node.proofs.TaskLogs.{set_logged, call_logged, task_within, task_most}
use Rattle.mg_node.proofs.Turns.{behind_work, IsDone, Turns}
use Rattle.mg_calc.specs.Rules.{Rules}

module _ {laws : Laws} (job : LoggedJob laws) (streams : List (StreamPrefix Plain)) (number : ℕ) (node : PlanNode) (n : ℕ) (solves : Solves job streams) (there : slice_get job.job.plan.nodes number ≡ Some node) (good : (stage job.job streams node n).fault ≡ None) where
  -- A set or a call: the outputs that are raised before it come first in those of the next stage.
  raised_next : (phase : Phase) (set : List (Option (Stamped Plain))) → IsTask job.job streams node n phase set → is_close phase ≡ false
      → AreExtendedBy (raised_before node.shape.offset phase (stage job.job streams node n).outputs) (stage job.job streams node (n + 1)).outputs
  raised_next phase set task more =
      let before = stage job.job streams node n in
      let raised = raised_before node.shape.offset phase before.outputs in
      let up : Outcome = record before { outputs = raised; taken = before.taken + 1 } in
      let given = answer_in (rules_at job.job node) node.law before.state phase set in
      let next : stage job.job streams node (n + 1) ≡ after_call node.shape.offset phase up given =
      next_stage job streams number node n phase set solves there task more ∙ goes_on before.fault before (after_call node.shape.offset phase up given) good in
      subst (λ (o : Outcome). AreExtendedBy raised o.outputs) (sym next) (call_extends node.shape.offset phase up given)

  further : (phase : Phase) (context : ContextView) (answer : Result (List Laid) Cause) → IsDone job streams node n phase context answer → is_close phase ≡ false → behind_work job streams node n phase ≡ stage job.job streams node (n + 1) → n + calls_in_phase phase ≡ n + 1
      → calls_before streams node n ++ calls_in phase context.set ≡ calls_by streams node (n + calls_in_phase phase) (is_close phase) → calls_in_phase phase + (if is_close phase then 1 else 0) ≡ 1 → Turns job streams node n phase context answer
  further phase context answer d more next counts log one =
      let ts = streams_at streams node.outputs in
      let less = task_within job streams node n phase context.set more d.task in
      let extended = stage_extended job streams number node (n + 1) solves there (omega (arith, less)) in
      let laid = stage_laid job streams number node n phase context.set answer context.told.state solves there d.task more good d.answered in
      let count = one_more_counted job.job streams node n less good in
      record {
        before = all_further (raised_before node.shape.offset phase (stage job.job streams node n).outputs) (stage job.job streams node (n + 1)).outputs ts (raised_next phase context.set d.task more) extended;
        extended = subst (λ (o : Outcome). AreExtendedBy o.outputs ts) (sym next) extended;
        frozen = (λ f failed. node_streams job streams number node solves there
            ∙ ap (λ (o : Outcome). o.outputs) (failed_is_all job.job streams node (n + 1) f (omega (arith, less)) (ap (λ (o : Outcome). o.fault) (sym next) ∙ failed) ∙ sym next));
        outputs = ap (λ (o : Outcome). o.outputs) next ∙ laid.outputs;
        fault = ap (λ (o : Outcome). o.fault) next ∙ laid.fault;
        state = sym (ap (λ (o : Outcome). o.state) next ∙ laid.state_is);
        log = log;
        nothing = (λ stateless. ap (λ (o : Outcome). o.state) next ∙ stage_empty job streams number node (n + 1) solves there stateless ∙ sym (stage_empty job streams number node n solves there stateless));
        taken = (λ le. omega (arith, count, counts));
        last = (λ closes. absurd (let no : true ≡ false = sym closes ∙ more in cc));
        none = (λ closes k f set later task. absurd (let no : true ≡ false = sym closes ∙ more in cc));
        one = one;
      }

  -- Close: the outputs are raised to the end of all times before it, if the node has an offset.
  silent_offset : (law : Law) → IsCalled law ⊎ (law ≡ Loopback) → offset_of law ≡ None
  silent_offset law (inl is) = called_offset law is
  silent_offset law (inr is) = ap offset_of is

  raised_last : IsLastWork job.job streams node n → AreExtendedBy (all_raised node.shape.offset done (stage job.job streams node n).outputs) (streams_at streams node.outputs)
  raised_last last =
      let ts = streams_at streams node.outputs in
      let outputs = (stage job.job streams node n).outputs in
      elim (kind_of node.law) [
        | inl is ↦
            (let reached = outer_over node.law streams node is last.over in
            let all = last.all in
            let count = outer_count node.law streams node is in
            let none : slice_get (sets_of streams node) n ≡ None = slice_get_past (sets_of streams node) n (omega (arith, all, count)) in
            raised_stage_extended job streams number node n done solves there is good (omega (arith, reached)) (subst (λ (o : Option (TimedSet Plain)). IfSome o (λ e. done ≤ e.at)) (sym none) tt))
        | inr silent ↦
            (let shape : IsShapeOf node.law node.shape = of_node (λ (m : PlanNode). IsShapeOf m.law m.shape) job.job.plan.nodes number node solves.is_job.plan.shapes there in
            let offset : node.shape.offset ≡ None = shape.offset ∙ silent_offset node.law silent in
            let all = last.all in
            subst (λ (o : Option ℤ). AreExtendedBy (all_raised o done outputs) ts) (sym offset) (stage_extended job streams number node n solves there (omega (arith, all))))
      ]

  closing : (context : ContextView) (answer : Result (List Laid) Cause) → IsDone job streams node n Close context answer → Turns job streams node n Close context answer
  closing context answer d =
      let last : IsLastWork job.job streams node n = d.task in
      let ts = streams_at streams node.outputs in
      let same : n ≡ n + 0 = omega arith in
      let end = node_streams job streams number node solves there in
      let laid = closed_stage job streams number node n answer context.told.state solves there last d.answered in
      record {
        before = raised_last last;
        extended = subst (λ (xs : List (StreamPrefix Plain)). AreExtendedBy (outcome_of job.job streams node).outputs xs) (sym end) (all_by_themselves (outcome_of job.job streams node).outputs);
        frozen = (λ f failed. end);
        outputs = laid.outputs;
        fault = laid.fault;
        state = sym laid.state_is;
        log = ap (λ (k : ℕ). calls_by streams node k true) same;
        nothing = (λ stateless. laid.state_is ∙ sym (state_stays node.law (stage job.job streams node n).state context.told.state answer
            (subst (λ (r : Rules). HasAnswered answer (stage job.job streams node n).state context.told.state (r.finish (stage job.job streams node n).state)) (stateless_rules job.job number node solves.is_job there stateless) d.answered)));
        taken = (λ le. omega (arith, le));
        last = (λ closes. subst (IsLastWork job.job streams node) same last);
        none = (λ closes k f set later task. (let all = last.all in let most = task_most job streams node k f set task in omega (arith, all, most, later)));
        one = refl;
      }

  turns_by : (phase : Phase) (context : ContextView) (answer : Result (List Laid) Cause) → IsDone job streams node n phase context answer → Turns job streams node n phase context answer
  turns_by Open context answer d = absurd d.task
  turns_by Close context answer d = closing context answer d
  turns_by (SourceCall number_of_call) context answer d = further (SourceCall number_of_call) context answer d refl refl refl (call_logged job streams number node n solves there d.task.0) refl
  turns_by (Process at) context answer d = further (Process at) context answer d refl refl refl (set_logged streams node n (record { at = at; set = context.set }) d.task.0 d.task.1) refl

pub work_turns : {laws : Laws} (job : LoggedJob laws) (streams : List (StreamPrefix Plain)) (number : ℕ) (node : PlanNode) (n : ℕ) (phase : Phase) (context : ContextView) (answer : Result (List Laid) Cause) → Solves job streams → slice_get job.job.plan.nodes number ≡ Some node
    → (stage job.job streams node n).fault ≡ None → IsDone job streams node n phase context answer → Turns job streams node n phase context answer
work_turns {laws} job streams number node n phase context answer solves there good d = turns_by job streams number node n solves there good phase context answer d
