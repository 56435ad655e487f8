-- A cell that can go no further, to which the solution's streams came, has the solution's count and its fault.
use Rattle.std.proofs.Common.{◌≡◌, ℕ, ◌<◌, Bool, false, inl, inr, List, length, Option, Some, None, option_map, is_some, slice_get, slice_index_or, ap, sym, refl, subst, ◌∙◌, arith}
use Rattle.std.proofs.lemmas.Bool.{cases_Bool, false≢true}
use Rattle.mg_value.specs.Payload.{Plain}
use Rattle.mg_settled.specs.Prefix.{StreamPrefix, empty_prefix}
use Rattle.mg_settled.specs.Settled.{reach}
use Rattle.mg_settled.specs.Loopback.{replies}
use Rattle.mg_settled.proofs.Lemmas.{all_by_themselves}
use Rattle.mg_stream.specs.Queue.{StandsFor}
use Rattle.mg_loopback.proofs.Standing.{all_told}
use Rattle.mg_calc.specs.Rules.{Laws}
use Rattle.mg_calc.specs.declared.law.Law.{Law}
use Rattle.mg_calc.specs.declared.law.Law.TheVariants.{Loopback}
use Rattle.mg_calc.specs.declared.node_fault.NodeFault.{NodeFault}
use Rattle.mg_calc.specs.declared.plan_node.PlanNode.{PlanNode}
use Rattle.mg_calc.specs.Outcome.{Outcome}
use Rattle.mg_calc.specs.Shape.{IsOuter}
use Rattle.mg_calc.specs.Equations.{Job, inputs_of, outcome_by, outcome_of}
use Rattle.mg_calc.specs.Meaning.{count_of, fault_of}
use Rattle.mg_node.specs.declared.role.Role.TheVariants.{Loop as LoopRole, Sets as SetsRole}
use Rattle.mg_node.specs.declared.pending.Pending.{Pending}
use Rattle.mg_node.specs.declared.pending.Pending.TheVariants.{Sets, Loop}
use Rattle.mg_node.specs.Views.{IntakeView, EngineView}
use Rattle.mg_node.specs.Ports.{ports_in, port_queue}
use Rattle.mg_node.specs.Claims.{has_ended, IsEarly}
use Rattle.mg_node.specs.Job.{LoggedJob, Solves, main_of, loop_of, count_by, stage_by, stage}
use Rattle.mg_node.specs.Lawful.{HoldsWaits, IsIntakeOf, LawfulIntake, come_to, IsEngineOf, LawfulEngine, of_node, Agree}
use Rattle.mg_node.specs.Resting.{IsResting, HasCome}
use Rattle.mg_node.proofs.Closing.{law_is_loop, second_not}
use Rattle.mg_node.proofs.Resting.{Waited, waited, sets_rest, outer_at_rest, up_to, loop_stands, by_kind}
use Rattle.mg_node.proofs.RestingEnds.{has_all, most_counted, of_these}
use Rattle.mg_node.proofs.Stages.{outer_count}

-- an engine has the count of all that becomes of its node, and its fault; and what is laid gives the state
pub record HasBecome {laws : Laws} (job : LoggedJob laws) (streams : List (StreamPrefix Plain)) (number : ℕ) (engine : EngineView) (node : PlanNode) : Type 0 where
  pub count : engine.laid ≡ count_of job.job streams node
  pub fault : engine.fault ≡ fault_of job.job streams (number, node)
  pub state : (come_to job streams node engine.laid engine.closed).state ≡ (outcome_of job.job streams node).state

loop_count : (law : Law) (streams : List (StreamPrefix Plain)) (node : PlanNode) → law ≡ Loopback → count_by law streams node ≡ length (replies (main_of streams node) (loop_of streams node))
loop_count law streams node is = subst (λ (l : Law). count_by l streams node ≡ length (replies (main_of streams node) (loop_of streams node))) (sym is) refl

loop_good : (law : Law) (job : Job) (streams : List (StreamPrefix Plain)) (node : PlanNode) → law ≡ Loopback → (outcome_by law job streams node).fault ≡ None
loop_good law job streams node is = subst (λ (l : Law). (outcome_by l job streams node).fault ≡ None) (sym is) refl

loop_keeps : (law : Law) (job : Job) (streams : List (StreamPrefix Plain)) (node : PlanNode) (n : ℕ) → law ≡ Loopback → (stage_by law job streams node n).state ≡ (outcome_by law job streams node).state
loop_keeps law job streams node n is = subst (λ (l : Law). (stage_by l job streams node n).state ≡ (outcome_by l job streams node).state) (sym is) refl

none_there : (fault : Option NodeFault) → is_some fault ≡ false → fault ≡ None
none_there None none = refl
none_there (Some f) none = absurd cc

module _ {laws : Laws} (job : LoggedJob laws) (number : ℕ) (engine : EngineView) (h : IsEngineOf job number engine) where
  -- if no further work is there, and none of them failed
  become_by : (w : Pending) → has_ended engine ≡ false → Waited job number engine h w → count_by h.node.law h.streams h.node ≡ engine.claimed → (outcome_of job.job h.streams h.node).fault ≡ None
      → (stage job.job h.streams h.node engine.claimed).state ≡ (outcome_of job.job h.streams h.node).state → HasBecome job h.streams number engine h.node
  become_by w goes at all good state =
      let taken = h.taken in
      let most = most_counted job.job h.streams h.node in
      let laid = at.all in
      record {
        count = omega (arith, taken, most, laid, all);
        fault = none_there engine.fault (second_not engine.closed (is_some engine.fault) goes).1
            ∙ ap (option_map (λ f. (let it : NodeFault = record { node = number; phase = f.phase; cause = f.cause } in it))) (sym good);
        state = ap (λ (c : Bool). (come_to job h.streams h.node engine.laid c).state) at.going ∙ ap (λ (n : ℕ). (stage job.job h.streams h.node n).state) at.all ∙ state;
      }

  outer_become : (w : Pending) → has_ended engine ≡ false → IsOuter h.node.law → Waited job number engine h w → HoldsWaits job h.streams number engine.claimed w → length (inputs_of h.streams h.node) ≡ ports_in w
      → ((port : ℕ) → port < length (inputs_of h.streams h.node) → StandsFor (port_queue w port) (slice_index_or (inputs_of h.streams h.node) port empty_prefix)) → IsEarly SetsRole w → HasBecome job h.streams number engine h.node
  outer_become (Loop held) goes is at holds ports came early = absurd (subst IsOuter (law_is_loop (slice_get job.job.plan.nodes number) h.node h.there holds.0) is)
  outer_become (Sets inbox) goes is at holds ports came early =
      let node = h.node in
      let own = all_by_themselves (inputs_of h.streams node) in
      let claimed = sets_rest job number engine h h.streams own inbox holds ports came early in
      let into : outcome_of job.job h.streams node ≡ up_to node.shape.offset (reach node.policy (inputs_of h.streams node)) (stage job.job h.streams node engine.claimed) =
      outer_at_rest job.job h.streams h.streams node engine.claimed is own claimed.all claimed.early at.good in
      become_by (Sets inbox) goes at (outer_count node.law h.streams node is ∙ claimed.all) (ap (λ (o : Outcome). o.fault) into ∙ at.good) (sym (ap (λ (o : Outcome). o.state) into))

  loop_become : (w : Pending) → has_ended engine ≡ false → h.node.law ≡ Loopback → Waited job number engine h w → HoldsWaits job h.streams number engine.claimed w → length (inputs_of h.streams h.node) ≡ ports_in w
      → ((port : ℕ) → port < length (inputs_of h.streams h.node) → StandsFor (port_queue w port) (slice_index_or (inputs_of h.streams h.node) port empty_prefix)) → IsEarly LoopRole w → HasBecome job h.streams number engine h.node
  loop_become (Sets inbox) goes is at holds ports came early = absurd (holds.0 (ap (λ (o : Option PlanNode). option_map (λ n. n.law) o) h.there ∙ ap Some is))
  loop_become (Loop held) goes is at holds ports came early =
      let node = h.node in
      let stands = loop_stands job number engine h h.streams (all_by_themselves (inputs_of h.streams node)) held holds ports came in
      let all = all_told engine.claimed held (main_of h.streams node) (loop_of h.streams node) stands early.0 in
      become_by (Loop held) goes at (loop_count node.law h.streams node is ∙ sym all) (loop_good node.law job.job h.streams node is) (loop_keeps node.law job.job h.streams node engine.claimed is)

  has_become : (intake : IntakeView) → IsIntakeOf job number intake → Agree engine intake → IsResting engine intake → HasCome intake (inputs_of h.streams h.node) → HasBecome job h.streams number engine h.node
  has_become intake i agree r came = elim (cases_Bool (has_ended engine)) [
    | inl ended ↦
        (let all = has_all job number engine h ended in
        record { count = all.counted; fault = h.fault ∙ ap (λ (o : Outcome). option_map (λ f. (let it : NodeFault = record { node = number; phase = f.phase; cause = f.cause } in it)) o.fault) all.all; state = ap (λ (o : Outcome). o.state) all.all })
    | inr goes ↦ elim r.claims [
      | inl ended ↦ absurd (false≢true (sym goes ∙ ended))
      | inr (empty, early) ↦
          (let at = waited job number engine h intake.waits goes empty r.raised in
          by_kind job number engine h h.streams (all_by_themselves (inputs_of h.streams h.node)) (HasBecome job h.streams number engine h.node) intake i agree early
          (λ is holds early_too. outer_become intake.waits goes is at holds came.ports came.stands early_too)
          (λ is holds early_too. loop_become intake.waits goes is at holds came.ports came.stands early_too))
    ]
  ]

pub rests_become : {laws : Laws} (job : LoggedJob laws) (number : ℕ) (node : PlanNode) (engine : EngineView) (intake : IntakeView) (solution : List (StreamPrefix Plain)) → Solves job solution → slice_get job.job.plan.nodes number ≡ Some node → LawfulEngine job (of_node number) engine
    → LawfulIntake job number intake → Agree engine intake → IsResting engine intake → HasCome intake (inputs_of solution node) → HasBecome job solution number engine node
unfolding LawfulEngine LawfulIntake
rests_become {laws} job number node engine intake solution solves there h i agree r came =
    of_these (λ ss m. HasCome intake (inputs_of ss m) → HasBecome job ss number engine m) job number node engine solution h solves there (has_become job number engine h intake i agree r) came

pub rests_count : {laws : Laws} (job : LoggedJob laws) (number : ℕ) (node : PlanNode) (engine : EngineView) (intake : IntakeView) (solution : List (StreamPrefix Plain)) → Solves job solution → slice_get job.job.plan.nodes number ≡ Some node → LawfulEngine job (of_node number) engine
    → LawfulIntake job number intake → Agree engine intake → IsResting engine intake → HasCome intake (inputs_of solution node) → engine.laid ≡ count_of job.job solution node
rests_count {laws} job number node engine intake solution solves there h i agree r came = (rests_become job number node engine intake solution solves there h i agree r came).count

pub rests_fault : {laws : Laws} (job : LoggedJob laws) (number : ℕ) (node : PlanNode) (engine : EngineView) (intake : IntakeView) (solution : List (StreamPrefix Plain)) → Solves job solution → slice_get job.job.plan.nodes number ≡ Some node → LawfulEngine job (of_node number) engine
    → LawfulIntake job number intake → Agree engine intake → IsResting engine intake → HasCome intake (inputs_of solution node) → engine.fault ≡ fault_of job.job solution (number, node)
rests_fault {laws} job number node engine intake solution solves there h i agree r came = (rests_become job number node engine intake solution solves there h i agree r came).fault
