-- A net with other parts at a place. It stands for the job if these are lawful, and all other parts stay as they are.
use Rattle.std.proofs.Common.{◌≡◌, ℕ, ◌+◌, ◌-◌, ◌<◌, ◌≤◌, Bool, true, List, length, set, length-set, Some, slice_get, nat_lt, inl, inr, ap, sym, refl, subst, ◌∙◌, arith}
use Rattle.std.proofs.lemmas.Bool.{cases_eq, lt-ltb}
use Rattle.mg_stream.specs.Queue.{count_of}
use Rattle.mg_calc.specs.Rules.{Laws}
use Rattle.mg_calc.specs.declared.edge.Edge.{Edge}
use Rattle.mg_node.specs.Views.{IntakeView, EngineView}
use Rattle.mg_node.specs.Job.{LoggedJob}
use Rattle.mg_node.specs.Ports.{port_queue}
use Rattle.mg_node.specs.Outputs.{laid_at}
use Rattle.mg_node.specs.IntakeStanding.{HasGrown, Stays}
use Rattle.mg_node.proofs.Lemmas.{get_other, grown_by_itself, put_there}
use Rattle.mg_node.specs.Lawful.{LawfulIntake, Agree, AgreeBy}
use Rattle.mg_throttle.specs.Throttle.{QueueLimits}
use Rattle.mg_sched.specs.Views.{WorkQueueView, NetView}
use Rattle.mg_sched.specs.Places.{source_of}
use Rattle.mg_sched.specs.StandsFor.{IsCell, IsJoined, KnowsLimits, IsNetOf, IsRunning}

-- another cell at a node, and other limits
abbrev pub with_cell : NetView → ℕ → EngineView → IntakeView → WorkQueueView → QueueLimits → NetView
with_cell net node engine intake work_queue limits = record net { engines = set net.engines node engine; intakes = set net.intakes node intake; work_queues = set net.work_queues node work_queue; limits = limits }

-- another intake, and other limits
abbrev pub with_arrived : NetView → ℕ → IntakeView → QueueLimits → NetView
with_arrived net place intake limits = record net { intakes = set net.intakes place intake; limits = limits }

-- what has become of a cell. Its outputs only grow, and give up no packet. At each port as many packets came as before
pub record CellStep {laws : Laws} (job : LoggedJob laws) (node : ℕ) (engine engine_now : EngineView) (intake intake_now : IntakeView) (work_queue_now : WorkQueueView) : Type 0 where
  pub cell : IsCell job true node engine_now intake_now work_queue_now
  pub first : engine_now.first ≡ engine.first
  pub outputs : (output : ℕ) → HasGrown (laid_at engine output) (laid_at engine_now output)
  pub gone : (output : ℕ) → (laid_at engine_now output).gone ≤ (laid_at engine output).gone
  pub ports : (port : ℕ) → Stays (port_queue intake.waits port) (port_queue intake_now.waits port)

cell_at : {laws : Laws} (job : LoggedJob laws) (b : Bool) (k node : ℕ) (e x : EngineView) (i y : IntakeView) (d z : WorkQueueView) → b ≡ true → k ≡ node → e ≡ x → i ≡ y → d ≡ z → IsCell job true node x y z → IsCell job b k e i d
cell_at {laws} job b k node e x i y d z on at e_is i_is d_is cell =
    subst (λ (c : Bool). IsCell job c k e i d) (sym on)
    (subst (λ (n : ℕ). IsCell job true n e i d) (sym at)
    (subst (λ (v : EngineView). IsCell job true node v i d) (sym e_is)
    (subst (λ (v : IntakeView). IsCell job true node x v d) (sym i_is)
    (subst (λ (v : WorkQueueView). IsCell job true node x y v) (sym d_is) cell))))

-- an edge stays joined
joined_by : (g g_now : EngineView) (e : Edge) (i i_now : IntakeView) → g_now.first ≡ g.first → ((output : ℕ) → HasGrown (laid_at g output) (laid_at g_now output)) → ((output : ℕ) → (laid_at g_now output).gone ≤ (laid_at g output).gone)
    → Stays (port_queue i.waits e.port) (port_queue i_now.waits e.port) → IsJoined g e i → IsJoined g_now e i_now
joined_by g g_now e i i_now first outputs gone stays h =
    let there = e.stream - g.first in
    let grown = outputs there in
    let keeps = gone there in
    let came = h.came.count in
    let low = h.came.bound in
    let kept = h.kept in
    let count = stays.count in
    let bound = stays.bound in
    let more = grown.count in
    let higher = grown.bound in
    record {
      came = subst (λ (n : ℕ). HasGrown (port_queue i_now.waits e.port) (laid_at g_now (e.stream - n))) (sym first) (record { count = omega (arith, came, count, more); bound = omega (arith, low, bound, higher) });
      kept = subst (λ (n : ℕ). (laid_at g_now (e.stream - n)).gone ≤ count_of (port_queue i_now.waits e.port)) (sym first) (omega (arith, kept, count, keeps));
    }

-- what stood at a place
record OldEngine (engines : List EngineView) (place : ℕ) (now : EngineView) : Type 0 where
  pub old : EngineView
  pub at : slice_get engines place ≡ Some old
  pub first : now.first ≡ old.first
  pub outputs : (output : ℕ) → HasGrown (laid_at old output) (laid_at now output)
  pub gone : (output : ℕ) → (laid_at now output).gone ≤ (laid_at old output).gone

old_engine : (engines : List EngineView) (node place : ℕ) (engine engine_now now : EngineView) → slice_get engines node ≡ Some engine → engine_now.first ≡ engine.first → ((output : ℕ) → HasGrown (laid_at engine output) (laid_at engine_now output))
    → ((output : ℕ) → (laid_at engine_now output).gone ≤ (laid_at engine output).gone) → slice_get (set engines node engine_now) place ≡ Some now → OldEngine engines place now
old_engine engines node place engine engine_now now there first outputs gone at = elim (cases_eq place node) [
  | inl here ↦
      (let is : now ≡ engine_now = put_there engines node engine_now now (ap (slice_get (set engines node engine_now)) (sym here) ∙ at) in
      record {
        old = engine;
        at = ap (slice_get engines) here ∙ there;
        first = ap (λ (v : EngineView). v.first) is ∙ first;
        outputs = λ output. subst (λ (v : EngineView). HasGrown (laid_at engine output) (laid_at v output)) (sym is) (outputs output);
        gone = λ output. subst (λ (v : EngineView). (laid_at v output).gone ≤ (laid_at engine output).gone) (sym is) (gone output);
      })
  | inr other ↦ record { old = now; at = sym (get_other engines node place engine_now other) ∙ at; first = refl; outputs = λ output. grown_by_itself (laid_at now output); gone = λ output. omega arith }
]

record OldIntake (intakes : List IntakeView) (place port : ℕ) (now : IntakeView) : Type 0 where
  pub old : IntakeView
  pub at : slice_get intakes place ≡ Some old
  pub stays : Stays (port_queue old.waits port) (port_queue now.waits port)

old_intake : (intakes : List IntakeView) (node place port : ℕ) (intake intake_now now : IntakeView) → slice_get intakes node ≡ Some intake → ((p : ℕ) → Stays (port_queue intake.waits p) (port_queue intake_now.waits p))
    → slice_get (set intakes node intake_now) place ≡ Some now → OldIntake intakes place port now
old_intake intakes node place port intake intake_now now there stays at = elim (cases_eq place node) [
  | inl here ↦
      (let is : now ≡ intake_now = put_there intakes node intake_now now (ap (slice_get (set intakes node intake_now)) (sym here) ∙ at) in
      record {
        old = intake;
        at = ap (slice_get intakes) here ∙ there;
        stays = subst (λ (v : IntakeView). Stays (port_queue intake.waits port) (port_queue v.waits port)) (sym is) (stays port);
      })
  | inr other ↦ record { old = now; at = sym (get_other intakes node place intake_now other) ∙ at; stays = record { count = refl; bound = refl } }
]

pub cell_stands : {laws : Laws} (job : LoggedJob laws) (net : NetView) (node : ℕ) (engine engine_now : EngineView) (intake intake_now : IntakeView) (work_queue_now : WorkQueueView) (limits : QueueLimits) → IsNetOf job net → IsRunning net → node < length net.plan.nodes
    → slice_get net.engines node ≡ Some engine → slice_get net.intakes node ≡ Some intake → CellStep job node engine engine_now intake intake_now work_queue_now → KnowsLimits (with_cell net node engine_now intake_now work_queue_now limits)
    → IsNetOf job (with_cell net node engine_now intake_now work_queue_now limits)
cell_stands {laws} job net node engine engine_now intake intake_now work_queue_now limits h running within there there_in step knows =
    let begun : net.begun ≡ length net.plan.nodes = running in
    record {
      is_job = h.is_job;
      plan = h.plan;
      given = h.given;
      engines = length-set net.engines node engine_now ∙ h.engines;
      intakes = length-set net.intakes node intake_now ∙ h.intakes;
      work_queues = length-set net.work_queues node work_queue_now ∙ h.work_queues;
      cells = λ k e i d at_e at_i at_d. elim (cases_eq k node) [
        | inl here ↦
            cell_at job (nat_lt k net.begun) k node e engine_now i intake_now d work_queue_now (lt-ltb k net.begun (omega (arith, here, begun, within))) here
            (put_there net.engines node engine_now e (ap (slice_get (set net.engines node engine_now)) (sym here) ∙ at_e))
            (put_there net.intakes node intake_now i (ap (slice_get (set net.intakes node intake_now)) (sym here) ∙ at_i))
            (put_there net.work_queues node work_queue_now d (ap (slice_get (set net.work_queues node work_queue_now)) (sym here) ∙ at_d)) step.cell
        | inr other ↦
            h.cells k e i d (sym (get_other net.engines node k engine_now other) ∙ at_e) (sym (get_other net.intakes node k intake_now other) ∙ at_i) (sym (get_other net.work_queues node k work_queue_now other) ∙ at_d)
      ];
      inputs = λ input e at. h.inputs input e (sym (get_other net.engines node (length net.plan.nodes + input) engine_now (λ s. omega (arith, s, within))) ∙ at);
      collector = λ i at. h.collector i (sym (get_other net.intakes node (length net.plan.nodes) intake_now (λ s. omega (arith, s, within))) ∙ at);
      edges = λ e number place g i at_edge from at_g at_i.
          let old = old_engine net.engines node place engine engine_now g there step.first step.outputs step.gone at_g in
          let into = old_intake net.intakes node e.node e.port intake intake_now i there_in step.ports at_i in
          joined_by old.old g e into.old i old.first old.outputs old.gone into.stays (h.edges e number place old.old into.old at_edge from old.at into.at);
      limits = knows;
      spare = h.spare;
      kept = h.kept;
      begun = h.begun;
      not_wound = h.not_wound;
    }

pub arrival_stands : {laws : Laws} (job : LoggedJob laws) (net : NetView) (place : ℕ) (intake intake_now : IntakeView) (limits : QueueLimits) → IsNetOf job net → slice_get net.intakes place ≡ Some intake → LawfulIntake job place intake_now
    → intake_now.claimed ≡ intake.claimed
    → ((e : Edge) (number from : ℕ) (g : EngineView) → slice_get net.plan.edges number ≡ Some e → source_of net.plan e ≡ Some from → slice_get net.engines from ≡ Some g → e.node ≡ place → IsJoined g e intake → IsJoined g e intake_now)
    → KnowsLimits (with_arrived net place intake_now limits) → IsNetOf job (with_arrived net place intake_now limits)
arrival_stands {laws} job net place intake intake_now limits h there lawful claimed joined knows =
    let own : (k : ℕ) (i : IntakeView) → k ≡ place → slice_get (set net.intakes place intake_now) k ≡ Some i → i ≡ intake_now = λ k i here at.
    put_there net.intakes place intake_now i (ap (slice_get (set net.intakes place intake_now)) (sym here) ∙ at) in
    let still : (k : ℕ) (i : IntakeView) → k ≡ place → i ≡ intake_now → LawfulIntake job k i = λ k i here is.
    subst (λ (v : IntakeView). LawfulIntake job k v) (sym is) (subst (λ (n : ℕ). LawfulIntake job n intake_now) (sym here) lawful) in
    record {
      is_job = h.is_job;
      plan = h.plan;
      given = h.given;
      engines = h.engines;
      intakes = length-set net.intakes place intake_now ∙ h.intakes;
      work_queues = h.work_queues;
      cells = λ k e i d at_e at_i at_d. elim (cases_eq k place) [
        | inl here ↦
            (let is = own k i here at_i in
            let cell = h.cells k e intake d at_e (ap (slice_get net.intakes) here ∙ there) at_d in
            record {
              lawful_engine = cell.lawful_engine;
              lawful_intake = still k i here is;
              agree = subst (λ (v : IntakeView). Agree e v) (sym is) (subst (λ (n : ℕ). AgreeBy e.role e.claimed n) (sym claimed) cell.agree);
              works = cell.works;
            })
        | inr other ↦ h.cells k e i d at_e (sym (get_other net.intakes place k intake_now other) ∙ at_i) at_d
      ];
      inputs = h.inputs;
      collector = λ i at. elim (cases_eq (length net.plan.nodes) place) [
        | inl here ↦ still (length net.plan.nodes) i here (own (length net.plan.nodes) i here at)
        | inr other ↦ h.collector i (sym (get_other net.intakes place (length net.plan.nodes) intake_now other) ∙ at)
      ];
      edges = λ e number from_place g i at_edge from at_g at_i. elim (cases_eq e.node place) [
        | inl here ↦
            (let is = own e.node i here at_i in
            subst (λ (v : IntakeView). IsJoined g e v) (sym is)
            (joined e number from_place g at_edge from at_g here (h.edges e number from_place g intake at_edge from at_g (ap (slice_get net.intakes) here ∙ there))))
        | inr other ↦ h.edges e number from_place g i at_edge from at_g (sym (get_other net.intakes place e.node intake_now other) ∙ at_i)
      ];
      limits = knows;
      spare = h.spare;
      kept = h.kept;
      begun = h.begun;
      not_wound = h.not_wound;
    }
