-- A claim keeps what a net stands for.
use Rattle.std.proofs.lemmas.Grind.{length_at_push}
use Rattle.std.proofs.Common.{◌≡◌, ℕ, ◌<◌, true, List, [], ◌∷◌, ◌++◌, length, inl, inr, ap, sym, refl, subst, ◌∙◌, arith}
use Rattle.mg_calc.specs.Rules.{Laws}
use Rattle.mg_calc.specs.declared.event.Effect.{Effect}
use Rattle.mg_calc.specs.declared.event.Effect.TheVariants.{Did, Idle, OutOfMemory}
use Rattle.mg_calc.specs.declared.plan.Plan.{Plan}
use Rattle.mg_calc.specs.Plan.{IsValid}
use Rattle.mg_node.specs.declared.claimed.Claimed.{Claimed}
use Rattle.mg_node.specs.declared.claimed.Claimed.TheVariants.{Work, Answered, NotReady, InFlightFull, Draining, Ended, OutOfMemory as NoMemory}
use Rattle.mg_node.specs.Views.{IntakeView, WorkView, EngineView}
use Rattle.mg_node.specs.Job.{LoggedJob, ports_of}
use Rattle.mg_node.specs.Lawful.{AreCell}
use Rattle.mg_node.specs.Claims.{has_ended, Claims}
use Rattle.mg_node.proofs.Lemmas.{claim_grows, claim_lawful, claim_puts_out, claim_set_up, claim_stays, intake_ports}
use Rattle.mg_sched.specs.Views.{WorkQueueView, NetView}
use Rattle.mg_sched.specs.StandsFor.{IsCell, HasWorks, IsNetOf, StandsFor, IsRunning}
use Rattle.mg_sched.specs.Acts.{TakesWork, ClaimsBy, ClaimsNext, NodeClaims as ClaimedAt}
use Rattle.mg_sched.proofs.Finding.{cell_at, found}
use Rattle.mg_sched.proofs.PlanEdges.{ports_of_node}
use Rattle.mg_node.specs.Out.{GoesOut, KeepsOut}
use Rattle.mg_sched.proofs.WorkQueueRoom.{works_fit, window_fits}
use Rattle.mg_sched.proofs.Works.{works_kept, works_more}
use Rattle.mg_sched.proofs.Changed.{CellStep, cell_stands}
use Rattle.mg_sched.proofs.LimitsKnow.{claim_knows}
use Rattle.mg_sched.proofs.CellForms.{gone_same}
use Rattle.mg_sched.proofs.RelaxKeeps.{rest_stands}

-- a claim ends no node
claim_ended : (result : Claimed ℕ) (engine engine_now : EngineView) (intake intake_now : IntakeView) → Claims {C = ℕ} result engine engine_now intake intake_now → has_ended engine_now ≡ has_ended engine
claim_ended (Work work) engine engine_now intake intake_now c = elim c [
  | inl unrun ↦ ap has_ended unrun.1.now
  | inr further ↦ elim further.1 [
    | inl called ↦ ap has_ended called.0.hands.now
    | inr other ↦ elim other [
      | inl closes ↦ ap has_ended closes.0.hands.now
      | inr t ↦ ap has_ended t.hands.now
    ]
  ]
]
claim_ended Answered engine engine_now intake intake_now c = ap has_ended c.1.now
claim_ended NotReady engine engine_now intake intake_now c = ap has_ended c.2.same_engine
claim_ended InFlightFull engine engine_now intake intake_now c = ap has_ended c.3.same_engine
claim_ended Draining engine engine_now intake intake_now c = ap has_ended c.3.same_engine
claim_ended Ended engine engine_now intake intake_now c = ap has_ended c.1.same_engine
claim_ended NoMemory engine engine_now intake intake_now c = ap has_ended c.2.same_engine

-- a cell that claims
record ClaimStep {laws : Laws} (job : LoggedJob laws) (node : ℕ) (engine engine_now : EngineView) (intake intake_now : IntakeView) (work_queue_now : WorkQueueView) : Type 0 where
  pub step : CellStep job node engine engine_now intake intake_now work_queue_now
  pub ended : has_ended engine_now ≡ has_ended engine

are_cell : {laws : Laws} (job : LoggedJob laws) (node : ℕ) (engine : EngineView) (intake : IntakeView) (work_queue : WorkQueueView) → IsCell job true node engine intake work_queue → AreCell laws engine intake
are_cell {laws} job node engine intake work_queue cell = record { job = job; number = node; lawful_engine = cell.lawful_engine; lawful_intake = cell.lawful_intake; agree = cell.agree }

claim_step : {laws : Laws} (job : LoggedJob laws) (node : ℕ) (result : Claimed ℕ) (engine engine_now : EngineView) (intake intake_now : IntakeView) (work_queue work_queue_now : WorkQueueView) → IsCell job true node engine intake work_queue
    → Claims {C = ℕ} result engine engine_now intake intake_now → HasWorks job engine_now work_queue_now → ClaimStep job node engine engine_now intake intake_now work_queue_now
claim_step {laws} job node result engine engine_now intake intake_now work_queue work_queue_now cell claims works =
    let lawful = claim_lawful {C = ℕ} job node result engine engine_now intake intake_now cell.lawful_engine cell.lawful_intake cell.agree claims in
    let grows = claim_grows {C = ℕ} result engine engine_now intake intake_now (are_cell job node engine intake work_queue cell) claims in
    let s = claim_set_up {X = ℕ} result engine engine_now intake intake_now claims in
    record {
      step = record {
        cell = record { lawful_engine = lawful.lawful_engine; lawful_intake = lawful.lawful_intake; agree = lawful.agree; works = works };
        first = s.first;
        outputs = grows.engine_grows.outputs;
        gone = λ output. gone_same engine_now.outputs engine.outputs output s.given_up;
        ports = claim_stays {X = ℕ} result engine engine_now intake intake_now claims;
      };
      ended = claim_ended result engine engine_now intake intake_now claims;
    }

-- if no work is handed out
kept_step : {laws : Laws} (job : LoggedJob laws) (node : ℕ) (result : Claimed ℕ) (engine engine_now : EngineView) (intake intake_now : IntakeView) (work_queue work_queue_now : WorkQueueView) → IsCell job true node engine intake work_queue
    → Claims {C = ℕ} result engine engine_now intake intake_now → KeepsOut engine engine_now → work_queue_now ≡ work_queue → ClaimStep job node engine engine_now intake intake_now work_queue_now
kept_step {laws} job node result engine engine_now intake intake_now work_queue work_queue_now cell claims kept work_queue_is =
    let s = claim_set_up {X = ℕ} result engine engine_now intake intake_now claims in
    subst (λ (d : WorkQueueView). ClaimStep job node engine engine_now intake intake_now d) (sym work_queue_is)
    (claim_step job node result engine engine_now intake intake_now work_queue work_queue cell claims (works_kept job engine engine_now work_queue s.in_flight kept cell.works))

-- if a work is handed out
work_step : {laws : Laws} (job : LoggedJob laws) (node : ℕ) (engine engine_now : EngineView) (intake intake_now : IntakeView) (work_queue work_queue_now : WorkQueueView) → IsCell job true node engine intake work_queue → TakesWork engine engine_now intake intake_now work_queue work_queue_now
    → ClaimStep job node engine engine_now intake intake_now work_queue_now
work_step {laws} job node engine engine_now intake intake_now work_queue work_queue_now cell t =
    let work = t.work in
    let result : Claimed ℕ = Work work in
    let lawful = claim_lawful {C = ℕ} job node result engine engine_now intake intake_now cell.lawful_engine cell.lawful_intake cell.agree t.claims in
    let goes : GoesOut engine engine_now work = claim_puts_out {X = ℕ} result engine engine_now intake intake_now (are_cell job node engine intake work_queue cell) t.claims in
    let s = claim_set_up {X = ℕ} result engine engine_now intake intake_now t.claims in
    let work_queue_more : WorkQueueView = record work_queue { works = work_queue.works ++ work ∷ [] } in
    subst (λ (d : WorkQueueView). ClaimStep job node engine engine_now intake intake_now d) (sym t.on_work_queue)
    (claim_step job node result engine engine_now intake intake_now work_queue work_queue_more cell t.claims (works_more job engine engine_now work_queue work s.in_flight goes lawful.work cell.works))

claims_step : {laws : Laws} (job : LoggedJob laws) (node : ℕ) (effect : Effect) (engine engine_now : EngineView) (intake intake_now : IntakeView) (work_queue work_queue_now : WorkQueueView) → IsCell job true node engine intake work_queue
    → ClaimsBy effect engine engine_now intake intake_now work_queue work_queue_now → ClaimStep job node engine engine_now intake intake_now work_queue_now
claims_step {laws} job node Did engine engine_now intake intake_now work_queue work_queue_now cell (inl t) = work_step job node engine engine_now intake intake_now work_queue work_queue_now cell t
claims_step {laws} job node Did engine engine_now intake intake_now work_queue work_queue_now cell (inr a) =
    kept_step job node Answered engine engine_now intake intake_now work_queue work_queue_now cell a.0
    (claim_puts_out {X = ℕ} Answered engine engine_now intake intake_now (are_cell job node engine intake work_queue cell) a.0) a.1
claims_step {laws} job node Idle engine engine_now intake intake_now work_queue work_queue_now cell c =
    let is = are_cell job node engine intake work_queue cell in
    elim c.0 [
      | inl early ↦ kept_step job node NotReady engine engine_now intake intake_now work_queue work_queue_now cell early (claim_puts_out {X = ℕ} NotReady engine engine_now intake intake_now is early) c.1
      | inr (inl full) ↦ kept_step job node InFlightFull engine engine_now intake intake_now work_queue work_queue_now cell full (claim_puts_out {X = ℕ} InFlightFull engine engine_now intake intake_now is full) c.1
      | inr (inr (inl draining)) ↦ kept_step job node Draining engine engine_now intake intake_now work_queue work_queue_now cell draining (claim_puts_out {X = ℕ} Draining engine engine_now intake intake_now is draining) c.1
      | inr (inr (inr ended)) ↦ kept_step job node Ended engine engine_now intake intake_now work_queue work_queue_now cell ended (claim_puts_out {X = ℕ} Ended engine engine_now intake intake_now is ended) c.1
    ]
claims_step {laws} job node OutOfMemory engine engine_now intake intake_now work_queue work_queue_now cell c =
    kept_step job node NoMemory engine engine_now intake intake_now work_queue work_queue_now cell c.0 (claim_puts_out {X = ℕ} NoMemory engine engine_now intake intake_now (are_cell job node engine intake work_queue cell) c.0) c.1

next_stands : {laws : Laws} (job : LoggedJob laws) (node : ℕ) (effect : Effect) (before now : NetView) → node < length before.plan.nodes → IsRunning before → StandsFor job before → ClaimsNext node effect before now → StandsFor job now
unfolding StandsFor
next_stands {laws} job node effect before now within running h c =
    let cell = cell_at job before node c.engine c.intake c.work_queue h running within c.at c.to c.on in
    let s = claims_step job node effect c.engine c.engine_now c.intake c.intake_now c.work_queue c.work_queue_now cell c.claims in
    let n = found before.plan.nodes node within in
    let valid : IsValid before.plan = subst IsValid (sym h.plan) h.is_job.plan in
    let ports = intake_ports job node c.intake_now s.step.cell.lawful_intake ∙ ap (λ (p : Plan). length (ports_of p node)) (sym h.plan) ∙ ap (λ (xs : List ℕ). length xs) (ports_of_node before.plan node n.0 n.1) in
    subst (λ (v : NetView). IsNetOf job v) (sym c.now_is)
    (cell_stands job before node c.engine c.engine_now c.intake c.intake_now c.work_queue_now _ h running within c.at c.to s.step
    (claim_knows before node n.0 c.engine c.engine_now c.intake_now c.work_queue_now valid h.limits n.1 c.at s.ended ports))

pub claim_stands : {laws : Laws} (job : LoggedJob laws) (node : ℕ) (effect : Effect) (before now : NetView) → node < length before.plan.nodes → IsRunning before → StandsFor job before → ClaimedAt node effect before now → StandsFor job now
claim_stands {laws} job node effect before now within running h c = elim c [
  | inl held ↦ rest_stands job effect before now h held.1
  | inr free ↦ next_stands job node effect before now within running h free.1
]

-- A work that is handed out finds its work queue with room for it: no more works lie there than the window has entries.
pub room_left : {laws : Laws} (job : LoggedJob laws) (node : ℕ) (work : WorkView) (engine engine_now : EngineView) (intake intake_now : IntakeView) (work_queue : WorkQueueView) → IsCell job true node engine intake work_queue
    → Claims {C = ℕ} (Work work) engine engine_now intake intake_now → length work_queue.works < work_queue.room
room_left {laws} job node work engine engine_now intake intake_now work_queue cell claims =
    let more : WorkQueueView = record work_queue { works = work_queue.works ++ work ∷ [] } in
    let step = (work_step job node engine engine_now intake intake_now work_queue more cell (record { work = work; claims = claims; on_work_queue = refl })).step in
    let fit = works_fit job engine_now more step.cell.works in
    let long = (length_at_push work_queue.works work).1 in
    let fits = window_fits job node engine_now step.cell.lawful_engine in
    let room = step.cell.works.room in
    omega (arith, fit, long, fits, room)
