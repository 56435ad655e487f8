-- A work that is performed leaves less to do.
use Rattle.std.proofs.Common.{◌≡◌, ℕ, ◌-◌, ◌<◌, ◌≤◌, length, All, Some, slice_get, inl, inr, sym, subst, arith}
use Rattle.mg_calc.specs.Rules.{Laws}
use Rattle.mg_calc.specs.declared.event.Effect.{Effect}
use Rattle.mg_calc.specs.declared.event.Effect.TheVariants.{Did, Idle, OutOfMemory}
use Rattle.mg_node.specs.Views.{PerformedView, EngineView}
use Rattle.mg_node.specs.Job.{LoggedJob}
use Rattle.mg_node.specs.Lawful.{of_node, LawfulEngine}
use Rattle.mg_node.specs.Shelves.{IsOut, back, outcome_of, shelved}
use Rattle.mg_sched.specs.Views.{WorkQueueView, NetView}
use Rattle.mg_sched.specs.Places.{with_engine}
use Rattle.mg_sched.specs.StandsFor.{StandsFor, IsRunning}
use Rattle.mg_sched.specs.Acts.{Performs, NodePerforms}
use Rattle.mg_sched.specs.Code.Left.{entry_left, engine_left, left_in}
use Rattle.mg_sched.proofs.Finding.{cell_at, found}
use Rattle.mg_sched.proofs.Middles.{all_middle}
use Rattle.mg_sched.proofs.LeftParts.{engine_put, put_less, not_idle}
use Rattle.mg_sched.proofs.LeftEngines.{entry_less, out_left}

-- a work stands in its window again, as performed
shelved_less : {laws : Laws} (job : LoggedJob laws) (node : ℕ) (engine : EngineView) (p : PerformedView) (out : IsOut engine p.work) → LawfulEngine job (of_node node) engine → engine_left (shelved engine (outcome_of p)) < engine_left engine
shelved_less {laws} job node engine p out h =
    let two = out_left job node engine p.work out h in
    let less : entry_left (back (outcome_of p)) < entry_left out.entry = omega (arith, two) in
    entry_less engine (p.work.number - engine.laid) out.entry (back (outcome_of p)) out.there (sym out.phase_is) less

done_less : {laws : Laws} (job : LoggedJob laws) (node number : ℕ) (work_queue : WorkQueueView) (before now : NetView) → node < length before.plan.nodes → IsRunning before → StandsFor job before → slice_get before.work_queues node ≡ Some work_queue → Performs laws node number Did work_queue before now → left_in now < left_in before
unfolding StandsFor
done_less {laws} job node number work_queue before now within running h on q =
    let long = h.intakes in
    let intake = found before.intakes node (omega (arith, within, long)) in
    let cell = cell_at job before node q.engine intake.0 work_queue h running within q.at intake.1 on in
    let p = q.performed.0 in
    let same = q.performed.1.same in
    let engine_now = shelved q.engine (outcome_of p) in
    let own = (all_middle (IsOut q.engine) q.front q.back q.work (subst (All (IsOut q.engine)) q.works cell.works.out)).1 in
    let out : IsOut q.engine p.work = subst (IsOut q.engine) (sym same) (record { node_is = own.node_is; laid = own.laid; entry = own.entry; there = own.there; out = own.out; phase_is = own.phase_is }) in
    subst (λ (v : NetView). left_in v < left_in before) (sym q.performed.2)
    (put_less (left_in (with_engine before node engine_now)) (left_in before) (engine_left engine_now) (engine_left q.engine) (engine_put before node q.engine engine_now q.at) (shelved_less job node q.engine p out cell.lawful_engine))

pub perform_less : {laws : Laws} (job : LoggedJob laws) (node number : ℕ) (before now : NetView) → node < length before.plan.nodes → IsRunning before → StandsFor job before → NodePerforms laws node number Did before now → left_in now < left_in before
perform_less {laws} job node number before now within running h p = elim p.performed [
  | inl none ↦ absurd (not_idle none.1.idle)
  | inr some ↦ done_less job node number p.work_queue before now within running h p.on some
]

-- and what did nothing leaves as much
pub same_left : (before now : NetView) → now ≡ before → left_in now ≤ left_in before
same_left before now is = subst (λ (v : NetView). left_in v ≤ left_in before) (sym is) (omega arith)

pub less_left : (now before : ℕ) → now < before → now ≤ before
less_left now before less = omega (arith, less)

performs_no_more : {laws : Laws} (job : LoggedJob laws) (node number : ℕ) (effect : Effect) (work_queue : WorkQueueView) (before now : NetView) → node < length before.plan.nodes → IsRunning before → StandsFor job before → slice_get before.work_queues node ≡ Some work_queue
    → Performs laws node number effect work_queue before now → left_in now ≤ left_in before
performs_no_more {laws} job node number Did work_queue before now within running h on q = less_left (left_in now) (left_in before) (done_less job node number work_queue before now within running h on q)
performs_no_more {laws} job node number Idle work_queue before now within running h on q = absurd q.performed
performs_no_more {laws} job node number OutOfMemory work_queue before now within running h on q = same_left before now q.performed

pub perform_no_more : {laws : Laws} (job : LoggedJob laws) (node number : ℕ) (effect : Effect) (before now : NetView) → node < length before.plan.nodes → IsRunning before → StandsFor job before → NodePerforms laws node number effect before now → left_in now ≤ left_in before
perform_no_more {laws} job node number effect before now within running h p = elim p.performed [
  | inl none ↦ same_left before now none.1.same
  | inr some ↦ performs_no_more job node number effect p.work_queue before now within running h p.on some
]
