-- A work that is performed keeps what a net stands for.
use Rattle.std.proofs.Common.{◌≡◌, ℕ, ◌<◌, ◌++◌, length, All, Some, slice_get, inl, inr, ap, sym, refl, subst, ◌∙◌, arith}
use Rattle.mg_calc.specs.Rules.{Laws}
use Rattle.mg_calc.specs.declared.event.Effect.{Effect}
use Rattle.mg_calc.specs.declared.event.Effect.TheVariants.{Did, Idle, OutOfMemory}
use Rattle.mg_node.specs.Views.{WorkView}
use Rattle.mg_node.specs.Job.{LoggedJob}
use Rattle.mg_node.specs.Ports.{port_queue}
use Rattle.mg_node.specs.Outputs.{laid_at}
use Rattle.mg_node.specs.Lawful.{LawfulWork}
use Rattle.mg_node.specs.Shelves.{IsOut, outcome_of, shelved}
use Rattle.mg_node.proofs.Lemmas.{grown_by_itself, performed_lawful, ran_outcome, shelved_back, shelved_lawful}
use Rattle.mg_sched.specs.Views.{WorkQueueView, NetView}
use Rattle.mg_sched.specs.StandsFor.{IsNetOf, StandsFor, IsRunning}
use Rattle.mg_sched.specs.Acts.{PerformedBy, Performs, NodePerforms}
use Rattle.mg_sched.proofs.Finding.{cell_at, found}
use Rattle.mg_sched.proofs.Middles.{all_middle}
use Rattle.mg_node.specs.Out.{ComesBack}
use Rattle.mg_sched.proofs.Works.{works_fewer}
use Rattle.mg_sched.proofs.Changed.{CellStep, cell_stands}
use Rattle.mg_sched.proofs.LimitsKnow.{cell_knows}
use Rattle.mg_sched.proofs.CellForms.{engine_and_work_queue, stays_so}
use Rattle.mg_sched.proofs.RelaxKeeps.{rest_stands}

done_stands : {laws : Laws} (job : LoggedJob laws) (node number : ℕ) (effect : Effect) (work_queue : WorkQueueView) (before now : NetView) → node < length before.plan.nodes → IsRunning before → StandsFor job before → slice_get before.work_queues node ≡ Some work_queue
    → (q : Performs laws node number effect work_queue before now) → PerformedBy laws effect node q.engine work_queue (q.front ++ q.back) q.work before now → StandsFor job now
unfolding StandsFor
done_stands {laws} job node number Did work_queue before now within running h on q d =
    let long = h.intakes in
    let intake = found before.intakes node (omega (arith, within, long)) in
    let cell = cell_at job before node q.engine intake.0 work_queue h running within q.at intake.1 on in
    let p = d.0 in
    let same = d.1.same in
    let engine_now = shelved q.engine (outcome_of p) in
    let work_queue_now : WorkQueueView = record work_queue { works = q.front ++ q.back } in
    let own = (all_middle (IsOut q.engine) q.front q.back q.work (subst (All (IsOut q.engine)) q.works cell.works.out)).1 in
    let lawful = (all_middle (LawfulWork job) q.front q.back q.work (subst (All (LawfulWork job)) q.works cell.works.lawful)).1 in
    let out : IsOut q.engine p.work = subst (IsOut q.engine) (sym same) (record { node_is = own.node_is; laid = own.laid; entry = own.entry; there = own.there; out = own.out; phase_is = own.phase_is }) in
    let back : ComesBack q.engine engine_now q.work.number = subst (ComesBack q.engine engine_now) (ap (λ (w : WorkView). w.number) same) (shelved_back q.engine (outcome_of p) out) in
    let step : CellStep job node q.engine engine_now intake.0 intake.0 work_queue_now = record {
      cell = record {
        lawful_engine = shelved_lawful job node q.engine (outcome_of p) out cell.lawful_engine (ran_outcome job p (outcome_of p) refl (performed_lawful job q.work p.work p.answer lawful d.1));
        lawful_intake = cell.lawful_intake;
        agree = cell.agree;
        works = works_fewer job q.engine engine_now work_queue q.front q.back q.work refl back q.works cell.works;
      };
      first = refl;
      outputs = λ output. grown_by_itself (laid_at q.engine output);
      gone = λ output. omega arith;
      ports = λ port. stays_so (port_queue intake.0.waits port);
    } in
    subst (λ (v : NetView). IsNetOf job v) (engine_and_work_queue before node engine_now intake.0 work_queue_now intake.1 ∙ sym d.2)
    (cell_stands job before node q.engine engine_now intake.0 intake.0 work_queue_now before.limits h running within q.at intake.1 step
    (cell_knows before node q.engine engine_now intake.0 work_queue_now within h.limits q.at intake.1 refl))
done_stands {laws} job node number Idle work_queue before now within running h on q d = absurd d
done_stands {laws} job node number OutOfMemory work_queue before now within running h on q d = subst (λ (v : NetView). IsNetOf job v) (sym d) h

pub perform_stands : {laws : Laws} (job : LoggedJob laws) (node number : ℕ) (effect : Effect) (before now : NetView) → node < length before.plan.nodes → IsRunning before → StandsFor job before → NodePerforms laws node number effect before now → StandsFor job now
perform_stands {laws} job node number effect before now within running h p = elim p.performed [
  | inl none ↦ rest_stands job effect before now h none.1
  | inr some ↦ done_stands job node number effect p.work_queue before now within running h p.on some some.performed
]
