-- An advance keeps what a net stands for.
use Rattle.std.proofs.Common.{ℕ, ◌<◌, length, sym, refl, subst, ◌∙◌, arith}
use Rattle.mg_calc.specs.Rules.{Laws}
use Rattle.mg_calc.specs.declared.event.Effect.{Effect}
use Rattle.mg_node.specs.Advances.{advanced}
use Rattle.mg_node.specs.Job.{LoggedJob}
use Rattle.mg_node.specs.Ports.{port_queue}
use Rattle.mg_node.proofs.Lemmas.{advance_grows, advance_lawful, advance_out, advance_set_up}
use Rattle.mg_sched.specs.Views.{NetView}
use Rattle.mg_sched.specs.StandsFor.{IsNetOf, StandsFor, IsRunning}
use Rattle.mg_sched.specs.Acts.{NodeAdvances}
use Rattle.mg_sched.proofs.Finding.{cell_at, found}
use Rattle.mg_sched.proofs.Works.{works_kept}
use Rattle.mg_sched.proofs.Changed.{CellStep, cell_stands}
use Rattle.mg_sched.proofs.LimitsKnow.{cell_knows}
use Rattle.mg_sched.proofs.CellForms.{only_engine, stays_so, gone_same}

pub advance_stands : {laws : Laws} (job : LoggedJob laws) (node : ℕ) (effect : Effect) (before now : NetView) → node < length before.plan.nodes → IsRunning before → StandsFor job before → NodeAdvances node effect before now → StandsFor job now
unfolding StandsFor
advance_stands {laws} job node effect before now within running h a =
    let long = h.work_queues in
    let work_queue = found before.work_queues node (omega (arith, within, long)) in
    let cell = cell_at job before node a.engine a.intake work_queue.0 h running within a.at a.to work_queue.1 in
    let engine_now = advanced a.engine a.intake.waits in
    let step : CellStep job node a.engine engine_now a.intake a.intake work_queue.0 = record {
      cell = record {
        lawful_engine = advance_lawful job node a.engine a.intake cell.lawful_engine cell.lawful_intake cell.agree;
        lawful_intake = cell.lawful_intake;
        agree = cell.agree;
        works = works_kept job a.engine engine_now work_queue.0 refl (advance_out a.engine engine_now a.intake.waits refl) cell.works;
      };
      first = refl;
      outputs = (advance_grows a.engine engine_now a.intake.waits refl).outputs;
      gone = λ output. gone_same engine_now.outputs a.engine.outputs output (advance_set_up a.engine engine_now a.intake.waits refl).given_up;
      ports = λ port. stays_so (port_queue a.intake.waits port);
    } in
    subst (λ (v : NetView). IsNetOf job v) (only_engine before node engine_now a.intake work_queue.0 before.limits a.to work_queue.1 ∙ sym a.now_is)
    (cell_stands job before node a.engine engine_now a.intake a.intake work_queue.0 before.limits h running within a.at a.to step
    (cell_knows before node a.engine engine_now a.intake work_queue.0 within h.limits a.at a.to refl))
