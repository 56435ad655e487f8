-- A commit keeps what a net stands for.
use Rattle.std.proofs.Common.{◌≡◌, ℕ, ◌<◌, length, Option, Some, None, Result, Ok, slice_get, ap, sym, refl, subst, ◌∙◌, arith}
use Rattle.mg_calc.specs.Rules.{Laws}
use Rattle.mg_calc.specs.declared.event.Effect.{Effect}
use Rattle.mg_calc.specs.declared.event.Effect.TheVariants.{Did, Idle, OutOfMemory}
use Rattle.mg_node.specs.declared.role.Role.{Role}
use Rattle.mg_node.specs.Views.{PerformedView, EngineView}
use Rattle.mg_node.specs.Job.{LoggedJob}
use Rattle.mg_node.specs.Ports.{port_queue}
use Rattle.mg_node.specs.Lawful.{AgreeBy}
use Rattle.mg_node.specs.Commits.{SomeJobHasEngine}
use Rattle.mg_node.specs.Shelves.{outcome_of, shelf_at}
use Rattle.mg_node.specs.Standing.{EngineGrows}
use Rattle.mg_node.proofs.Lemmas.{commit_grows, commit_lawful, commits_back, commits_set_up, engine_further, ran_outcome, unshelved_lawful, unshelved_out, unshelving_grows, unshelving_set_up}
use Rattle.mg_sched.specs.Views.{NetView}
use Rattle.mg_sched.specs.StandsFor.{IsNetOf, StandsFor, IsRunning}
use Rattle.mg_sched.specs.Acts.{CommitsTo, CommittedAt, NodeCommits, stopped_by}
use Rattle.mg_sched.proofs.Finding.{cell_at, found}
use Rattle.mg_sched.proofs.Works.{works_through}
use Rattle.mg_sched.proofs.Changed.{CellStep, cell_stands}
use Rattle.mg_sched.proofs.LimitsKnow.{stopped_knows}
use Rattle.mg_sched.proofs.CellForms.{only_engine, stays_so, gone_same}
use Rattle.mg_sched.proofs.RelaxKeeps.{rest_stands}

laid_stands : {laws : Laws} (job : LoggedJob laws) (node number : ℕ) (engine : EngineView) (p : PerformedView) (before now : NetView) → node < length before.plan.nodes → IsRunning before → StandsFor job before → slice_get before.engines node ≡ Some engine
    → shelf_at engine number ≡ Some p → CommitsTo node number engine p before now → StandsFor job now
unfolding StandsFor
laid_stands {laws} job node number engine p before now within running h at is c =
    let long = h.work_queues in
    let more = h.intakes in
    let work_queue = found before.work_queues node (omega (arith, within, long)) in
    let intake = found before.intakes node (omega (arith, within, more)) in
    let cell = cell_at job before node engine intake.0 work_queue.0 h running within at intake.1 work_queue.1 in
    let taken = unshelved_lawful job node engine c.taken number p is c.takes cell.lawful_engine in
    let goes = unshelved_out job node engine c.taken number p cell.lawful_engine is c.takes in
    let outcome = outcome_of p in
    let some : SomeJobHasEngine laws c.taken = record { job = job; number = node; lawful = taken.0 } in
    let back = commits_back outcome c.laid c.taken c.engine_now goes.out some c.commits in
    let result : Result ℕ ℕ = Ok c.laid in
    let grows : EngineGrows engine c.engine_now = engine_further engine c.taken c.engine_now (unshelving_grows (Some p) engine c.taken number c.takes)
    (commit_grows {E = ℕ} outcome result c.taken c.engine_now some c.commits tt) in
    let one = unshelving_set_up (Some p) engine c.taken number c.takes in
    let two = commits_set_up outcome c.laid c.taken c.engine_now c.commits in
    let claimed : c.engine_now.claimed ≡ engine.claimed = ap (λ (v : EngineView). v.claimed) c.commits.others ∙ ap (λ (v : EngineView). v.claimed) c.takes in
    let step : CellStep job node engine c.engine_now intake.0 intake.0 work_queue.0 = record {
      cell = record {
        lawful_engine = commit_lawful job node outcome c.laid c.taken c.engine_now goes.out taken.0 (ran_outcome job p outcome refl taken.1) c.commits;
        lawful_intake = cell.lawful_intake;
        agree = subst (λ (r : Role). AgreeBy r c.engine_now.claimed intake.0.claimed) (sym (two.role ∙ one.role)) (subst (λ (n : ℕ). AgreeBy engine.role n intake.0.claimed) (sym claimed) cell.agree);
        works = works_through job engine c.taken c.engine_now work_queue.0 p.work (two.in_flight ∙ one.in_flight) goes back cell.works;
      };
      first = two.first ∙ one.first;
      outputs = grows.outputs;
      gone = λ output. gone_same c.engine_now.outputs engine.outputs output (two.given_up ∙ one.given_up);
      ports = λ port. stays_so (port_queue intake.0.waits port);
    } in
    let limits = stopped_by node c.engine_now before.limits in
    subst (λ (v : NetView). IsNetOf job v) (only_engine before node c.engine_now intake.0 work_queue.0 limits intake.1 work_queue.1 ∙ sym c.now_is)
    (cell_stands job before node engine c.engine_now intake.0 intake.0 work_queue.0 limits h running within at intake.1 step
    (stopped_knows before node engine c.engine_now intake.0 work_queue.0 within h.limits at intake.1 grows.ended))

taken_stands : {laws : Laws} (job : LoggedJob laws) (node number : ℕ) (r : Option PerformedView) (effect : Effect) (engine : EngineView) (before now : NetView) → node < length before.plan.nodes → IsRunning before → StandsFor job before → slice_get before.engines node ≡ Some engine
    → shelf_at engine number ≡ r → CommittedAt node number r effect engine before now → StandsFor job now
taken_stands {laws} job node number None effect engine before now within running h at is c = rest_stands job effect before now h c
taken_stands {laws} job node number (Some p) Did engine before now within running h at is c = laid_stands job node number engine p before now within running h at is c
taken_stands {laws} job node number (Some p) Idle engine before now within running h at is c = absurd c
taken_stands {laws} job node number (Some p) OutOfMemory engine before now within running h at is c = subst (λ (v : NetView). StandsFor job v) (sym c) h

pub commit_stands : {laws : Laws} (job : LoggedJob laws) (node number : ℕ) (effect : Effect) (before now : NetView) → node < length before.plan.nodes → IsRunning before → StandsFor job before → NodeCommits node number effect before now → StandsFor job now
commit_stands {laws} job node number effect before now within running h c = taken_stands job node number (shelf_at c.engine number) effect c.engine before now within running h c.at refl c.committed
