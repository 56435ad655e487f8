-- What runs lead to.
use Rattle.std.proofs.Common.{◌≡◌, ◌≢◌, ◌<◌, ◌≤◌, List, [], ◌∷◌, ◌++◌, map, refl, sym, ap, subst, arith}
use Rattle.mg_value.specs.Payload.{Plain}
use Rattle.mg_settled.specs.Prefix.{StreamPrefix}
use Rattle.mg_settled.specs.Ends.{end_of}
use Rattle.mg_calc.specs.Rules.{Laws}
use Rattle.mg_calc.specs.declared.event.Event.{Event}
use Rattle.mg_calc.specs.declared.event.Effect.TheVariants.{Did}
use Rattle.mg_calc.specs.declared.inputs.Inputs.{Inputs}
use Rattle.mg_calc.specs.declared.plan.Plan.{Plan}
use Rattle.mg_calc.specs.Told.{BoxTold}
use Rattle.mg_calc.specs.Meaning.{counts, faults}
use Rattle.mg_node.specs.Job.{LoggedJob, Solves}
use Rattle.mg_sched.specs.Views.{NetView}
use Rattle.mg_sched.specs.StandsFor.{StandsFor, IsRunning}
use Rattle.mg_sched.specs.Acts.{IsEventOf, Acts}
use Rattle.mg_sched.specs.Made.{job_of}
use Rattle.mg_sched.specs.Reports.{report_of}
use Rattle.mg_sched.specs.Sweeps.{Becomes, itself}
use Rattle.mg_sched.specs.Runs.{IsRun, IsRunAtRest}
use Rattle.mg_sched.specs.Code.Left.{left_in}
use Rattle.mg_sched.proofs.Becoming.{becomes_trans, becomes_one, becomes_runs, becomes_stands}
use Rattle.mg_sched.proofs.ActsRun.{acts_run}
use Rattle.mg_sched.proofs.ActsStand.{acts_stand}
use Rattle.mg_sched.proofs.LeftIn.{acts_less, becomes_no_more}
use Rattle.mg_sched.proofs.RestingReports.{rests_with_sets, rests_with_all_faults, rests_with_ends}

pub run_one : (laws : Laws) (event : Event) (before now : NetView) → IsEventOf before event → Acts laws event Did before now → IsRun laws (event ∷ []) before now
run_one laws event before now of acts = (now, of, acts, refl)

pub run_on : (laws : Laws) (events more : List Event) (before between now : NetView) → IsRun laws events before between → IsRun laws more between now → IsRun laws (events ++ more) before now
run_on laws [] more before between now is further = subst (λ (net : NetView). IsRun laws more net now) is further
run_on laws (event ∷ events) more before between now (next, of, acts, run) further = (next, of, acts, run_on laws events more next between now run further)

pub run_becomes : {laws : Laws} (events : List Event) (before now : NetView) → IsRun laws events before now → Becomes laws before now
run_becomes {laws} [] before now is = subst (λ (net : NetView). Becomes laws before net) (sym is) itself
run_becomes {laws} (event ∷ events) before now (next, of, acts, run) =
    becomes_trans before next now (becomes_one event Did before next of acts) (run_becomes events next now run)

pub run_runs : (laws : Laws) (events : List Event) (before now : NetView) → IsRun laws events before now → IsRunning before → IsRunning now
run_runs laws events before now run running = becomes_runs before now running (run_becomes events before now run)

pub run_stands : {laws : Laws} (job : LoggedJob laws) (events : List Event) (before now : NetView) → IsRun laws events before now → IsRunning before → StandsFor job before → StandsFor job now
run_stands {laws} job events before now run running stands = becomes_stands job before now running stands (run_becomes events before now run)

-- each event leaves less to do
pub run_less : {laws : Laws} (job : LoggedJob laws) (event : Event) (events : List Event) (before now : NetView) → IsRun laws (event ∷ events) before now → IsRunning before → StandsFor job before → left_in now < left_in before
run_less {laws} job event events before now (next, of, acts, run) running stands =
    let first : left_in next < left_in before = acts_less job event before next of running stands acts in
    let there : IsRunning next = acts_run laws event Did before next running acts in
    let rest : left_in now ≤ left_in next = becomes_no_more next now there (record { job = job; stands = acts_stand job event Did before next of running stands acts }) (run_becomes events next now run) in
    omega (arith, first, rest)

pub run_moves : {laws : Laws} (job : LoggedJob laws) (events : List Event) (before now : NetView) → IsRun laws events before now → IsRunning before → StandsFor job before → events ≢ [] → now ≢ before
run_moves {laws} job [] before now run running stands some = absurd (some refl)
run_moves {laws} job (event ∷ events) before now run running stands some = λ same.
    let fewer : left_in now < left_in before = run_less job event events before now run running stands in
    let equal = ap left_in same in
    absurd (omega (arith, fewer, equal))

-- a run at rest

rested_stands : {laws : Laws} (plan : Plan) (inputs : Inputs) (boxes : List BoxTold) (events : List Event) (run : IsRunAtRest laws plan inputs boxes events) → StandsFor (job_of laws plan inputs boxes) run.rested
rested_stands {laws} plan inputs boxes events run = run_stands (job_of laws plan inputs boxes) events run.begun run.rested run.run run.begins.running run.begins.stands

rested_runs : {laws : Laws} (plan : Plan) (inputs : Inputs) (boxes : List BoxTold) (events : List Event) (run : IsRunAtRest laws plan inputs boxes events) → IsRunning run.rested
rested_runs {laws} plan inputs boxes events run = run_runs laws events run.begun run.rested run.run run.begins.running

pub run_sets : {laws : Laws} (plan : Plan) (inputs : Inputs) (boxes : List BoxTold) (events : List Event) (solution : List (StreamPrefix Plain)) (run : IsRunAtRest laws plan inputs boxes events)
    → Solves (job_of laws plan inputs boxes) solution → (report_of run.rested).sets ≡ counts (job_of laws plan inputs boxes).job solution
run_sets {laws} plan inputs boxes events solution run solves =
    rests_with_sets (job_of laws plan inputs boxes) run.rested solution (rested_stands plan inputs boxes events run) (rested_runs plan inputs boxes events run) run.rests solves

pub run_faults : {laws : Laws} (plan : Plan) (inputs : Inputs) (boxes : List BoxTold) (events : List Event) (solution : List (StreamPrefix Plain)) (run : IsRunAtRest laws plan inputs boxes events)
    → Solves (job_of laws plan inputs boxes) solution → (report_of run.rested).faults ≡ faults (job_of laws plan inputs boxes).job solution
run_faults {laws} plan inputs boxes events solution run solves =
    rests_with_all_faults (job_of laws plan inputs boxes) run.rested solution (rested_stands plan inputs boxes events run) (rested_runs plan inputs boxes events run) run.rests solves

pub run_streams : {laws : Laws} (plan : Plan) (inputs : Inputs) (boxes : List BoxTold) (events : List Event) (solution : List (StreamPrefix Plain)) (run : IsRunAtRest laws plan inputs boxes events)
    → Solves (job_of laws plan inputs boxes) solution → (report_of run.rested).streams ≡ map end_of solution
run_streams {laws} plan inputs boxes events solution run solves =
    rests_with_ends (job_of laws plan inputs boxes) run.rested solution (rested_stands plan inputs boxes events run) (rested_runs plan inputs boxes events run) run.rests solves
