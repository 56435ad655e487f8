-- The events of a run lead one way, and a net is at rest or may go on.
use Rattle.std.proofs.Common.{◌≡◌, ◌≢◌, List, [], ◌∷◌, sym, subst}
use Rattle.mg_calc.specs.Rules.{Laws}
use Rattle.mg_calc.specs.declared.event.Event.{Event}
use Rattle.mg_calc.specs.declared.event.Event.TheVariants.{Deliver, Advance, Claim, Perform, Commit, Relax}
use Rattle.mg_calc.specs.declared.event.Effect.{Effect}
use Rattle.mg_calc.specs.declared.event.Effect.TheVariants.{Did, Idle, OutOfMemory}
use Rattle.mg_calc.specs.declared.inputs.Inputs.{Inputs}
use Rattle.mg_calc.specs.declared.plan.Plan.{Plan}
use Rattle.mg_calc.specs.Told.{BoxTold}
use Rattle.mg_sched.specs.Views.{NetView}
use Rattle.mg_sched.specs.StandsFor.{StandsForSome, IsRunning}
use Rattle.mg_sched.specs.Acts.{IsEventOf, Acts}
use Rattle.mg_sched.specs.AtRest.{IsAtRest, MayGoOn}
use Rattle.mg_sched.specs.Made.{job_of}
use Rattle.mg_sched.specs.Runs.{IsRun, IsBegun}
use Rattle.mg_sched.specs.SameNets.{AreAlike}
use Rattle.mg_sched.proofs.ActsRun.{acts_run}
use Rattle.mg_sched.proofs.ActsStand.{acts_stand}
use Rattle.mg_sched.proofs.OneBeginning.{begun_alike}
use Rattle.mg_sched.proofs.OneStep.{alike_back, acts_one}

not_out : Did ≢ OutOfMemory
not_out same = absurd cc

idle_not_out : Idle ≢ OutOfMemory
idle_not_out same = absurd cc

pub effect_one : {laws : Laws} (event : Event) (effect twin : Effect) (net now other also : NetView) → StandsForSome laws net → IsRunning net → IsEventOf net event → AreAlike net other → effect ≢ OutOfMemory → twin ≢ OutOfMemory
    → Acts laws event effect net now → Acts laws event twin other also → (effect ≡ twin) × AreAlike now also
effect_one {laws} event effect twin net now other also some running of h a b acts acts_too =
    (let one = acts_one event effect twin net now other also some running of h a b acts acts_too in (one.effects, one.nets))

-- an event of a net is one of a net that is like it
event_too : (event : Event) (net other : NetView) → AreAlike net other → IsEventOf net event → IsEventOf other event
event_too event net other h of = subst (λ (p : Plan). IsEventOf (record other { plan = p }) event) h.plan (plan_only event net other of)
  where
    plan_only : (e : Event) (a b : NetView) → IsEventOf a e → IsEventOf (record b { plan = a.plan }) e
    plan_only (Deliver edge) a b is = is
    plan_only (Advance node) a b is = is
    plan_only (Claim node) a b is = is
    plan_only (Perform node number) a b is = is
    plan_only (Commit node number) a b is = is
    plan_only Relax a b is = is

-- no event both does something and nothing
pub did_not_idle : {laws : Laws} (event : Event) (net now other also : NetView) → StandsForSome laws net → IsRunning net → IsEventOf net event → AreAlike net other → Acts laws event Did net now → Acts laws event Idle other also → ⊥
did_not_idle {laws} event net now other also some running of h acts acts_too =
    let clash : Did ≡ Idle = (acts_one event Did Idle net now other also some running of h not_out idle_not_out acts acts_too).effects in
    absurd cc

-- where an event does something, it does one thing
pub did_alike : {laws : Laws} (event : Event) (net now other also : NetView) → StandsForSome laws net → IsRunning net → IsEventOf net event → AreAlike net other → Acts laws event Did net now → Acts laws event Did other also → AreAlike now also
did_alike {laws} event net now other also some running of h acts acts_too = (acts_one event Did Did net now other also some running of h not_out not_out acts acts_too).nets

pub run_one_way : {laws : Laws} (events : List Event) (net now other also : NetView) → StandsForSome laws net → IsRunning net → AreAlike net other → IsRun laws events net now → IsRun laws events other also → AreAlike now also
run_one_way {laws} [] net now other also some running h is is_too = subst (λ (v : NetView). AreAlike v also) (sym is) (subst (λ (v : NetView). AreAlike net v) (sym is_too) h)
run_one_way {laws} (event ∷ events) net now other also some running h (next, of, acts, run) (next_too, of_too, acts_too, run_too) =
    let one = acts_one event Did Did net next other next_too some running of h not_out not_out acts acts_too in
    run_one_way events next now next_too also (record { job = some.job; stands = acts_stand some.job event Did net next of running some.stands acts }) (acts_run laws event Did net next running acts) one.nets run run_too

-- a net that is at rest is like none that may go on
pub rests_or_goes : {laws : Laws} (net other : NetView) → StandsForSome laws net → IsRunning net → AreAlike net other → IsAtRest laws net → MayGoOn laws other → ⊥
rests_or_goes {laws} net other some running h rests goes = absurd (clash (acts_one goes.event Idle Did net net other goes.there some running of h idle_not_out not_out (rests goes.event of) goes.acts).effects)
  where
    of : IsEventOf net goes.event
    of = event_too goes.event other net (alike_back net other h) goes.is_event

    clash : Idle ≡ Did → ⊥
    clash same = absurd cc

-- the events of a run of a job lead to one place
pub job_runs_one_way : {laws : Laws} (plan : Plan) (inputs : Inputs) (boxes : List BoxTold) (events : List Event) (begun now twin also : NetView) → IsBegun laws plan inputs boxes begun → IsBegun laws plan inputs boxes twin → IsRun laws events begun now → IsRun laws events twin also → AreAlike now also
job_runs_one_way {laws} plan inputs boxes events begun now twin also b c run run_too =
    run_one_way events begun now twin also (record { job = job_of laws plan inputs boxes; stands = b.stands }) b.running (begun_alike plan inputs boxes begun twin b c) run run_too
