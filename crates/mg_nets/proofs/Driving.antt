-- Each call on a net that is at work leaves the net at work.
use Rattle.std.proofs.Common.{◌≡◌, Bool, true, false, List, Option, refl, sym, subst, ◌∙◌, arith}
use Rattle.mg_value.specs.Payload.{Plain}
use Rattle.mg_value.specs.Packet.{Stamped}
use Rattle.mg_calc.specs.Rules.{Laws}
use Rattle.mg_calc.specs.declared.inputs.Inputs.{Inputs}
use Rattle.mg_calc.specs.declared.plan.Plan.{Plan}
use Rattle.mg_calc.specs.Told.{BoxTold}
use Rattle.mg_node.specs.Job.{LoggedJob}
use Rattle.mg_sched.specs.Views.{NetView}
use Rattle.mg_sched.specs.StandsFor.{StandsFor, IsRunning}
use Rattle.mg_sched.specs.Made.{job_of, IsMade}
use Rattle.mg_sched.specs.Taking.{TakesOut}
use Rattle.mg_sched.specs.Trims.{Trims}
use Rattle.mg_sched.specs.WindsUp.{MayWindUp}
use Rattle.mg_nets.specs.Driven.{IsDriven, StandsOver}

-- two nets that stand for one job are of one plan
of_one_plan : {laws : Laws} (job : LoggedJob laws) (before now : NetView) → StandsFor job before → StandsFor job now → now.plan ≡ before.plan
unfolding StandsFor
of_one_plan {laws} job before now h g = g.plan ∙ sym h.plan

pub still_driven : {laws : Laws} (plan : Plan) (inputs : Inputs) (before now : NetView) → IsDriven laws plan inputs before → IsRunning now → ((job : LoggedJob laws) → StandsFor job before → StandsFor job now) → IsDriven laws plan inputs now
still_driven {laws} plan inputs before now d running keeps =
    let s = d.stands in
    let after = keeps s.job s.stands in
    record { of_plan = of_one_plan s.job before now s.stands after ∙ d.of_plan; running = running; stands = record { job = s.job; stands = after }; of_job = d.of_job }

-- a net whose nodes have begun
pub now_driven : {laws : Laws} (plan : Plan) (inputs : Inputs) (before now : NetView) → before.plan ≡ plan → StandsOver laws plan inputs before → IsRunning now → ((job : LoggedJob laws) → StandsFor job before → StandsFor job now) → IsDriven laws plan inputs now
now_driven {laws} plan inputs before now of over running keeps =
    let s = over.stands in
    let after = keeps s.job s.stands in
    record { of_plan = of_one_plan s.job before now s.stands after ∙ of; running = running; stands = record { job = s.job; stands = after }; of_job = over.of_job }

-- taking a set ends no node
takes_run : (took : Bool) (set set_now : List (Option (Stamped Plain))) (before now : NetView) → IsRunning before → TakesOut took set set_now before now → IsRunning now
takes_run true set set_now before now running t = subst IsRunning (sym t.now_is) running
takes_run false set set_now before now running t = subst IsRunning (sym t.same) running

pub taken_driven : {laws : Laws} (plan : Plan) (inputs : Inputs) (took : Bool) (set set_now : List (Option (Stamped Plain))) (before now : NetView) → IsDriven laws plan inputs before → TakesOut took set set_now before now
    → ((job : LoggedJob laws) → StandsFor job before → StandsFor job now) → IsDriven laws plan inputs now
taken_driven {laws} plan inputs took set set_now before now d t keeps = still_driven plan inputs before now d (takes_run took set set_now before now d.running t) keeps

-- giving up packets ends no node
pub trimmed_driven : {laws : Laws} (plan : Plan) (inputs : Inputs) (before now : NetView) → IsDriven laws plan inputs before → Trims before now → ((job : LoggedJob laws) → StandsFor job before → StandsFor job now) → IsDriven laws plan inputs now
trimmed_driven {laws} plan inputs before now d t keeps = still_driven plan inputs before now d (subst IsRunning (sym t.parts) d.running) keeps

-- a net that is driven may be wound up
pub may_wind_up : {laws : Laws} (plan : Plan) (inputs : Inputs) (net : NetView) → IsDriven laws plan inputs net → MayWindUp net
unfolding StandsFor
may_wind_up {laws} plan inputs net d =
    let each = d.stands.stands.engines in
    let none = d.stands.stands.not_wound in
    record { engines = omega (arith, each); wound = omega (arith, none) }

-- A net that was made.

pub made_plan : {laws : Laws} (plan : Plan) (inputs : Inputs) (boxes : List BoxTold) (net : NetView) → IsMade laws plan inputs boxes net → net.plan ≡ plan
unfolding StandsFor
made_plan {laws} plan inputs boxes net m = m.stands.plan

pub made_stands : {laws : Laws} (plan : Plan) (inputs : Inputs) (boxes : List BoxTold) (net : NetView) → IsMade laws plan inputs boxes net → StandsOver laws plan inputs net
made_stands {laws} plan inputs boxes net m = record { stands = record { job = job_of laws plan inputs boxes; stands = m.stands }; of_job = refl }
