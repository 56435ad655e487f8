-- Nets at rest that stand for one job are alike, since each has the job's solution.
use Rattle.std.proofs.Common.{◌≡◌, ℕ, ◌-◌, List, Some, slice_get, sym, ap, subst, ◌∙◌}
use Rattle.std.proofs.lemmas.Option.{slice_get_within}
use Rattle.mg_value.specs.Payload.{Plain}
use Rattle.mg_settled.specs.Prefix.{StreamPrefix}
use Rattle.mg_settled.specs.Extension.{IsExtendedBy}
use Rattle.mg_stream.specs.Queue.{StandsFor as IsQueueOf}
use Rattle.mg_calc.specs.Rules.{Laws}
use Rattle.mg_calc.specs.declared.plan.Plan.{Plan}
use Rattle.mg_calc.specs.declared.plan_stream.PlanStream.{PlanStream}
use Rattle.mg_calc.specs.Equations.{stream_of, IsJob}
use Rattle.mg_node.specs.Intakes.{next_set_of}
use Rattle.mg_node.specs.Job.{LoggedJob, Solves}
use Rattle.mg_node.specs.Outputs.{laid_at}
use Rattle.mg_node.specs.Views.{IntakeView, EngineView}
use Rattle.mg_sched.specs.Views.{NetView}
use Rattle.mg_sched.specs.Places.{place_of}
use Rattle.mg_sched.specs.StandsFor.{StandsFor, IsRunning}
use Rattle.mg_sched.specs.AtRest.{IsAtRest}
use Rattle.mg_sched.specs.Reports.{report_of}
use Rattle.mg_sched.specs.Taking.{collector_of, settled_outputs}
use Rattle.mg_sched.proofs.LeftToTake.{left_next}
use Rattle.mg_sched.proofs.RestingNets.{rests_with_streams}
use Rattle.mg_sched.proofs.RestingReports.{rests_with_sets, rests_with_all_faults, rests_with_ends}
use Rattle.mg_sched.proofs.RestingStreams.{one_laid}
use Rattle.mg_sched.proofs.Solved.{solved}

-- what is laid of a stream
pub laid_extended : {laws : Laws} (job : LoggedJob laws) (net : NetView) (solution : List (StreamPrefix Plain)) (number : ℕ) (stream : PlanStream) (engine : EngineView) → StandsFor job net → IsRunning net → Solves job solution
    → slice_get net.plan.streams number ≡ Some stream → slice_get net.engines (place_of net.plan stream.producer) ≡ Some engine
    → (laid : StreamPrefix Plain) × IsQueueOf (laid_at engine (number - engine.first)) laid × IsExtendedBy laid (stream_of solution number)
laid_extended {laws} job net solution number stream engine stands running solves there at =
    let one = one_laid job net solution number stands running solves (slice_get_within net.plan.streams number stream there) in
    (one.0, one.1.stands stream engine there at, one.1.extended)

stood : {laws : Laws} (job : LoggedJob laws) (net : NetView) → StandsFor job net → IsJob job.job
unfolding StandsFor
stood {laws} job net stands = stands.is_job

same_plans : {laws : Laws} (job : LoggedJob laws) (net other : NetView) → StandsFor job net → StandsFor job other → net.plan ≡ other.plan
unfolding StandsFor
same_plans {laws} job net other stands alike = stands.plan ∙ sym alike.plan

pub alike_reports : {laws : Laws} (job : LoggedJob laws) (net other : NetView) → StandsFor job net → IsRunning net → IsAtRest laws net → StandsFor job other → IsRunning other → IsAtRest laws other → report_of net ≡ report_of other
alike_reports {laws} job net other h running rests h2 running2 rests2 =
    let s = solved job (stood job net h) in
    let sets = rests_with_sets job net s.0 h running rests s.1 ∙ sym (rests_with_sets job other s.0 h2 running2 rests2 s.1) in
    let streams = rests_with_ends job net s.0 h running rests s.1 ∙ sym (rests_with_ends job other s.0 h2 running2 rests2 s.1) in
    let faults = rests_with_all_faults job net s.0 h running rests s.1 ∙ sym (rests_with_all_faults job other s.0 h2 running2 rests2 s.1) in
    λ i. record { sets = sets i; streams = streams i; faults = faults i }

pub alike_streams : {laws : Laws} (job : LoggedJob laws) (net other : NetView) (number : ℕ) (stream : PlanStream) (engine twin : EngineView) → StandsFor job net → IsRunning net → IsAtRest laws net → StandsFor job other → IsRunning other → IsAtRest laws other
    → slice_get net.plan.streams number ≡ Some stream → slice_get net.engines (place_of net.plan stream.producer) ≡ Some engine → slice_get other.engines (place_of other.plan stream.producer) ≡ Some twin
    → (laid : StreamPrefix Plain) × IsQueueOf (laid_at engine (number - engine.first)) laid × IsQueueOf (laid_at twin (number - twin.first)) laid
alike_streams {laws} job net other number stream engine twin h running rests h2 running2 rests2 there at at2 =
    let s = solved job (stood job net h) in
    let there2 : slice_get other.plan.streams number ≡ Some stream = subst (λ (plan : Plan). slice_get plan.streams number ≡ Some stream) (same_plans job net other h h2) there in (
      stream_of s.0 number,
      rests_with_streams job net s.0 number stream engine h running rests s.1 there at,
      rests_with_streams job other s.0 number stream twin h2 running2 rests2 s.1 there2 at2,
    )

pub alike_outputs : {laws : Laws} (job : LoggedJob laws) (net other : NetView) (intake twin : IntakeView) → StandsFor job net → IsRunning net → IsAtRest laws net → StandsFor job other → IsRunning other → IsAtRest laws other
    → collector_of net ≡ Some intake → collector_of other ≡ Some twin → intake.claimed ≡ twin.claimed → next_set_of intake.waits ≡ next_set_of twin.waits
alike_outputs {laws} job net other intake twin h running rests h2 running2 rests2 at at2 same =
    let s = solved job (stood job net h) in
    left_next job net s.0 intake h running rests s.1 at
    ∙ (ap (λ n. slice_get (settled_outputs net.plan s.0) n) same
    ∙ (ap (λ (plan : Plan). slice_get (settled_outputs plan s.0) twin.claimed) (same_plans job net other h h2)
    ∙ sym (left_next job other s.0 twin h2 running2 rests2 s.1 at2)))
