-- What is told of a net that has come to rest is told of the solution.
use Rattle.std.proofs.Common.{◌≡◌, ◌<◌, List, length, All, sym, ap, ◌∙◌, subst}
use Rattle.std.proofs.lemmas.List.{length-map}
use Rattle.mg_value.specs.Payload.{Plain}
use Rattle.mg_settled.specs.Prefix.{StreamPrefix}
use Rattle.mg_calc.specs.Rules.{Laws}
use Rattle.mg_calc.specs.declared.plan.Plan.{Plan}
use Rattle.mg_calc.specs.declared.node_fault.NodeFault.{NodeFault}
use Rattle.mg_calc.specs.Meaning.{faults, count_of}
use Rattle.mg_calc.proofs.Solutions.{solution_has_each}
use Rattle.mg_calc.proofs.Jobs.{job_known}
use Rattle.mg_feed.specs.declared.feed_end.FeedEnd.{FeedEnd}
use Rattle.mg_settled.specs.Ends.{end_of}
use Rattle.mg_answer.specs.Outcomes.{TellsOf}
use Rattle.mg_answer.specs.declared.outcomes.Outcomes.{Outcomes}
use Rattle.mg_answer.proofs.Telling.{faults-below}
use Rattle.mg_node.specs.Job.{LoggedJob, Solves}
use Rattle.mg_sched.specs.declared.report.Report.{Report}
use Rattle.mg_sched.specs.Views.{NetView}
use Rattle.mg_sched.specs.Reports.{report_of}
use Rattle.mg_sched.proofs.Solved.{solved}
use Rattle.mg_sched.proofs.RestingReports.{rests_with_sets, rests_with_all_faults, rests_with_ends}
use Rattle.mg_drive.specs.Batches.{Giving, logged, AreOfGiven}
use Rattle.mg_drive.specs.Code.Running.{HasRested, SomeRested, SomeRestedOf}
use Rattle.mg_drive.specs.Code.Ending.{TellsNet}
use Rattle.mg_drive.proofs.Jobs.{valid_plan}

-- the report is that of the net at rest
same_report : {laws : Laws} (job : LoggedJob laws) (net : NetView) (h : HasRested job net) → report_of net ≡ report_of h.rested
same_report {laws} job net h = ap report_of h.since

-- what is told of the net is told of the solution
pub tells_at : {laws : Laws} (job : LoggedJob laws) (net : NetView) (streams : List (StreamPrefix Plain)) (outcomes : Outcomes) → HasRested job net → Solves job streams → TellsNet net outcomes → TellsOf job.job streams outcomes
tells_at {laws} job net streams outcomes h solves tells =
    let same = same_report job net h in
    record {
      faults = tells.faults ∙ ap (λ (r : Report). r.faults) same ∙ rests_with_all_faults job h.rested streams h.stands h.running h.rests solves;
      sets = tells.sets ∙ ap (λ (r : Report). r.sets) same ∙ rests_with_sets job h.rested streams h.stands h.running h.rests solves;
      ends = tells.ends ∙ ap (λ (r : Report). r.streams) same ∙ rests_with_ends job h.rested streams h.stands h.running h.rests solves;
      arrivals = tells.arrivals;
    }

-- there is an end for each stream of the plan, and a count for each node; and the faults are of its nodes
pub ends_many : {laws : Laws} (plan : Plan) (net : NetView) (outcomes : Outcomes) → SomeRested laws plan net → TellsNet net outcomes → length outcomes.ends.items ≡ length plan.streams
ends_many {laws} plan net outcomes some tells =
    let found = solved some.job (valid_plan some.job net some.stands) in
    let told = tells_at some.job net found.0 outcomes some.has_rested found.1 tells in
    ap length told.ends ∙ length-map found.0 end_of
    ∙ solution_has_each some.job.job (job_known some.job.job found.1.is_job) found.0 found.1.solution ∙ ap (λ (p : Plan). length p.streams) some.plan_is

pub sets_many : {laws : Laws} (plan : Plan) (net : NetView) (outcomes : Outcomes) → SomeRested laws plan net → TellsNet net outcomes → length outcomes.sets ≡ length plan.nodes
sets_many {laws} plan net outcomes some tells =
    let found = solved some.job (valid_plan some.job net some.stands) in
    let told = tells_at some.job net found.0 outcomes some.has_rested found.1 tells in
    ap length told.sets ∙ length-map some.job.job.plan.nodes (count_of some.job.job found.0) ∙ ap (λ (p : Plan). length p.nodes) some.plan_is

pub faults_there : {laws : Laws} (plan : Plan) (net : NetView) (outcomes : Outcomes) → SomeRested laws plan net → TellsNet net outcomes → All (λ (fault : NodeFault). fault.node < length plan.nodes) outcomes.faults
faults_there {laws} plan net outcomes some tells =
    let found = solved some.job (valid_plan some.job net some.stands) in
    let told = tells_at some.job net found.0 outcomes some.has_rested found.1 tells in
    subst (λ (fs : List NodeFault). All (λ fault. fault.node < length plan.nodes) fs) (sym told.faults)
    (subst (λ (p : Plan). All (λ fault. fault.node < length p.nodes) (faults some.job.job found.0)) some.plan_is (faults-below some.job.job found.0))

-- it is told of what batches gave together
pub of_given : {laws : Laws} {B : Type 0} (gives : Giving B) (plan : Plan) (end : FeedEnd) (net : NetView) (batches : B) (outcomes : Outcomes) → SomeRestedOf laws gives plan end net batches → TellsNet net outcomes → AreOfGiven laws gives plan end batches outcomes
of_given {laws} {B} gives plan end net batches outcomes r tells =
    let given = r.given in
    let stood = given.as_given in
    let job = logged laws given.plan given.so_far stood.boxes in
    let found = solved job (valid_plan job net stood.stands) in
    subst (λ (p : Plan). AreOfGiven laws gives p end batches outcomes) r.plan_is (record {
      began = given.began;
      first = given.first;
      source = given.source;
      inputs = given.so_far;
      given = stood.given;
      streams = found.0;
      tells = tells_at job net found.0 outcomes stood.has_rested found.1 tells;
    })
