-- A run that is accepted: all sets of its job's outputs are told, and its answer is written.
use Rattle.std.proofs.Common.{◌≡◌, inl, ℕ, List, [], length, take, refl, sym, ap, ◌∙◌, subst}
use Rattle.mg_edge.specs.Edge.{SinkTold}
use Rattle.mg_edge.proofs.Runs.{TookAll-start}
use Rattle.mg_value.specs.Payload.{Plain}
use Rattle.mg_settled.specs.Prefix.{StreamPrefix}
use Rattle.mg_calc.specs.Rules.{Laws}
use Rattle.mg_calc.specs.declared.plan.Plan.{Plan}
use Rattle.mg_calc.specs.Equations.{IsSolution}
use Rattle.mg_answer.specs.Answer.{packet_lines}
use Rattle.mg_answer.specs.Text.{output_names, output_text_of}
use Rattle.mg_answer.specs.Put.{TextView, nothing_put}
use Rattle.mg_answer.specs.Devices.{device, TookFront}
use Rattle.mg_node.specs.Job.{LoggedJob, Solves}
use Rattle.mg_sched.specs.Views.{NetView}
use Rattle.mg_sched.specs.StandsFor.{StandsFor, IsRunning}
use Rattle.mg_sched.specs.AtRest.{IsAtRest}
use Rattle.mg_sched.specs.Taking.{taken_out, settled_outputs, HasAllOutputs, LeavesNodes}
use Rattle.mg_sched.proofs.OutputsTaken.{all_come_at_rest}
use Rattle.mg_drive.specs.Told.{HasLines}
use Rattle.mg_drive.specs.Code.Running.{IsTold, IsToldSome, IsSomeTold, HasRested}
use Rattle.mg_drive.specs.Code.Ending.{IsWhole}
use Rattle.mg_drive.proofs.Jobs.{valid_plan}
use Rattle.mg_drive.proofs.LinesRan.{none_told, front_lines}
use Rattle.mg_drive.proofs.RunsEnd.{whole_told}
use Rattle.mg_replay.specs.Code.Nets.{StandsForPlan}

-- nothing was told yet
told_none : {laws : Laws} (job : LoggedJob laws) (sink : SinkTold) (net : NetView) (text : TextView) → text ≡ nothing_put (output_names job.job.plan) → taken_out net ≡ 0 → IsTold HasLines job.job sink sink (taken_out net) text
told_none {laws} job sink net text is none = record {
  told = λ streams solution. subst (λ (n : ℕ). HasLines text job.job.plan sink sink (take n (settled_outputs job.job.plan streams))) (sym none) (none_told job.job.plan text sink is);
}

text_of : {laws : Laws} (plan : Plan) (job : LoggedJob laws) (text : TextView) → job.job.plan ≡ plan → text ≡ nothing_put (output_names plan) → text ≡ nothing_put (output_names job.job.plan)
text_of {laws} plan job text same is = is ∙ ap (λ (p : Plan). nothing_put (output_names p)) (sym same)

pub some_told : {laws : Laws} (plan : Plan) (sink : SinkTold) (net : NetView) (text : TextView) → StandsForPlan laws plan net → text ≡ nothing_put (output_names plan) → taken_out net ≡ 0 → IsSomeTold laws HasLines sink net text
some_told {laws} plan sink net text some is none = record { job = some.job; first = sink; stands = some.stands; is_told = told_none some.job sink net text (text_of plan some.job text some.plan_is is) none }

-- then all of it is
pub whole_of : {laws : Laws} (plan : Plan) (job : LoggedJob laws) (first sink : SinkTold) (rested net : NetView) (text told : TextView) → job.job.plan ≡ plan → StandsFor job rested → IsRunning rested → IsAtRest laws rested → text ≡ nothing_put (output_names plan) → taken_out rested ≡ 0
    → StandsFor job net → (IsTold HasLines job.job first first (taken_out rested) text → IsTold HasLines job.job first sink (taken_out net) told)
    → ((streams : List (StreamPrefix Plain)) → Solves job streams → HasAllOutputs streams rested → taken_out net ≡ length (settled_outputs net.plan streams)) → IsWhole packet_lines first sink job.job told
whole_of {laws} plan job first sink rested net text told same stands running rests is none stands_now tells all =
    whole_told HasLines packet_lines job first sink net told told stands_now
    (λ streams solves. all streams solves (all_come_at_rest job streams rested stands running rests solves))
    (tells (told_none job first rested text (text_of plan job text same is) none)) (λ p f now sets has. has.put)

-- or a prefix of it
pub front_told : {laws : Laws} (plan : Plan) (job : LoggedJob laws) (first sink : SinkTold) (net : NetView) (text : TextView) (streams : List (StreamPrefix Plain)) → job.job.plan ≡ plan → StandsFor job net → text ≡ nothing_put (output_names plan) → taken_out net ≡ 0
    → (IsTold HasLines job.job first first (taken_out net) text → IsToldSome HasLines job.job first sink) → IsSolution job.job streams → TookFront (device first sink) (output_text_of job.job.plan streams)
front_told {laws} plan job first sink net text streams same stands is none tells solution =
    front_lines job first sink (valid_plan job net stands) (inl (tells (told_none job first net text (text_of plan job text same is) none))) streams solution

-- or nothing
pub front_none : (sink : SinkTold) (text : List ℕ) → TookFront (device sink sink) text
front_none sink text = ([], (text, refl), TookAll-start sink.taken)

-- a net at rest has rested, also if sets were taken from it
pub rested_since : {laws : Laws} (job : LoggedJob laws) (rested net : NetView) → StandsFor job rested → IsRunning rested → IsAtRest laws rested → LeavesNodes rested net → HasRested job net
rested_since {laws} job rested net stands running rests since = record { rested = rested; stands = stands; running = running; rests = rests; since = since }
