-- What a recorded run that isn't accepted leaves of the user-supplied calculators.
use Rattle.std.proofs.Common.{◌≡◌, inl, inr, ℕ, List, ◌++◌, length, Some, option_map, slice_get, refl, sym, ap, ◌∙◌, subst}
use Rattle.mg_value.specs.Payload.{Plain}
use Rattle.mg_settled.specs.Prefix.{StreamPrefix}
use Rattle.mg_calc.specs.Rules.{Laws}
use Rattle.mg_calc.specs.declared.call.Call.{Call}
use Rattle.mg_calc.specs.Equations.{IsJob}
use Rattle.mg_calc.specs.Shape.{IsOuter}
use Rattle.mg_calc.specs.declared.inputs.Inputs.{Inputs}
use Rattle.mg_calc.specs.declared.plan.Plan.{Plan}
use Rattle.mg_calc.specs.declared.plan_node.PlanNode.{PlanNode}
use Rattle.mg_calc.specs.Told.{BoxTold}
use Rattle.mg_answer.specs.Devices.{device, RunDevices, Untouched}
use Rattle.mg_answer.specs.declared.status.Status.{Status}
use Rattle.mg_answer.specs.declared.run.Reporting.{Reporting}
use Rattle.mg_node.specs.Views.{EngineView}
use Rattle.mg_node.specs.Job.{LoggedJob}
use Rattle.mg_node.specs.Had.{HadClose}
use Rattle.mg_sched.specs.Views.{WorkQueueView, NetView}
use Rattle.mg_sched.specs.StandsFor.{StandsFor, IsRunning}
use Rattle.mg_sched.specs.ComesApart.{NoneOnWorkQueues}
use Rattle.mg_sched.specs.WindsUp.{WindsUpNet}
use Rattle.mg_sched.specs.Made.{BoxesFit, job_of}
use Rattle.mg_sched.specs.GivesBack.{given_back, StoodFor}
use Rattle.mg_sched.proofs.ClosedBack.{closed_back}
use Rattle.mg_sched.proofs.Solved.{solved}
use Rattle.mg_drive.specs.Nets.{Keeps}
use Rattle.mg_drive.specs.Batches.{logged}
use Rattle.mg_drive.specs.Leaves.{first_calls, IsRelatedAt}
use Rattle.mg_drive.proofs.Jobs.{valid_plan, plan_stood}
use Rattle.mg_drive.proofs.BoxesBack.{box_at, log_was, state_kept, all_had_now}
use Rattle.mg_drive.proofs.FrontsBack.{none_had, kept_now}
use Rattle.mg_replay.specs.Leaves.{HadAClose, HadCloses}
use Rattle.mg_replay.specs.Replayed.{job_over, HadEnd}
use Rattle.mg_replay.specs.Reading.{BeginsWithJob}
use Rattle.mg_replay.specs.Code.Nets.{ClosedAllOf, HadBy, NetReplayed, NetShort, JobReplayed, JobShort}
use Rattle.mg_replay.specs.declared.trace_end.TraceEnd.{TraceEnd}
use Rattle.mg_replay.specs.declared.trace_end.TraceEnd.TheVariants.{Accepted, Refused, Failed}

-- A run that breaks off --

-- a net whose works were put back, and that was wound up, keeps its plan and the places of the calculators
pub back_keeps : {laws : Laws} (before back wound : NetView) (engines : List EngineView) (work_queues : List WorkQueueView) → back ≡ record before { engines = engines; work_queues = work_queues } → WindsUpNet laws back wound → Keeps before wound
back_keeps {laws} before back wound engines work_queues is winds = record {
  plan = ap (λ (v : NetView). v.plan) winds.parts ∙ ap (λ (v : NetView). v.plan) is;
  spare = ap (λ (v : NetView). v.spare) winds.parts ∙ ap (λ (v : NetView). v.spare) is;
}

pub back_wound : {laws : Laws} (job : LoggedJob laws) (back wound : NetView) → StandsFor job back → WindsUpNet laws back wound → StoodFor job wound
back_wound {laws} job back wound stands winds = record { before = back; stands = stands; since = inr winds }

back_running : (before back : NetView) (engines : List EngineView) (work_queues : List WorkQueueView) → back ≡ record before { engines = engines; work_queues = work_queues } → IsRunning before → IsRunning back
back_running before back engines work_queues is running = ap (λ (v : NetView). v.begun) is ∙ running ∙ sym (ap (λ (v : NetView). length v.plan.nodes) is)

-- each of its calculators that a node uses was closed
pub closed_where : {laws : Laws} (job : LoggedJob laws) (before back wound : NetView) (engines : List EngineView) (work_queues : List WorkQueueView) → IsRunning before → back ≡ record before { engines = engines; work_queues = work_queues } → StandsFor job back → NoneOnWorkQueues back
    → WindsUpNet laws back wound → wound.wound ≡ length back.plan.nodes → ClosedAllOf job wound
closed_where {laws} job before back wound engines work_queues running is stands none winds all =
    let is_job = valid_plan job back stands in
    let found = solved job is_job in
    record {
      is_job = is_job;
      streams = found.0;
      solution = found.1.solution;
      each = λ number place node there has outer.
          closed_back job back wound found.0 number place node stands (back_running before back engines work_queues is running) none winds all found.1
          (ap (λ (p : Plan). slice_get p.nodes number) (plan_stood job back stands) ∙ there) has outer;
    }

-- By the user-supplied calculators --

closed_at : {laws : Laws} (plan : Plan) (inputs : Inputs) (boxes : List BoxTold) (net : NetView) (streams : List (StreamPrefix Plain)) (number place : ℕ) (node : PlanNode) → BoxesFit plan boxes → slice_get plan.nodes number ≡ Some node → node.box_number ≡ Some place
    → (IsOuter node.law → (told : BoxTold) × (slice_get (given_back net) place ≡ Some told) × HadClose (job_of laws plan inputs boxes) streams node told) → IsRelatedAt place (HadAClose (job_over laws plan inputs) streams node) (device boxes (given_back net))
closed_at {laws} plan inputs boxes net streams number place node fit there has closed =
    let box = box_at plan boxes number place node fit there has in
    let outer : IsOuter node.law = subst IsOuter box.2.fits.same_law box.2.outer in
    let back = closed outer in
    let front = back.2.front in
    record {
      before = box.0;
      now = back.0;
      was = box.1;
      is = back.1;
      holds = record {
        keeps = record {
          count = front.count;
          close = front.close;
          opened = front.opened;
          log = front.log ∙ ap (option_map (λ (calls : List Call). calls ++ first_calls (job_over laws plan inputs) streams node front.count front.close)) (log_was (job_of laws plan inputs boxes) boxes place node box.0 refl has box.1);
          law = front.fits.same_law ∙ sym box.2.fits.same_law;
          shape = front.fits.same_shape ∙ sym box.2.fits.same_shape;
          unopened = λ none. front.unopened none place box.0 has box.1;
          state = λ shown is. front.state shown is ∙ state_kept (job_over laws plan inputs) streams node shown front.close outer;
        };
        begun = back.2.begun;
        closed = back.2.closed;
      };
    }

all_closed : {laws : Laws} (plan : Plan) (inputs : Inputs) (boxes now : List BoxTold) (net : NetView) → BoxesFit plan boxes → now ≡ given_back net → ClosedAllOf (job_of laws plan inputs boxes) net → HadCloses (job_over laws plan inputs) (device boxes now)
all_closed {laws} plan inputs boxes now net fit back c = subst (λ (bs : List BoxTold). HadCloses (job_over laws plan inputs) (device boxes bs)) (sym back)
    (record {
      is_job = c.is_job;
      streams = c.streams;
      solution = c.solution;
      each = λ number place node there has. closed_at plan inputs boxes net c.streams number place node fit there has (c.each number place node there has);
    })

-- by how the reading ended
had_now : (laws : Laws) (end : TraceEnd) (plan : Plan) (inputs : Inputs) (boxes now : List BoxTold) (net : NetView) → BoxesFit plan boxes → now ≡ given_back net → HadBy end (job_of laws plan inputs boxes) net → HadEnd laws end plan (Some inputs) (device boxes now)
had_now laws Accepted plan inputs boxes now net fit back had = all_had_now (logged laws plan inputs boxes) boxes now net fit refl back had
had_now laws (Refused line cause) plan inputs boxes now net fit back had = all_closed plan inputs boxes now net fit back had
had_now laws (Failed lines) plan inputs boxes now net fit back had = all_closed plan inputs boxes now net fit back had

pub job_replayed : {laws : Laws} (report : Reporting) (plan : Plan) (inputs : Inputs) (boxes handed now : List BoxTold) (status : Status) (devices : RunDevices) (net : NetView) → BoxesFit plan boxes → handed ≡ boxes → now ≡ given_back net
    → NetReplayed laws report plan inputs handed status devices net → JobReplayed laws report plan inputs status devices (device boxes now)
job_replayed {laws} report plan inputs boxes handed now status devices net fit same back h =
    let k : NetReplayed laws report plan inputs boxes status devices net = subst (λ (bs : List BoxTold). NetReplayed laws report plan inputs bs status devices net) same h in
    record { end = k.end; read = k.read; wrote = k.wrote; had = had_now laws k.end plan inputs boxes now net fit back k.had }

pub job_short : {laws : Laws} (plan : Plan) (inputs : Inputs) (boxes handed now : List BoxTold) (devices : RunDevices) (net : NetView) → BoxesFit plan boxes → handed ≡ boxes → now ≡ given_back net
    → NetShort laws plan inputs handed devices net → JobShort laws plan inputs devices (device boxes now)
job_short {laws} plan inputs boxes handed now devices net fit same back h =
    let k : NetShort laws plan inputs boxes devices net = subst (λ (bs : List BoxTold). NetShort laws plan inputs bs devices net) same h in
    record {
      took = k.took;
      opened = k.opened;
      fronts = kept_now boxes now (logged laws plan inputs boxes) net fit refl k.stood (valid_plan (job_of laws plan inputs boxes) k.stood.before k.stood.stands) back;
    }

-- no net was made
pub job_unmade : {laws : Laws} (plan : Plan) (inputs : Inputs) (boxes now : List BoxTold) (devices : RunDevices) → IsJob (job_over laws plan inputs) → BoxesFit plan boxes → Untouched devices.output → BeginsWithJob plan devices.input inputs → now ≡ boxes
    → JobShort laws plan inputs devices (device boxes now)
job_unmade {laws} plan inputs boxes now devices is fit untouched opened same = subst (λ (bs : List BoxTold). JobShort laws plan inputs devices (device boxes bs)) (sym same)
    (record { took = inl untouched; opened = opened; fronts = none_had (job_over laws plan inputs) boxes is fit })
