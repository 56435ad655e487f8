-- How a run begins, and how it ends once its net has come to rest.
use Rattle.std.proofs.Common.{◌≡◌, ◌⊎◌, inl, inr, ℕ, List, [], length, take, Option, Some, None, slice_get, unwrap_or, option_map, refl, sym, ap, ◌∙◌, subst}
use Rattle.std.proofs.Math.Seq.{take-length}
use Rattle.mg_edge.specs.Edge.{SourceTold, SinkTold}
use Rattle.mg_value.specs.Payload.{Plain}
use Rattle.mg_settled.specs.Prefix.{StreamPrefix}
use Rattle.mg_settled.specs.Settled.{TimedSet}
use Rattle.mg_calc.specs.Rules.{Laws}
use Rattle.mg_calc.specs.declared.inputs.Inputs.{Inputs}
use Rattle.mg_calc.specs.declared.plan.Plan.{Plan}
use Rattle.mg_calc.specs.Told.{BoxTold}
use Rattle.mg_calc.specs.Equations.{Job}
use Rattle.mg_feed.specs.declared.feed_end.FeedEnd.{FeedEnd}
use Rattle.mg_feed.specs.declared.feed_end.BatchEnd.{BatchEnd}
use Rattle.mg_feed.specs.declared.feed_end.BatchEnd.TheVariants.{End}
use Rattle.mg_answer.specs.Text.{output_names, sets_text}
use Rattle.mg_answer.specs.Summary.{summary_text}
use Rattle.mg_answer.specs.Answer.{OutputForm, packet_lines, totals, in_place, output_in}
use Rattle.mg_answer.specs.Devices.{Device, device}
use Rattle.mg_answer.specs.Put.{TextView, HasPut}
use Rattle.mg_answer.specs.declared.status.Status.{Status}
use Rattle.mg_answer.proofs.Writing.{put-front}
use Rattle.mg_answer.specs.declared.run.Reporting.{Reporting}
use Rattle.mg_node.specs.Views.{IntakeView}
use Rattle.mg_node.specs.Job.{LoggedJob, Solves}
use Rattle.mg_sched.specs.Views.{NetView}
use Rattle.mg_sched.specs.StandsFor.{StandsFor}
use Rattle.mg_sched.specs.Made.{IsMade}
use Rattle.mg_sched.specs.Taking.{collector_of, taken_out, settled_outputs}
use Rattle.mg_sched.specs.WindsUp.{WindsUpNet}
use Rattle.mg_sched.proofs.Solved.{solved}
use Rattle.mg_sched.proofs.HadBack.{used_back}
use Rattle.mg_sched.proofs.OutputsTaken.{outputs_by_default}
use Rattle.mg_drive.specs.Told.{told_in}
use Rattle.mg_drive.specs.Nets.{Keeps}
use Rattle.mg_drive.specs.Batches.{logged}
use Rattle.mg_drive.specs.Code.Running.{Giving, ReadingOn, TellingSets, Start, start_of, job_with, IsTold, IsUnderWay, HasRested, IsAllTaken, SomeRested, SomeRestedOf, RunIsOver, IsShort, FrontIn}
use Rattle.mg_drive.specs.Code.Ending.{IsWhole, HadAllOf, Writing, HasEnded}
use Rattle.mg_drive.proofs.Jobs.{valid_plan, plan_stood}
use Rattle.mg_drive.proofs.TakingSets.{told_some}

-- The beginning --

-- nothing was taken out of a net that was made
none_taken : (net : NetView) (o : Option IntakeView) → collector_of net ≡ o → ((intake : IntakeView) → collector_of net ≡ Some intake → intake.claimed ≡ 0) → unwrap_or (option_map (λ (i : IntakeView). i.claimed) o) 0 ≡ 0
none_taken net None is fresh = refl
none_taken net (Some intake) is fresh = fresh intake is

pub none_yet : {laws : Laws} (plan : Plan) (inputs : Inputs) (boxes : List BoxTold) (net : NetView) → IsMade laws plan inputs boxes net → taken_out net ≡ 0
none_yet {laws} plan inputs boxes net made = none_taken net (collector_of net) refl (λ intake there. (made.fresh (length net.plan.nodes) intake there).claimed)

-- a net that was made of the first batch begins a run, and nothing is told yet
pub begins : {laws : Laws} {B T : Type 0} (gives : Giving B) (has_told : TellingSets T) (plan : Plan) (boxes handed : List BoxTold) (began batches : B) (telling : T) (first now : SourceTold) (sink : SinkTold) (end : BatchEnd) (inputs : Inputs) (net : NetView)
    → handed ≡ boxes → IsMade laws plan inputs handed net → gives began batches plan first now end inputs → ((s : SinkTold) → has_told telling plan s s [])
    → IsUnderWay laws gives has_told (start_of plan boxes first sink began) end now sink batches telling net
begins {laws} {B} {T} gives has_told plan boxes handed began batches telling first now sink end inputs net same was given nothing =
    let made : IsMade laws plan inputs boxes net = subst (λ (bs : List BoxTold). IsMade laws plan inputs bs net) same was in
    record {
      inputs = inputs;
      given = given;
      stands = made.stands;
      is_told = record {
        told = λ streams solution. subst (λ (n : ℕ). has_told telling plan sink sink (take n (settled_outputs plan streams))) (sym (none_yet plan inputs boxes net made)) (nothing sink);
      };
    }

-- The text --

-- all sets were taken
pub all_taken : {laws : Laws} (job : LoggedJob laws) (net : NetView) (streams : List (StreamPrefix Plain)) → StandsFor job net → IsAllTaken job net → Solves job streams → taken_out net ≡ length (settled_outputs job.job.plan streams)
all_taken {laws} job net streams stands all solves = all streams solves ∙ ap (λ (p : Plan). length (settled_outputs p streams)) (plan_stood job net stands)

-- in a form, all sets of a job's solution are the text that its streams make
pub told_whole : {laws : Laws} (form : OutputForm) (job : LoggedJob laws) (streams : List (StreamPrefix Plain)) → Solves job streams → told_in form job.job.plan (settled_outputs job.job.plan streams) ≡ output_in form job.job.plan streams
told_whole {laws} packet_lines job streams solves = ap (sets_text (output_names job.job.plan)) (outputs_by_default job streams solves)
told_whole {laws} totals job streams solves = ap (summary_text (output_names job.job.plan)) (outputs_by_default job streams solves)
told_whole {laws} (in_place text) job streams solves = refl

-- all sets were told, so the whole text was put
pub whole_told : {laws : Laws} {T : Type 0} (has_told : TellingSets T) (form : OutputForm) (job : LoggedJob laws) (first sink : SinkTold) (net : NetView) (telling : T) (text : TextView) → StandsFor job net → IsAllTaken job net
    → IsTold has_told job.job first sink (taken_out net) telling
    → ((plan : Plan) (f now : SinkTold) (sets : List (TimedSet Plain)) → has_told telling plan f now sets → HasPut f now text (told_in form plan sets)) → IsWhole form first sink job.job text
whole_told {laws} {T} has_told form job first sink net telling text stands all_came told puts = λ streams solution.
    let solves : Solves job streams = record { is_job = valid_plan job net stands; solution = solution } in
    let sets = settled_outputs job.job.plan streams in
    let all : take (taken_out net) sets ≡ sets = ap (λ (n : ℕ). take n sets) (all_taken job net streams stands all_came solves) ∙ take-length sets in
    subst (λ (t : List ℕ). HasPut first sink text t) (ap (told_in form job.job.plan) all ∙ told_whole form job streams solves) (puts job.job.plan first sink (take (taken_out net) sets) (told.told streams solution))

-- the sink took a prefix of the text that was put
pub front_whole : (form : OutputForm) (first sink : SinkTold) (job : Job) (text : TextView) → IsWhole form first sink job text → FrontIn form first sink job
front_whole form first sink job text whole = λ streams solution. put-front text.failed first sink text.kept (output_in form job.plan streams) (whole streams solution)

-- Calculators --

-- each calculator that a node uses comes back with all its calls
pub had_of : {laws : Laws} (job : LoggedJob laws) (net wound : NetView) → StandsFor job net → HasRested job net → WindsUpNet laws net wound → wound.wound ≡ length net.plan.nodes → HadAllOf job wound
had_of {laws} job net wound stands h winds all =
    let is = valid_plan job net stands in
    let found = solved job is in
    record {
      is_job = is;
      streams = found.0;
      solution = found.1.solution;
      each = λ number place node there has outer.
          let back = used_back job h.rested net wound found.0 number place node h.stands h.running h.rests found.1 h.since winds all
          (ap (λ (p : Plan). slice_get p.nodes number) (plan_stood job net stands) ∙ there) has outer in
          record { told = back.0; there = back.1; had = back.2 };
    }

-- The end --

-- a run that is over has rested with all that was given
pub some_rested : {laws : Laws} {B T : Type 0} (gives : Giving B) (has_told : TellingSets T) (plan : Plan) (start : Start B) (end : FeedEnd) (source : SourceTold) (sink : SinkTold) (batches : B) (telling : T) (net : NetView) → start.plan ≡ plan
    → RunIsOver laws gives has_told start end source sink batches telling net → SomeRestedOf laws gives plan end net batches
some_rested {laws} {B} {T} gives has_told plan start end source sink batches telling net is over =
    let u = over.under_way in
    record {
      given = record {
        began = start.batches;
        plan = start.plan;
        first = start.source;
        source = source;
        so_far = u.inputs;
        as_given = record {
          valid = (valid_plan (job_with laws start u.inputs) net u.stands).plan;
          given = u.given;
          boxes = start.boxes;
          stands = u.stands;
          has_rested = over.has_rested;
        };
      };
      plan_is = is;
    }

-- a net that has rested over what batches gave has rested for some job
pub rested_of : {laws : Laws} {B : Type 0} (gives : Giving B) (plan : Plan) (end : FeedEnd) (net : NetView) (batches : B) → SomeRestedOf laws gives plan end net batches → SomeRested laws plan net
rested_of {laws} {B} gives plan end net batches r = record {
  job = logged laws r.given.plan r.given.so_far r.given.as_given.boxes;
  plan_is = r.plan_is;
  stands = r.given.as_given.stands;
  has_rested = r.given.as_given.has_rested;
}

-- the answer of a run that is over was written
pub ended_over : {laws : Laws} {B T : Type 0} (gives : Giving B) (writes : Writing B) (has_told : TellingSets T) (form : OutputForm) (report : Reporting) (plan : Plan) (start : Start B) (end : FeedEnd) (source : SourceTold) (sink now : SinkTold) (batches : B) (telling : T) (net wound : NetView) (text : TextView) (status : Status)
    (notes : Device SinkTold) → start.plan ≡ plan
    → ((p : Plan) (f n : SinkTold) (sets : List (TimedSet Plain)) → has_told telling p f n sets → HasPut f n text (told_in form p sets))
    → ((fm : OutputForm) (job : LoggedJob laws) (first : SinkTold) → job.job.plan ≡ plan → StandsFor job net → HasRested job net → IsWhole fm first sink job.job text
    → writes batches fm report job.job end status (device first now) notes)
    → WindsUpNet laws net wound → wound.wound ≡ length net.plan.nodes
    → RunIsOver laws gives has_told start end source sink batches telling net → HasEnded laws gives writes form report start status source now notes wound
ended_over {laws} {B} {T} gives writes has_told form report plan start end source sink now batches telling net wound text status notes is puts wrote winds all over =
    let u = over.under_way in
    let job = job_with laws start u.inputs in
    record {
      batches = batches;
      end = end;
      inputs = u.inputs;
      given = u.given;
      wrote = wrote form job start.sink is u.stands over.has_rested (whole_told has_told form job start.sink sink net telling text u.stands over.all u.is_told puts);
      had = had_of job net wound u.stands over.has_rested winds all;
      stood = record { before = net; stands = u.stands; since = inr winds };
    }

-- memory ran out before the text of a run that is over was made
pub short_over : {laws : Laws} {B T : Type 0} (gives : Giving B) (reads_on : ReadingOn B) (has_told : TellingSets T) (form : OutputForm) (start : Start B) (end : FeedEnd) (source : SourceTold) (sink : SinkTold) (batches : B) (telling : T) (net : NetView)
    → RunIsOver laws gives has_told start end source sink batches telling net → IsShort laws gives reads_on has_told form start source sink net
short_over {laws} {B} {T} gives reads_on has_told form start end source sink batches telling net over =
    let u = over.under_way in
    let job = job_with laws start u.inputs in
    record {
      batches = batches;
      end = End end;
      at = source;
      inputs = u.inputs;
      given = u.given;
      last = inl refl;
      stood = record { before = net; stands = u.stands; since = inl refl };
      front = inl (told_some has_told job start.sink sink (taken_out net) telling u.is_told);
      unended = λ more. absurd more;
    }

-- memory ran out after the text of a run that is over was made
pub short_end : {laws : Laws} {B T : Type 0} (gives : Giving B) (reads_on : ReadingOn B) (has_told : TellingSets T) (form : OutputForm) (start : Start B) (end : FeedEnd) (source : SourceTold) (sink now : SinkTold) (batches : B) (telling : T) (net later : NetView) (text : TextView)
    → ((p : Plan) (f n : SinkTold) (sets : List (TimedSet Plain)) → has_told telling p f n sets → HasPut f n text (told_in form p sets))
    → ((fm : OutputForm) (job : Job) (first : SinkTold) → IsWhole fm first sink job text → FrontIn fm first now job) → (later ≡ net) ⊎ WindsUpNet laws net later
    → RunIsOver laws gives has_told start end source sink batches telling net → IsShort laws gives reads_on has_told form start source now later
short_end {laws} {B} {T} gives reads_on has_told form start end source sink now batches telling net later text puts front since over =
    let u = over.under_way in
    let job = job_with laws start u.inputs in
    record {
      batches = batches;
      end = End end;
      at = source;
      inputs = u.inputs;
      given = u.given;
      last = inl refl;
      stood = record { before = net; stands = u.stands; since = since };
      front = inr (front form job.job start.sink (whole_told has_told form job start.sink sink net telling text u.stands over.all u.is_told puts));
      unended = λ more. absurd more;
    }

pub winds_keep : {laws : Laws} (net now : NetView) → (now ≡ net) ⊎ WindsUpNet laws net now → Keeps net now
winds_keep {laws} net now (inl same) = record { plan = ap (λ (v : NetView). v.plan) same; spare = ap (λ (v : NetView). v.spare) same }
winds_keep {laws} net now (inr winds) = record { plan = ap (λ (v : NetView). v.plan) winds.parts; spare = ap (λ (v : NetView). v.spare) winds.parts }
