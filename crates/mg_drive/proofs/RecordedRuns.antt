-- How a run is recorded.
use Rattle.std.proofs.Common.{◌≡◌, ◌⊎◌, inl, inr, ℕ, List, [], ◌++◌, length, codes, Bool, true, false, refl, sym, ap, ◌∙◌, subst, append_assoc, append-nil}
use Rattle.mg_edge.specs.Edge.{SourceTold, SinkTold}
use Rattle.mg_edge.proofs.Runs.{TookAll-start}
use Rattle.mg_calc.specs.Rules.{Laws}
use Rattle.mg_calc.specs.declared.event.Event.{Event}
use Rattle.mg_calc.specs.declared.inputs.Inputs.{Inputs}
use Rattle.mg_calc.specs.declared.plan.Plan.{Plan}
use Rattle.mg_calc.specs.Told.{BoxTold}
use Rattle.mg_calc.specs.Equations.{Job, IsJob}
use Rattle.mg_feed.specs.Graph.{inputs_of}
use Rattle.mg_feed.specs.declared.feed_end.FeedEnd.{FeedEnd}
use Rattle.mg_trace.specs.Job.{job_text}
use Rattle.mg_trace.specs.Trace.{events_text, trace_text}
use Rattle.mg_answer.specs.Answer.{OutputForm, in_place, by_lines, by_text, inputs_by, answer_of}
use Rattle.mg_answer.specs.Answer as answers
use Rattle.mg_answer.specs.Devices.{Device, device, run_devices, Untouched, TookFront}
use Rattle.mg_answer.specs.Put.{TextView, BlockView, HasPutIn}
use Rattle.mg_answer.specs.Gathered.{GatheredInputs}
use Rattle.mg_answer.specs.Wrote.{Wrote}
use Rattle.mg_answer.specs.Ran.{ReadSome}
use Rattle.mg_answer.specs.declared.status.Status.{Status}
use Rattle.mg_answer.proofs.Writing.{put-front}
use Rattle.mg_answer.proofs.Gathering.{read-came}
use Rattle.mg_answer.specs.declared.run.Reporting.{Reporting}
use Rattle.mg_node.specs.Job.{LoggedJob}
use Rattle.mg_sched.specs.Views.{NetView}
use Rattle.mg_sched.specs.StandsFor.{StandsFor, IsRunning}
use Rattle.mg_sched.specs.AtRest.{IsAtRest}
use Rattle.mg_sched.specs.Begins.{BeginsNet}
use Rattle.mg_sched.specs.Runs.{IsRun, IsBegun}
use Rattle.mg_sched.specs.Made.{IsMade, BoxesFit, job_of}
use Rattle.mg_sched.specs.WindsUp.{WindsUpNet}
use Rattle.mg_sched.specs.GivesBack.{given_back}
use Rattle.mg_sched.proofs.HadBack.{left_itself}
use Rattle.mg_sched.proofs.Solved.{solved}
use Rattle.mg_drive.specs.Batches.{logged}
use Rattle.mg_drive.specs.Recorded.{HasPutUnless, HasEvents}
use Rattle.mg_drive.specs.Leaves.{AllHadCalls, HadSome, HadFronts, HadCallsOf}
use Rattle.mg_drive.specs.Traced.{IsTrace, TookSomeTrace, TracedOut, Traced}
use Rattle.mg_drive.specs.Code.Running.{HasRested, SomeRested, FrontIn}
use Rattle.mg_drive.specs.Code.Ending.{IsWhole, StoodWith}
use Rattle.mg_drive.specs.Code.Tracing.{plan_job, HasRecorded, HasRecordedSome, NetTraced, NetShort, JobTraced, JobShort}
use Rattle.mg_drive.proofs.Jobs.{valid_plan}
use Rattle.mg_drive.proofs.RunsEnd.{had_of}
use Rattle.mg_drive.proofs.BoxesBack.{all_had_now}
use Rattle.mg_drive.proofs.FrontsBack.{all_are_fronts, kept_now}

-- Events --

-- no event was put yet
pub no_events : (sink : SinkTold) (blocks : BlockView) → HasEvents sink blocks false sink blocks []
no_events sink blocks = λ first text put. subst (λ (l : List ℕ). HasPutIn first sink blocks l) (sym (append-nil text)) put

pub heard_none : (sink : SinkTold) (blocks : BlockView) (out : Bool) → out ≡ false → HasEvents sink blocks out sink blocks []
heard_none sink blocks out is = subst (λ (b : Bool). HasEvents sink blocks b sink blocks []) (sym is) (no_events sink blocks)

-- whether memory ran out or not, the sink took a prefix of the text
pub front_unless : (out : Bool) (first sink : SinkTold) (blocks : BlockView) (text : List ℕ) → HasPutUnless out first sink blocks text → TookFront (device first sink) text
front_unless false first sink blocks text put = put-front blocks.failed first sink blocks.kept text put
front_unless true first sink blocks text front = front

pub put_unless : (out : Bool) (first sink : SinkTold) (blocks : BlockView) (text : List ℕ) → out ≡ false → HasPutUnless out first sink blocks text → HasPutIn first sink blocks text
put_unless false first sink blocks text is put = put
put_unless true first sink blocks text is front = absurd (let no : true ≡ false = is in cc)

-- what heard a run from one net to another put its lines
pub recorded_events : {laws : Laws} (out : Bool) (sink later : SinkTold) (blocks blocks_now : BlockView) (before now : NetView) (events : List Event) → IsRun laws events before now
    → HasEvents sink blocks out later blocks_now events → out ≡ false
    → (first : SinkTold) (lines : List ℕ) → HasPutIn first sink blocks lines → HasRecorded laws first later blocks_now lines [] before now
recorded_events {laws} out sink later blocks blocks_now before now events run has none first lines put = record {
  events = events;
  run = run;
  put = subst (λ (l : List ℕ). HasPutIn first later blocks_now (lines ++ l)) (sym (append-nil (events_text events)))
      (put_unless out first later blocks_now (lines ++ events_text events) none (has first lines put));
}

pub recorded_some : {laws : Laws} (out : Bool) (sink later : SinkTold) (blocks blocks_now : BlockView) (before there : NetView) (events : List Event) → IsRun laws events before there
    → HasEvents sink blocks out later blocks_now events
    → (first : SinkTold) (lines : List ℕ) → HasPutIn first sink blocks lines → HasRecordedSome laws first later lines before
recorded_some {laws} out sink later blocks blocks_now before there events run has first lines put = record {
  there = there;
  events = events;
  run = run;
  front = front_unless out first later blocks_now (lines ++ events_text events) (has first lines put);
}

-- the sink took a prefix of the recorded lines, if nothing was written since
pub recorded_front : {laws : Laws} (first sink now : SinkTold) (blocks : BlockView) (lines : List ℕ) (before there : NetView) → HasRecorded laws first sink blocks lines [] before there → now ≡ sink → HasRecordedSome laws first now lines before
recorded_front {laws} first sink now blocks lines before there r same = record {
  there = there;
  events = r.events;
  run = r.run;
  front = subst (λ (s : SinkTold). TookFront (device first s) (lines ++ events_text r.events)) (sym same)
      (subst (λ (l : List ℕ). TookFront (device first sink) (lines ++ l)) (append-nil (events_text r.events))
      (put-front blocks.failed first sink blocks.kept (lines ++ (events_text r.events ++ [])) r.put));
}

end_behind : (lines events end : List ℕ) → (lines ++ (events ++ [])) ++ end ≡ lines ++ (events ++ end)
end_behind lines events end = append_assoc lines (events ++ []) end ∙ ap (λ (l : List ℕ). lines ++ (l ++ end)) (append-nil events)

-- a last line was put after the recorded lines
pub recorded_end : {laws : Laws} (first sink now : SinkTold) (blocks blocks_now : BlockView) (text : TextView) (lines end : List ℕ) (before there : NetView) → HasRecorded laws first sink blocks lines [] before there
    → ((f : SinkTold) (t : List ℕ) → HasPutIn f sink blocks t → HasPutIn f now blocks_now (t ++ end)) → text ≡ record { names = []; kept = blocks_now.kept; failed = blocks_now.failed }
    → HasRecorded laws first now (record { kept = text.kept; failed = text.failed }) lines end before there
recorded_end {laws} first sink now blocks blocks_now text lines end before there r put is = record {
  events = r.events;
  run = r.run;
  put = subst (λ (t : TextView). HasPutIn first now (record { kept = t.kept; failed = t.failed }) (lines ++ (events_text r.events ++ end))) (sym is)
      (subst (λ (l : List ℕ). HasPutIn first now blocks_now l) (end_behind lines (events_text r.events) end) (put first (lines ++ (events_text r.events ++ [])) r.put));
}

-- The run --

-- the runs of a job begin where its net was made and its nodes are begun
pub begun_at : {laws : Laws} (plan : Plan) (inputs : Inputs) (boxes : List BoxTold) (made begun : NetView) → IsMade laws plan inputs boxes made → BeginsNet laws made begun
    → ((job : LoggedJob laws) → StandsFor job made → StandsFor job begun) → IsRunning begun → IsBegun laws plan inputs boxes begun
begun_at {laws} plan inputs boxes made begun is begins keeps running = record { made = made; is_made = is; begins = begins; stands = keeps (job_of laws plan inputs boxes) is.stands; running = running }

-- the net has come to rest
pub rested_now : {laws : Laws} (plan : Plan) (inputs : Inputs) (boxes : List BoxTold) (begun rested : NetView) → IsBegun laws plan inputs boxes begun
    → ((job : LoggedJob laws) → StandsFor job begun → StandsFor job rested) → IsRunning rested → IsAtRest laws rested → HasRested (job_of laws plan inputs boxes) rested
rested_now {laws} plan inputs boxes begun rested is keeps running rests = record { rested = rested; stands = keeps (job_of laws plan inputs boxes) is.stands; running = running; rests = rests; since = left_itself rested }

pub some_rested_now : {laws : Laws} (plan : Plan) (inputs : Inputs) (boxes : List BoxTold) (begun rested : NetView) → IsBegun laws plan inputs boxes begun
    → ((job : LoggedJob laws) → StandsFor job begun → StandsFor job rested) → IsRunning rested → IsAtRest laws rested → SomeRested laws plan rested
some_rested_now {laws} plan inputs boxes begun rested is keeps running rests = record {
  job = job_of laws plan inputs boxes;
  plan_is = refl;
  stands = keeps (job_of laws plan inputs boxes) is.stands;
  has_rested = rested_now plan inputs boxes begun rested is keeps running rests;
}

-- a trace of the job was put
pub trace_put : {laws : Laws} (plan : Plan) (inputs : Inputs) (boxes : List BoxTold) (first sink : SinkTold) (blocks : BlockView) (begun rested : NetView) → IsBegun laws plan inputs boxes begun → IsAtRest laws rested
    → (r : HasRecorded laws first sink blocks (job_text plan inputs) (codes "end\n") begun rested) → IsTrace laws plan inputs boxes (trace_text plan inputs r.events)
trace_put {laws} plan inputs boxes first sink blocks begun rested is rests r = record {
  events = r.events;
  run = record { begun = begun; begins = is; rested = rested; run = r.run; rests = rests };
  is = refl;
}

-- the run was recorded, and its answer was written
pub net_traced : {laws : Laws} (report : Reporting) (plan : Plan) (inputs : Inputs) (boxes : List BoxTold) (end : FeedEnd) (status : Status) (first sink now : SinkTold) (notes : Device SinkTold) (text : TextView) (begun rested wound : NetView)
    → IsBegun laws plan inputs boxes begun → ((job : LoggedJob laws) → StandsFor job begun → StandsFor job rested) → IsRunning rested → IsAtRest laws rested
    → HasRecorded laws first sink (record { kept = text.kept; failed = text.failed }) (job_text plan inputs) (codes "end\n") begun rested
    → ((form : OutputForm) (job : LoggedJob laws) (f : SinkTold) → job.job.plan ≡ plan → StandsFor job rested → HasRested job rested → IsWhole form f sink job.job text
    → Wrote (record { form = form; report = report }) job.job end status (device f now) notes)
    → WindsUpNet laws rested wound → wound.wound ≡ length rested.plan.nodes → NetTraced laws report plan inputs boxes end status (device first now) notes wound
net_traced {laws} report plan inputs boxes end status first sink now notes text begun rested wound is keeps running rests r wrote winds all =
    let job = job_of laws plan inputs boxes in
    let stands = keeps job is.stands in
    let whole = trace_text plan inputs r.events in
    record {
      text = whole;
      trace = trace_put plan inputs boxes first sink (record { kept = text.kept; failed = text.failed }) begun rested is rests r;
      wrote = wrote (in_place whole) job first refl stands (rested_now plan inputs boxes begun rested is keeps running rests) (λ streams solution. r.put);
      had = had_of job rested wound stands (rested_now plan inputs boxes begun rested is keeps running rests) winds all;
      stood = record { before = rested; stands = stands; since = inr winds };
    }

-- memory ran out while nodes were begun
pub short_begun : {laws : Laws} (plan : Plan) (inputs : Inputs) (boxes : List BoxTold) (first sink : SinkTold) (made begun : NetView) → IsMade laws plan inputs boxes made
    → ((job : LoggedJob laws) → StandsFor job made → StandsFor job begun) → NetShort laws plan inputs boxes sink (device first sink) begun
short_begun {laws} plan inputs boxes first sink made begun is keeps = record {
  took = inl refl;
  stood = record { before = begun; stands = keeps (job_of laws plan inputs boxes) is.stands; since = inl refl };
}

-- memory ran out while the net ran
pub short_run : {laws : Laws} (plan : Plan) (inputs : Inputs) (boxes : List BoxTold) (first sink now : SinkTold) (begun later : NetView) → IsBegun laws plan inputs boxes begun
    → ((job : LoggedJob laws) → StandsFor job begun → StandsFor job later) → HasRecordedSome laws first now (job_text plan inputs) begun → NetShort laws plan inputs boxes sink (device first now) later
short_run {laws} plan inputs boxes first sink now begun later is keeps r = record {
  took = inr (inr (r.events, record { begun = begun; begins = is; now = r.there; run = r.run }, r.front));
  stood = record { before = later; stands = keeps (job_of laws plan inputs boxes) is.stands; since = inl refl };
}

-- memory ran out once all was put
pub short_end : {laws : Laws} (plan : Plan) (inputs : Inputs) (boxes : List BoxTold) (first sink put now : SinkTold) (text : TextView) (begun rested later : NetView) → IsBegun laws plan inputs boxes begun
    → ((job : LoggedJob laws) → StandsFor job begun → StandsFor job rested) → IsAtRest laws rested
    → HasRecorded laws first put (record { kept = text.kept; failed = text.failed }) (job_text plan inputs) (codes "end\n") begun rested
    → ((form : OutputForm) (job : Job) (f : SinkTold) → IsWhole form f put job text → FrontIn form f now job) → (later ≡ rested) ⊎ WindsUpNet laws rested later
    → NetShort laws plan inputs boxes sink (device first now) later
short_end {laws} plan inputs boxes first sink put now text begun rested later is keeps rests r front since =
    let job = job_of laws plan inputs boxes in
    let stands = keeps job is.stands in
    let found = solved job (valid_plan job rested stands) in
    let whole = trace_text plan inputs r.events in
    record {
      took = inr (inl (
        whole,
        trace_put plan inputs boxes first put (record { kept = text.kept; failed = text.failed }) begun rested is rests r,
        front (in_place whole) job.job first (λ streams solution. r.put) found.0 found.1.solution,
      ));
      stood = record { before = rested; stands = stands; since = since };
    }

-- The calculators --

pub job_traced : {laws : Laws} (report : Reporting) (plan : Plan) (inputs : Inputs) (boxes handed now : List BoxTold) (end : FeedEnd) (status : Status) (output notes : Device SinkTold) (made net : NetView) → BoxesFit plan boxes
    → handed ≡ boxes → now ≡ given_back net → NetTraced laws report plan inputs handed end status output notes net → JobTraced laws report plan inputs end status output notes (device boxes now)
job_traced {laws} report plan inputs boxes handed now end status output notes made net fit same back h =
    let k : NetTraced laws report plan inputs boxes end status output notes net = subst (λ (bs : List BoxTold). NetTraced laws report plan inputs bs end status output notes net) same h in
    record {
      text = k.text;
      trace = k.trace;
      wrote = k.wrote;
      had = all_had_now (logged laws plan inputs boxes) boxes now net fit refl back k.had;
    }

pub job_short : {laws : Laws} (plan : Plan) (inputs : Inputs) (boxes handed now : List BoxTold) (before later : SinkTold) (net : NetView) → handed ≡ boxes → now ≡ given_back net
    → NetShort laws plan inputs handed before (device before later) net → JobShort laws plan inputs (device before later) (device boxes now)
job_short {laws} plan inputs boxes handed now before later net same back h =
    let k : NetShort laws plan inputs boxes before (device before later) net = subst (λ (bs : List BoxTold). NetShort laws plan inputs bs before (device before later) net) same h in
    record { took = k.took; net = net; stood = k.stood; back = back }

pub stood_traced : {laws : Laws} (report : Reporting) (plan : Plan) (inputs : Inputs) (boxes handed : List BoxTold) (end : FeedEnd) (status : Status) (output notes : Device SinkTold) (net : NetView) → handed ≡ boxes
    → NetTraced laws report plan inputs handed end status output notes net → StoodWith laws boxes net
stood_traced {laws} report plan inputs boxes handed end status output notes net same h = record { job = job_of laws plan inputs handed; stood = h.stood; boxes_are = same }

pub stood_untraced : {laws : Laws} (plan : Plan) (inputs : Inputs) (boxes handed : List BoxTold) (before : SinkTold) (output : Device SinkTold) (net : NetView) → handed ≡ boxes
    → NetShort laws plan inputs handed before output net → StoodWith laws boxes net
stood_untraced {laws} plan inputs boxes handed before output net same h = record { job = job_of laws plan inputs handed; stood = h.stood; boxes_are = same }

-- Over what was read of the input --

traced_of : {laws : Laws} (report : Reporting) (plan : Plan) (inputs : Inputs) (input : Device SourceTold) (end : FeedEnd) (status : Status) (output notes : Device SinkTold) (boxes : Device (List BoxTold)) (gathered : GatheredInputs (inputs_of plan) input end inputs)
    → JobTraced laws report plan (inputs_by (inputs_of plan) gathered.read) gathered.read.end status output notes boxes → Traced laws report plan boxes.before status (run_devices input output notes)
traced_of {laws} report plan inputs input end status output notes boxes gathered j = inl (record {
  read = gathered.read;
  came = gathered.came;
  holds = record {
    answer = answer_of (by_text j.text report) (answers.job_of laws plan gathered.read) gathered.read.end j.wrote.streams;
    is = record {
      text = j.text;
      trace = j.trace;
      of_run = answer_of (by_lines report) (answers.job_of laws plan gathered.read) gathered.read.end j.wrote.streams;
      is_answer = record { streams = j.wrote.streams; solution = j.wrote.solution; is = refl };
      is = refl;
    };
    by = j.wrote.by;
  };
})

-- the job is that of what was read
job_read : {laws : Laws} (report : Reporting) (plan : Plan) (inputs : Inputs) (input : Device SourceTold) (end : FeedEnd) (status : Status) (output notes : Device SinkTold) (boxes : Device (List BoxTold)) (gathered : GatheredInputs (inputs_of plan) input end inputs)
    → JobTraced laws report plan inputs end status output notes boxes → JobTraced laws report plan (inputs_by (inputs_of plan) gathered.read) gathered.read.end status output notes boxes
job_read {laws} report plan inputs input end status output notes boxes gathered j =
    subst (λ (e : FeedEnd). JobTraced laws report plan (inputs_by (inputs_of plan) gathered.read) e status output notes boxes) gathered.ended
    (subst (λ (i : Inputs). JobTraced laws report plan i end status output notes boxes) gathered.given j)

pub traced_read : {laws : Laws} (report : Reporting) (plan : Plan) (inputs : Inputs) (input : Device SourceTold) (end : FeedEnd) (status : Status) (output notes : Device SinkTold) (boxes : Device (List BoxTold)) → GatheredInputs (inputs_of plan) input end inputs
    → JobTraced laws report plan inputs end status output notes boxes → Traced laws report plan boxes.before status (run_devices input output notes)
traced_read {laws} report plan inputs input end status output notes boxes gathered j = traced_of report plan inputs input end status output notes boxes gathered (job_read report plan inputs input end status output notes boxes gathered j)

pub had_read : {laws : Laws} (report : Reporting) (plan : Plan) (inputs : Inputs) (input : Device SourceTold) (end : FeedEnd) (status : Status) (output notes : Device SinkTold) (boxes : Device (List BoxTold)) → GatheredInputs (inputs_of plan) input end inputs
    → JobTraced laws report plan inputs end status output notes boxes → AllHadCalls laws plan input boxes
had_read {laws} report plan inputs input end status output notes boxes gathered j = record {
  read = gathered.read;
  came = gathered.came;
  holds = subst (λ (i : Inputs). HadCallsOf (plan_job laws plan i) boxes) gathered.given j.had;
}

-- so much was read
pub read_through : (plan : Plan) (inputs : Inputs) (input : Device SourceTold) (end : FeedEnd) → GatheredInputs (inputs_of plan) input end inputs → ReadSome (inputs_of plan) input
read_through plan inputs input end gathered = read-came (inputs_of plan) input gathered.read gathered.came

-- memory ran out
pub short_read : {laws : Laws} (plan : Plan) (inputs : Inputs) (input : Device SourceTold) (end : FeedEnd) (output notes : Device SinkTold) (boxes : Device (List BoxTold)) → GatheredInputs (inputs_of plan) input end inputs
    → JobShort laws plan inputs output boxes → TracedOut laws plan boxes.before (run_devices input output notes)
short_read {laws} plan inputs input end output notes boxes gathered j = by j.took
  where
    by : Untouched output ⊎ TookSomeTrace laws plan inputs boxes.before output → TracedOut laws plan boxes.before (run_devices input output notes)
    by (inl untouched) = inl untouched
    by (inr took) = inr (record {
      read = gathered.read;
      came = gathered.came;
      holds = subst (λ (i : Inputs). TookSomeTrace laws plan i boxes.before output) gathered.given took;
    })

pub some_read : {laws : Laws} (plan : Plan) (inputs : Inputs) (input : Device SourceTold) (end : FeedEnd) (output : Device SinkTold) (boxes now : List BoxTold) → BoxesFit plan boxes → IsJob (plan_job laws plan inputs) → GatheredInputs (inputs_of plan) input end inputs
    → JobShort laws plan inputs output (device boxes now) → HadSome laws plan input (device boxes now)
some_read {laws} plan inputs input end output boxes now fit is gathered j = inr (record {
  read = gathered.read;
  came = gathered.came;
  holds = subst (λ (i : Inputs). HadFronts (plan_job laws plan i) (device boxes now)) gathered.given
      (kept_now boxes now (logged laws plan inputs boxes) j.net fit refl j.stood is j.back);
})

pub all_are_some : {laws : Laws} (plan : Plan) (input : Device SourceTold) (boxes : Device (List BoxTold)) → BoxesFit plan boxes.before → AllHadCalls laws plan input boxes → HadSome laws plan input boxes
all_are_some {laws} plan input boxes fit h = inr (record { read = h.read; came = h.came; holds = all_are_fronts (answers.job_of laws plan h.read) boxes fit h.holds })

-- a text that was put whole and isn't written yet
pub opened : (sink : SinkTold) (blocks : BlockView) (text : List ℕ) → blocks ≡ record { kept = text; failed = false } → HasPutIn sink sink blocks text
opened sink blocks text is = subst (λ (b : BlockView). HasPutIn sink sink b text) (sym is) ([], record { whole = TookAll-start sink.taken; steady = refl }, refl)
