-- How a recorded run that is made again ends.
use Rattle.std.proofs.Common.{◌≡◌, ◌≢◌, inl, inr, ℕ, Bool, true, false, List, [], ◌∷◌, ◌++◌, Option, None, Some, refl, sym, ap, ◌∙◌, subst, append_assoc}
use Rattle.mg_edge.specs.Edge.{SourceTold, SinkTold}
use Rattle.mg_value.specs.Payload.{Plain}
use Rattle.mg_settled.specs.Prefix.{StreamPrefix}
use Rattle.mg_calc.specs.Rules.{Laws}
use Rattle.mg_calc.specs.declared.inputs.Inputs.{Inputs}
use Rattle.mg_calc.specs.declared.plan.Plan.{Plan}
use Rattle.mg_calc.specs.Equations.{IsJob, IsSolution}
use Rattle.mg_calc.specs.Plan.{IsValid}
use Rattle.mg_calc.specs.Told.{BoxTold}
use Rattle.mg_feed.specs.Graph.{GraphInputs, inputs_of}
use Rattle.mg_feed.specs.Accepted.{State, given_by}
use Rattle.mg_feed.specs.Given.{ended_streams}
use Rattle.mg_feed.specs.View.{View}
use Rattle.mg_feed.specs.Stands.{HasAccepted, nothing_taken}
use Rattle.mg_feed.specs.Recorded.{AllRecorded}
use Rattle.mg_feed.specs.Fed.{Reading}
use Rattle.mg_feed.specs.Ran.{MetEnd}
use Rattle.mg_feed.specs.Handed.{HasHanded}
use Rattle.mg_feed.specs.declared.feed_end.FeedEnd.{FeedEnd}
use Rattle.mg_feed.specs.declared.feed_end.FeedEnd.TheVariants.{Ended, Failed as failing}
use Rattle.mg_edge.proofs.Runs.{Gave-start}
use Rattle.mg_feed.proofs.Recording.{accepted-recorded}
use Rattle.mg_feed.proofs.Moving.{unfailed-same}
use Rattle.mg_feed.specs.Lines.{all_lines}
use Rattle.mg_trace.specs.Job.{end_word}
use Rattle.mg_answer.specs.Answer.{Read, is_ended, inputs_by}
use Rattle.mg_answer.specs.Text.{output_text_of}
use Rattle.mg_answer.specs.Devices.{Device, device, RunDevices, run_devices, Untouched, TookFront}
use Rattle.mg_answer.specs.declared.status.Status.{Status}
use Rattle.mg_answer.proofs.Fitting.{recorded-fit}
use Rattle.mg_answer.specs.declared.run.Reporting.{Reporting}
use Rattle.mg_node.specs.Job.{LoggedJob}
use Rattle.mg_sched.specs.Views.{NetView}
use Rattle.mg_sched.specs.StandsFor.{StandsFor, StandsForSome, IsRunning}
use Rattle.mg_sched.specs.Begins.{BeginsNet}
use Rattle.mg_sched.specs.Sweeps.{Becomes}
use Rattle.mg_sched.specs.Taking.{taken_out}
use Rattle.mg_sched.specs.Made.{IsMade, job_of}
use Rattle.mg_sched.specs.GivesBack.{StoodFor}
use Rattle.mg_sched.proofs.Becoming.{becomes_stands, becomes_taken}
use Rattle.mg_drive.specs.Code.Ending.{HadAllOf}
use Rattle.mg_drive.specs.Nets.{Keeps}
use Rattle.mg_drive.proofs.Jobs.{plan_stood}
use Rattle.mg_drive.proofs.RunsEnd.{none_yet}
use Rattle.mg_drive.proofs.Looping.{keeps_on, begins_keep, begins_taken, becomes_keeps, stands_still}
use Rattle.mg_drive.proofs.RecordedRuns.{begun_at}
use Rattle.mg_replay.specs.Opening.{inputs_with}
use Rattle.mg_replay.specs.Replay.{StopsEarly, StopsEarlyAt, WasRead}
use Rattle.mg_replay.specs.Note.{WroteNote}
use Rattle.mg_replay.specs.Replayed.{job_over, WroteJob, Replayed, ReplayedSome}
use Rattle.mg_replay.specs.Reading.{BeginsWithJob, IsReading, IsOpening, HasJob, IsMaking}
use Rattle.mg_replay.specs.Code.Reading.{HasReadInputs}
use Rattle.mg_drive.specs.Code.Tracing.{IsSomeMade}
use Rattle.mg_replay.specs.Code.Nets.{accepts, StandsForPlan, ClosedAllOf, NetReplayed, NetShort, JobReplayed, JobShort}
use Rattle.mg_replay.proofs.JobLines.{lines_then}
use Rattle.mg_replay.specs.declared.trace_end.TraceEnd.{TraceEnd}
use Rattle.mg_replay.specs.declared.trace_end.TraceEnd.TheVariants.{Accepted, Refused, Failed}

-- The begin --

-- nothing was read
pub opening_none : (plan : Plan) (told : SourceTold) (read : Reading) (number : ℕ) (view : View) → read ≡ record { kept = []; ended = false } → number ≡ 0 → view.graph ≡ inputs_of plan → HasAccepted [] (nothing_taken (inputs_of plan)) view
    → IsOpening plan told told read number view
opening_none plan told read number view unread none graph stands = record {
  lines = [];
  reading = record {
    came = [];
    gave = Gave-start told.left;
    met = subst (λ (r : Reading). MetEnd false r.ended told told) (sym unread) refl;
    unfailed = unfailed-same told;
    handed = subst (HasHanded [] []) (sym unread) (record { whole = tt; is = refl });
    counted = none;
  };
  graph = graph;
  stands = accepted-recorded [] view (subst (λ (g : GraphInputs). HasAccepted [] (nothing_taken g) view) (sym graph) stands);
  packets = tt;
}

-- what the packet lines give a graph
abbrev inputs_same : (inputs : Inputs) (ss : List (StreamPrefix Plain)) (sides : List (Option Plain)) (ended : Bool) → inputs.streams ≡ ss → inputs.sides ≡ sides → inputs.ended ≡ ended → inputs ≡ record { streams = ss; sides = sides; ended = ended }
inputs_same inputs ss sides ended a b c = λ i. record { streams = a i; sides = b i; ended = c i }

abbrev pub has_inputs : (plan : Plan) (ended : Bool) (first now : SourceTold) (read : Reading) (number : ℕ) (view : View) (inputs : Inputs) → HasJob plan ended first now read number view → inputs.streams ≡ ended_streams ended view.given.streams → inputs.sides ≡ view.given.sides
    → inputs.ended ≡ ended → HasReadInputs plan inputs first now read number
has_inputs plan ended first now read number view inputs h streams sides is =
    let given : view.given ≡ given_by (inputs_of plan) h.given = h.stands.given ∙ ap (λ (g : GraphInputs). given_by g h.given) h.graph in
    record {
      given = h.given;
      reading = subst (λ (b : Bool). IsReading first now read number (h.given ++ end_word b ∷ [])) (sym is) h.reading;
      packets = h.packets;
      inputs_are = inputs_same inputs (ended_streams inputs.ended (given_by (inputs_of plan) h.given).streams) (given_by (inputs_of plan) h.given).sides inputs.ended
          (streams ∙ ap (λ (b : Bool). ended_streams b view.given.streams) (sym is) ∙ ap (λ (s : State). ended_streams inputs.ended s.streams) given) (sides ∙ ap (λ (s : State). s.sides) given) refl;
    }

-- an end of the input that ended well, or didn't
abbrev end_for : Bool → FeedEnd
end_for true = Ended
end_for false = failing 0

ends_for : (ended : Bool) → is_ended (end_for ended) ≡ ended
ends_for true = refl
ends_for false = refl

pub is_job : (laws : Laws) (plan : Plan) (ended : Bool) (first now : SourceTold) (read : Reading) (number : ℕ) (view : View) (inputs : Inputs) → IsValid plan → HasJob plan ended first now read number view → inputs.streams ≡ ended_streams ended view.given.streams
    → inputs.sides ≡ view.given.sides → inputs.ended ≡ ended → IsJob (job_over laws plan inputs)
is_job laws plan ended first now read number view inputs valid h streams sides is =
    let i = has_inputs plan ended first now read number view inputs h streams sides is in
    let as_read : Read = record { lines = h.given; end = end_for inputs.ended } in
    let same : inputs_with plan h.given inputs.ended ≡ inputs_by (inputs_of plan) as_read = ap (inputs_with plan h.given) (sym (ends_for inputs.ended)) in
    record {
      plan = valid;
      inputs = recorded-fit plan as_read inputs valid (subst (λ (g : GraphInputs). AllRecorded g [] h.given) h.graph h.stands.good) (i.inputs_are ∙ same);
    }

-- the nodes were begun
pub making_begins : {laws : Laws} (plan : Plan) (inputs : Inputs) (boxes : List BoxTold) (first now : SourceTold) (read : Reading) (number : ℕ) (made begun : NetView) → IsMade laws plan inputs boxes made → BeginsNet laws made begun
    → ((job : LoggedJob laws) → StandsFor job made → StandsFor job begun) → IsRunning begun → HasReadInputs plan inputs first now read number → IsMaking laws plan boxes inputs first now read number begun
making_begins {laws} plan inputs boxes first now read number made begun is begins keeps running h = record {
  lines = h.given ++ end_word inputs.ended ∷ [];
  reading = h.reading;
  has_run = record {
    given = h.given;
    packets = h.packets;
    inputs_are = h.inputs_are;
    begun = begun;
    begins = begun_at plan inputs boxes made begun is begins keeps running;
    events = [];
    are_events = tt;
    run = refl;
    lines_are = refl;
  };
}

-- only the lines of the job were read
pub opened_yet : (plan : Plan) (inputs : Inputs) (first now : SourceTold) (read : Reading) (number : ℕ) → HasReadInputs plan inputs first now read number → BeginsWithJob plan (device first now) inputs
opened_yet plan inputs first now read number h = record {
  came = h.reading.came;
  gave = h.reading.gave;
  ended = read.ended;
  met = h.reading.met;
  given = h.given;
  packets = h.packets;
  inputs_are = h.inputs_are;
  opens = λ more fits. (
    all_lines (read.kept ++ more),
    lines_then first now read number (h.given ++ end_word inputs.ended ∷ []) h.reading more fits ∙ append_assoc h.given (end_word inputs.ended ∷ []) (all_lines (read.kept ++ more)),
  );
}

-- The net --

pub stands_begun : {laws : Laws} (plan : Plan) (made begun : NetView) → IsSomeMade laws plan made → ((job : LoggedJob laws) → StandsFor job made → StandsFor job begun) → StandsForPlan laws plan begun
stands_begun {laws} plan made begun some keeps = record { job = job_of laws plan some.inputs some.boxes; plan_is = refl; stands = keeps (job_of laws plan some.inputs some.boxes) some.made.stands }

pub stands_later : {laws : Laws} (plan : Plan) (begun later : NetView) → IsRunning begun → StandsForPlan laws plan begun → Becomes laws begun later → StandsForPlan laws plan later
stands_later {laws} plan begun later running some becomes = record { job = some.job; plan_is = some.plan_is; stands = becomes_stands some.job begun later running some.stands becomes }

pub some_stands : {laws : Laws} (plan : Plan) (net : NetView) → StandsForPlan laws plan net → StandsForSome laws net
some_stands {laws} plan net some = record { job = some.job; stands = some.stands }

pub plan_is_of : {laws : Laws} (plan : Plan) (net : NetView) → StandsForPlan laws plan net → net.plan ≡ plan
plan_is_of {laws} plan net some = plan_stood some.job net some.stands ∙ some.plan_is

-- no set was taken out of it yet
pub none_taken : {laws : Laws} (plan : Plan) (inputs : Inputs) (boxes : List BoxTold) (made begun later : NetView) → IsMade laws plan inputs boxes made → BeginsNet laws made begun → Becomes laws begun later → taken_out later ≡ 0
none_taken {laws} plan inputs boxes made begun later is begins becomes = becomes_taken begun later becomes ∙ begins_taken made begun begins ∙ none_yet plan inputs boxes made is

pub keeps_later : {laws : Laws} (made begun later : NetView) → BeginsNet laws made begun → Becomes laws begun later → Keeps made later
keeps_later {laws} made begun later begins becomes = keeps_on made begun later (begins_keep made begun begins) (becomes_keeps begun later becomes)

-- it stood for its job
pub stood_later : {laws : Laws} (job : LoggedJob laws) (begun later : NetView) → IsRunning begun → StandsFor job begun → Becomes laws begun later → StoodFor job later
stood_later {laws} job begun later running stands becomes = stands_still job later (becomes_stands job begun later running stands becomes)

-- The end of a net --

pub is_accepted : (end : TraceEnd) → accepts end ≡ true → end ≡ Accepted
is_accepted Accepted is = refl
is_accepted (Refused line cause) is = cc
is_accepted (Failed lines) is = cc

pub not_accepted : (end : TraceEnd) → accepts end ≡ false → end ≢ Accepted
not_accepted Accepted is = λ same. cc
not_accepted (Refused line cause) is = λ same. cc
not_accepted (Failed lines) is = λ same. cc

pub net_accepted : {laws : Laws} (report : Reporting) (plan : Plan) (inputs : Inputs) (boxes : List BoxTold) (ended : Bool) (end : TraceEnd) (status : Status) (input : Device SourceTold) (output notes : Device SinkTold) (net : NetView) → end ≡ Accepted → ended ≡ inputs.ended
    → WasRead laws plan boxes input (Some inputs) end → WroteJob ended report (job_over laws plan inputs) status output notes → HadAllOf (job_of laws plan inputs boxes) net → StoodFor (job_of laws plan inputs boxes) net
    → NetReplayed laws report plan inputs boxes status (run_devices input output notes) net
net_accepted {laws} report plan inputs boxes ended end status input output notes net is same read wrote had stood = record {
  end = Accepted;
  read = subst (WasRead laws plan boxes input (Some inputs)) is read;
  wrote = subst (λ (b : Bool). WroteJob b report (job_over laws plan inputs) status output notes) same wrote;
  had = had;
  stood = stood;
}

pub net_refused : {laws : Laws} (report : Reporting) (plan : Plan) (inputs : Inputs) (boxes : List BoxTold) (end : TraceEnd) (status : Status) (input : Device SourceTold) (output notes : Device SinkTold) (net : NetView) → end ≢ Accepted
    → WasRead laws plan boxes input (Some inputs) end → Untouched output → WroteNote end status notes → ClosedAllOf (job_of laws plan inputs boxes) net → StoodFor (job_of laws plan inputs boxes) net
    → NetReplayed laws report plan inputs boxes status (run_devices input output notes) net
net_refused {laws} report plan inputs boxes Accepted status input output notes net other read untouched wrote had stood = absurd (other refl)
net_refused {laws} report plan inputs boxes (Refused line cause) status input output notes net other read untouched wrote had stood =
    record { end = Refused line cause; read = read; wrote = (untouched, wrote); had = had; stood = stood }
net_refused {laws} report plan inputs boxes (Failed lines) status input output notes net other read untouched wrote had stood =
    record { end = Failed lines; read = read; wrote = (untouched, wrote); had = had; stood = stood }

-- Memory ran out --

pub short_begun : {laws : Laws} (plan : Plan) (inputs : Inputs) (boxes : List BoxTold) (first now : SourceTold) (read : Reading) (number : ℕ) (output notes : Device SinkTold) (net : NetView) → HasReadInputs plan inputs first now read number → Untouched output
    → StoodFor (job_of laws plan inputs boxes) net → NetShort laws plan inputs boxes (run_devices (device first now) output notes) net
short_begun {laws} plan inputs boxes first now read number output notes net h untouched stood = record { took = inl untouched; opened = opened_yet plan inputs first now read number h; stood = stood }

pub short_events : {laws : Laws} (plan : Plan) (inputs : Inputs) (boxes : List BoxTold) (input : Device SourceTold) (output notes : Device SinkTold) (net : NetView) → BeginsWithJob plan input inputs → Untouched output → StoodFor (job_of laws plan inputs boxes) net
    → NetShort laws plan inputs boxes (run_devices input output notes) net
short_events {laws} plan inputs boxes input output notes net opened untouched stood = record { took = inl untouched; opened = opened; stood = stood }

pub short_accepted : {laws : Laws} (plan : Plan) (inputs : Inputs) (boxes : List BoxTold) (end : TraceEnd) (input : Device SourceTold) (output notes : Device SinkTold) (net : NetView) → end ≡ Accepted → WasRead laws plan boxes input (Some inputs) end → BeginsWithJob plan input inputs
    → ((streams : List (StreamPrefix Plain)) → IsSolution (job_over laws plan inputs) streams → TookFront output (output_text_of plan streams)) → StoodFor (job_of laws plan inputs boxes) net → NetShort laws plan inputs boxes (run_devices input output notes) net
short_accepted {laws} plan inputs boxes end input output notes net is read opened front stood = record { took = inr (subst (WasRead laws plan boxes input (Some inputs)) is read, front); opened = opened; stood = stood }

-- The call --

pub of_job : {laws : Laws} (report : Reporting) (plan : Plan) (inputs : Inputs) (status : Status) (devices : RunDevices) (boxes : Device (List BoxTold)) → JobReplayed laws report plan inputs status devices boxes → Replayed laws report plan status devices boxes
of_job {laws} report plan inputs status devices boxes h = record { job = Some inputs; end = h.end; read = h.read; wrote = h.wrote; had = h.had }

pub of_short : {laws : Laws} (plan : Plan) (inputs : Inputs) (devices : RunDevices) (boxes : Device (List BoxTold)) → JobShort laws plan inputs devices boxes → ReplayedSome laws plan devices boxes
of_short {laws} plan inputs devices boxes h = inr (record {
  inputs = inputs;
  opened = h.opened;
  had = h.fronts;
  took = elim h.took [
    | inl untouched ↦ inl untouched
    | inr took ↦ inr (took.0, took.1 h.fronts.streams h.fronts.solution)
  ];
})

-- the lines ended before the job was told
never_accepted : (plan : Plan) (lines : List (List ℕ)) → StopsEarly plan lines Accepted → ⊥
never_accepted plan lines s = by s.tail s.stops
  where
    by : (tail : List (List ℕ)) → StopsEarlyAt plan s.given tail Accepted → ⊥
    by [] is = absurd cc
    by (line ∷ more) is = absurd (let e = is.1.2 in cc)

pub of_early : {laws : Laws} (report : Reporting) (plan : Plan) (end : TraceEnd) (status : Status) (input : Device SourceTold) (output notes : Device SinkTold) (boxes : List BoxTold) → WasRead laws plan boxes input None end → Untouched output → WroteNote end status notes
    → Replayed laws report plan status (run_devices input output notes) (device boxes boxes)
of_early {laws} report plan Accepted status input output notes boxes read untouched wrote = absurd (never_accepted plan _ read.by.1)
of_early {laws} report plan (Refused line cause) status input output notes boxes read untouched wrote = record { job = None; end = Refused line cause; read = read; wrote = (untouched, wrote); had = refl }
of_early {laws} report plan (Failed lines) status input output notes boxes read untouched wrote = record { job = None; end = Failed lines; read = read; wrote = (untouched, wrote); had = refl }
