-- What a run over lines came to.
use Rattle.std.proofs.Common.{◌≡◌, ◌⊎◌, inl, inr, ℕ, List, [], ◌++◌, take, drop, Bool, true, false, refl, sym, ap, ◌∙◌, subst, take-append-drop}
use Rattle.std.proofs.lemmas.Grind.{flat_map-append}
use Rattle.mg_edge.specs.Edge.{SourceTold, SinkTold}
use Rattle.mg_value.specs.Payload.{Plain}
use Rattle.mg_settled.specs.Prefix.{StreamPrefix}
use Rattle.mg_settled.specs.Settled.{TimedSet}
use Rattle.mg_settled.specs.Extension.{AreExtendedBy}
use Rattle.mg_calc.specs.Rules.{Laws}
use Rattle.mg_calc.specs.declared.inputs.Inputs.{Inputs}
use Rattle.mg_calc.specs.declared.plan.Plan.{Plan}
use Rattle.mg_calc.specs.Plan.{IsValid}
use Rattle.mg_calc.specs.Told.{BoxTold}
use Rattle.mg_calc.specs.Equations.{IsJob, IsSolution}
use Rattle.mg_feed.specs.Graph.{GraphInputs, inputs_of}
use Rattle.mg_feed.specs.Lines.{all_lines}
use Rattle.mg_feed.specs.Accepted.{accepted, given_by}
use Rattle.mg_feed.specs.Given.{ended_streams}
use Rattle.mg_feed.specs.Stands.{AllGood}
use Rattle.mg_feed.specs.Ran.{EndCame, MetEnd}
use Rattle.mg_feed.specs.Fed.{Fed}
use Rattle.mg_feed.specs.declared.feed_end.FeedEnd.{FeedEnd}
use Rattle.mg_feed.specs.declared.feed_end.BatchEnd.{BatchEnd}
use Rattle.mg_feed.specs.declared.feed_end.BatchEnd.TheVariants.{More, End}
use Rattle.mg_feed.proofs.Accepting.{good-accepted}
use Rattle.mg_feed.proofs.Coming.{came-front}
use Rattle.mg_feed.proofs.Growing.{streams-grow, sides-stay}
use Rattle.mg_answer.specs.Text.{output_names, set_text, sets_text, output_text_of}
use Rattle.mg_answer.specs.Answer.{Read, by_lines, packet_lines, is_ended, ended_input, job_of}
use Rattle.mg_answer.specs.Devices.{Device, device, RunDevices, IsFront, TookFront}
use Rattle.mg_answer.specs.Put.{TextView, nothing_put, HasPut}
use Rattle.mg_answer.specs.Wrote.{Wrote}
use Rattle.mg_answer.specs.Ran.{CameTo, ReadSome}
use Rattle.mg_answer.specs.declared.status.Status.{Status}
use Rattle.mg_answer.proofs.Writing.{front-on, put-front, nothing-put}
use Rattle.mg_answer.proofs.Gathering.{came-by, read-none, read-came}
use Rattle.mg_answer.proofs.LongerTexts.{texts-grow}
use Rattle.mg_answer.proofs.Fitting.{accepted-fit}
use Rattle.mg_answer.specs.declared.run.Reporting.{Reporting}
use Rattle.mg_node.specs.Job.{LoggedJob, Solves}
use Rattle.mg_node.specs.Batches.{Grows}
use Rattle.mg_sched.specs.Views.{NetView}
use Rattle.mg_sched.specs.Made.{BoxesFit}
use Rattle.mg_sched.specs.GivesBack.{given_back, StoodFor}
use Rattle.mg_sched.specs.Taking.{settled_outputs}
use Rattle.mg_sched.proofs.Solved.{solved}
use Rattle.mg_sched.proofs.OutputsTaken.{outputs_by_default}
use Rattle.mg_drive.specs.Batches.{IsMore, logged}
use Rattle.mg_drive.specs.Told.{HasLines}
use Rattle.mg_drive.specs.Leaves.{HadCallsOf, HadFronts}
use Rattle.mg_drive.specs.Over.{OverInput, OverFirst}
use Rattle.mg_drive.specs.OneRun.{CalculatorsCameBack, OneRun, OneOut, OneReading}
use Rattle.mg_drive.specs.Code.Running.{IsToldSome, FrontIn}
use Rattle.mg_drive.specs.Code.Lines.{inputs_at, HasReadOn, ReadsOn, IsNew, LinesGave}
use Rattle.mg_drive.proofs.Jobs.{valid_plan}
use Rattle.mg_drive.proofs.BatchesRead.{nothing_read, none_further}
use Rattle.mg_drive.proofs.LinesGoOn.{not_ended}
use Rattle.mg_drive.proofs.FrontsBack.{kept_fronts, kept_now}
use Rattle.mg_drive.proofs.OneRuns.{one_run, one_short}

-- The text --

-- the text of the first sets is a prefix of the text of all sets
pub first_sets : (names : List (List ℕ)) (sets : List (TimedSet Plain)) (n : ℕ) → IsFront (sets_text names (take n sets)) (sets_text names sets)
first_sets names sets n = (sets_text names (drop n sets), ap (sets_text names) (sym (take-append-drop n sets)) ∙ flat_map-append (λ (t : TimedSet Plain). set_text names t.set) (take n sets) (drop n sets))

-- all sets of a job's solution are the text that its streams make
pub all_sets : {laws : Laws} (job : LoggedJob laws) (streams : List (StreamPrefix Plain)) → Solves job streams → sets_text (output_names job.job.plan) (settled_outputs job.job.plan streams) ≡ output_text_of job.job.plan streams
all_sets {laws} job streams solves = ap (sets_text (output_names job.job.plan)) (outputs_by_default job streams solves)

-- nothing is told yet
pub none_told : (plan : Plan) (text : TextView) (sink : SinkTold) → text ≡ nothing_put (output_names plan) → HasLines text plan sink sink []
none_told plan text sink is = record {
  names_are = ap (λ (t : TextView). t.names) is;
  put = subst (λ (t : TextView). HasPut sink sink t []) (sym is) (nothing-put sink (output_names plan));
}

-- a prefix of the lines that tell a job's solution was taken
pub front_lines : {laws : Laws} (job : LoggedJob laws) (first now : SinkTold) → IsJob job.job → IsToldSome HasLines job.job first now ⊎ FrontIn packet_lines first now job.job → FrontIn packet_lines first now job.job
front_lines {laws} job first now is (inr front) = front
front_lines {laws} job first now is (inl some) = λ streams solution.
    let solves : Solves job streams = record { is_job = is; solution = solution } in
    let names = output_names job.job.plan in
    let sets = settled_outputs job.job.plan streams in
    let has = some.is_told.told streams solution in
    front-on (device first now) (sets_text names (take some.taken sets)) (output_text_of job.job.plan streams)
    (subst (λ (whole : List ℕ). IsFront (sets_text names (take some.taken sets)) whole) (all_sets job streams solves) (first_sets names sets some.taken))
    (put-front some.telling.failed first now some.telling.kept (sets_text names (take some.taken sets)) has.put)

-- More comes after the batch --

-- the lines so far are a prefix of the lines that are accepted of the whole input
pub lines_in_front : (plan : Plan) (first at : SourceTold) (fed : Fed) (inputs : Inputs) (gave : LinesGave fed plan first at More inputs) (rest : List ℕ) → (fed.read.ended ≡ true → rest ≡ [])
    → (more : List (List ℕ)) × (accepted (inputs_of plan) (all_lines (gave.past ++ rest)) ≡ gave.lines ++ more)
lines_in_front plan first at fed inputs u rest fits =
    let front = came-front u.past rest u.lines _ fed u.is_read.came fits in
    (front.0, ap (λ (g : GraphInputs). accepted g (all_lines (u.past ++ rest))) (sym u.is_read.graph) ∙ front.1)

front_more : (laws : Laws) (plan : Plan) (first at : SourceTold) (fed : Fed) (inputs : Inputs) (output : Device SinkTold) (gave : LinesGave fed plan first at More inputs) (rest : List ℕ) → IsJob (record { plan = plan; inputs = inputs; laws = laws }) → (fed.read.ended ≡ true → rest ≡ [])
    → FrontIn packet_lines output.before output.now (record { plan = plan; inputs = inputs; laws = laws }) → (streams : List (StreamPrefix Plain))
    → IsSolution (job_of laws plan (ended_input (inputs_of plan) (gave.past ++ rest))) streams → TookFront output (output_text_of plan streams)
front_more laws plan first at fed inputs output u rest is_job fits put streams is =
    let bytes = u.past ++ rest in
    let graph = inputs_of plan in
    let job = logged laws plan inputs [] in
    let found = solved job is_job in
    let front = lines_in_front plan first at fed inputs u rest fits in
    let good : AllGood graph [] (u.lines ++ front.0) = subst (λ (ls : List (List ℕ)). AllGood graph [] ls) front.1 (good-accepted graph [] (all_lines bytes)) in
    let same = sym (sides-stay graph u.lines front.0 good (u.named tt)) in
    let read : IsSolution (record { plan = plan; inputs = inputs_at graph u.lines false; laws = laws }) found.0 = subst (λ (i : Inputs). IsSolution (record { plan = plan; inputs = i; laws = laws }) found.0) u.inputs_are found.1.solution in
    let solution : IsSolution (record { plan = plan; inputs = record { streams = (given_by graph u.lines).streams; sides = (given_by graph u.lines).sides; ended = false }; laws = laws }) found.0 =
    subst (λ (ss : List (StreamPrefix Plain)). IsSolution (record { plan = plan; inputs = record { streams = ss; sides = (given_by graph u.lines).sides; ended = false }; laws = laws }) found.0)
    (not_ended (given_by graph u.lines).streams) read in
    front-on output (output_text_of plan found.0) (output_text_of plan streams)
    (texts-grow laws plan bytes u.lines front.0 found.0 streams is_job.plan good (streams-grow graph u.lines front.0 (is_ended (ended_input graph bytes).end) good) front.1 same solution is) (put found.0 found.1.solution)

-- the job of the lines so far goes on to that of the whole input
goes_on_to : {laws : Laws} (plan : Plan) (handed : List BoxTold) (lines more : List (List ℕ)) (bytes : List ℕ) → IsValid plan → (given_by (inputs_of plan) lines).named ≡ true → accepted (inputs_of plan) (all_lines bytes) ≡ lines ++ more
    → Grows (logged laws plan (inputs_at (inputs_of plan) lines false) handed) (record { job = job_of laws plan (ended_input (inputs_of plan) bytes); boxes = handed; same = refl })
goes_on_to {laws} plan handed lines more bytes valid named is =
    let graph = inputs_of plan in
    let end = (ended_input graph bytes).end in
    let good : AllGood graph [] (lines ++ more) = subst (λ (ls : List (List ℕ)). AllGood graph [] ls) is (good-accepted graph [] (all_lines bytes)) in
    record {
      plan = refl;
      sides = sym (sides-stay graph lines more good named) ∙ ap (λ (ls : List (List ℕ)). (given_by graph ls).sides) (sym is);
      boxes = refl;
      is_job = record { plan = valid; inputs = accepted-fit plan (all_lines bytes) end valid };
      extended = subst (λ (ls : List (List ℕ)). AreExtendedBy (ended_streams false (given_by graph lines).streams) (ended_streams (is_ended end) (given_by graph ls).streams)) (sym is)
          (subst (λ (ss : List (StreamPrefix Plain)). AreExtendedBy ss (ended_streams (is_ended end) (given_by graph (lines ++ more)).streams)) (sym (not_ended (given_by graph lines).streams))
          (streams-grow graph lines more (is_ended end) good));
    }

fronts_more : {laws : Laws} (plan : Plan) (first at : SourceTold) (fed : Fed) (inputs : Inputs) (boxes now : List BoxTold) (net : NetView) → BoxesFit plan boxes → (gave : LinesGave fed plan first at More inputs) (rest : List ℕ) → IsValid plan
    → (fed.read.ended ≡ true → rest ≡ []) → StoodFor (logged laws plan inputs boxes) net → now ≡ given_back net → HadFronts (job_of laws plan (ended_input (inputs_of plan) (gave.past ++ rest))) (device boxes now)
fronts_more {laws} plan first at fed inputs boxes now net fit u rest valid fits stood back =
    let bytes = u.past ++ rest in
    let front = lines_in_front plan first at fed inputs u rest fits in
    let grows = goes_on_to plan boxes u.lines front.0 bytes valid (u.named tt) front.1 in
    let then : StoodFor (logged laws plan (inputs_at (inputs_of plan) u.lines false) boxes) net = subst (λ (i : Inputs). StoodFor (logged laws plan i boxes) net) u.inputs_are stood in
    subst (λ (bs : List BoxTold). HadFronts (job_of laws plan (ended_input (inputs_of plan) bytes)) (device boxes bs)) (sym back)
    (kept_fronts boxes (logged laws plan (inputs_at (inputs_of plan) u.lines false) boxes) (record { job = job_of laws plan (ended_input (inputs_of plan) bytes); boxes = boxes; same = refl }) net fit refl then refl (inr grows) grows.is_job)

-- The input came to its end --

-- what was read of the input
pub came_at : (plan : Plan) (first at : SourceTold) (fed : Fed) (end : FeedEnd) (inputs : Inputs) (gave : LinesGave fed plan first at (End end) inputs) → CameTo (inputs_of plan) (device first at) (record { lines = gave.lines; end = end })
came_at plan first at fed end inputs u =
    came-by (inputs_of plan) (device first at) u.past u.lines end fed.read.ended u.is_read.gave u.is_read.so.1 u.is_read.met u.is_read.so.2 u.is_read.so.0
    (record {
      stops = u.is_read.stops;
      reads = u.is_read.spent;
    })

-- the run was over what was read
pub lines_ran : {laws : Laws} (report : Reporting) (plan : Plan) (devices : RunDevices) (boxes : Device (List BoxTold)) (status : Status) (fed : Fed) (end : FeedEnd) (inputs : Inputs) → LinesGave fed plan devices.input.before devices.input.now (End end) inputs
    → CalculatorsCameBack plan boxes.before boxes.now → Wrote (by_lines report) (record { plan = plan; inputs = inputs; laws = laws }) end status devices.output devices.notes → HadCallsOf (record { plan = plan; inputs = inputs; laws = laws }) boxes
    → OneReading laws report plan status devices boxes
lines_ran {laws} report plan devices boxes status fed end inputs u back wrote had = record {
  read = record { lines = u.lines; end = end };
  came = came_at plan devices.input.before devices.input.now fed end inputs u;
  holds = subst (λ (i : Inputs). OneRun (by_lines report) (record { plan = plan; inputs = i; laws = laws }) end status devices.output devices.notes boxes) u.inputs_are
      (one_run (by_lines report) (record { plan = plan; inputs = inputs; laws = laws }) end status devices.output devices.notes boxes back wrote had);
}

-- Memory ran out --

-- how far the input was read while there was more
pub read_on : (plan : Plan) (input : Device SourceTold) (fed : Fed) (at : SourceTold) (inputs : Inputs) (gave : LinesGave fed plan input.before at More inputs) → (at ≡ input.now) ⊎ (IsMore More × ReadsOn fed plan input.before at input.now)
    → HasReadOn plan input.before at input.now fed.read.ended gave.past
read_on plan input fed at inputs u (inl same) =
    subst (λ (s : SourceTold). HasReadOn plan input.before at s fed.read.ended u.past) same (none_further plan input.before at fed u.past u.lines u.is_read)
read_on plan input fed at inputs u (inr more) = more.1 u.past u.lines u.is_read

pub end_came : (ended : Bool) (before at : SourceTold) → MetEnd false ended before at → ended ≡ true → EndCame before at
end_came ended before at met is = subst (λ (b : Bool). MetEnd false b before at) is met

-- how far the input was read before there was a net: not at all, by a first call, or by a first batch
pub unread_yet : (plan : Plan) (input : Device SourceTold) → input.now ≡ input.before → ReadSome (inputs_of plan) input
unread_yet plan input same = subst (λ (s : SourceTold). ReadSome (inputs_of plan) (device input.before s)) (sym same) (read-none (inputs_of plan) input.before)

pub first_call : (plan : Plan) (input : Device SourceTold) (fed : Fed) → IsNew fed plan → ReadsOn fed plan input.before input.before input.now → ReadSome (inputs_of plan) input
first_call plan input fed new reads = (reads [] [] (nothing_read plan input.before fed new.graph new.stands new.unread)).read

pub first_given : (plan : Plan) (input : Device SourceTold) (fed : Fed) (end : BatchEnd) (inputs : Inputs) → LinesGave fed plan input.before input.now end inputs → ReadSome (inputs_of plan) input
first_given plan input fed More inputs u = (none_further plan input.before input.now fed u.past u.lines u.is_read).read
first_given plan input fed (End end) inputs u =
    read-came (inputs_of plan) input (record { lines = u.lines; end = end }) (came_at plan input.before input.now fed end inputs u)

pub lines_short : {laws : Laws} (plan : Plan) (input : Device SourceTold) (output : Device SinkTold) (boxes now : List BoxTold) (net : NetView) (fed : Fed) (end : BatchEnd) (at : SourceTold) (inputs : Inputs) → BoxesFit plan boxes → LinesGave fed plan input.before at end inputs
    → (at ≡ input.now) ⊎ (IsMore end × ReadsOn fed plan input.before at input.now) → IsJob (record { plan = plan; inputs = inputs; laws = laws }) → FrontIn packet_lines output.before output.now (record { plan = plan; inputs = inputs; laws = laws })
    → StoodFor (logged laws plan inputs boxes) net → now ≡ given_back net → CalculatorsCameBack plan boxes now
    → OverInput (inputs_of plan) input (λ read. OneOut packet_lines (job_of laws plan read) output (device boxes now)) ⊎ OverFirst (inputs_of plan) input (λ read. OneOut packet_lines (job_of laws plan read) output (device boxes now))
lines_short {laws} plan input output boxes now net fed More at inputs fit u last is_job put stood back came = inr (record {
  read = (read_on plan input fed at inputs u last).read;
  first = u.past;
  later = (read_on plan input fed at inputs u last).later;
  split = (read_on plan input fed at inputs u last).split;
  ended = fed.read.ended;
  met = λ is. (
    subst (λ (s : SourceTold). EndCame input.before s) (sym ((read_on plan input fed at inputs u last).none is).0) (end_came fed.read.ended input.before at u.is_read.met is),
    ((read_on plan input fed at inputs u last).none is).1,
  );
  holds = λ rest fits. one_short packet_lines (job_of laws plan (ended_input (inputs_of plan) (u.past ++ rest))) output (device boxes now) came
      (fronts_more plan input.before at fed inputs boxes now net fit u rest is_job.plan fits stood back)
      (front_more laws plan input.before at fed inputs output u rest is_job fits put);
})
lines_short {laws} plan input output boxes now net fed (End end) at inputs fit u (inr more) is_job put stood back came = absurd more.0
lines_short {laws} plan input output boxes now net fed (End end) at inputs fit u (inl same) is_job put stood back came =
    let read : Read = record { lines = u.lines; end = end } in
    inl (record {
      read = read;
      came = subst (λ (s : SourceTold). CameTo (inputs_of plan) (device input.before s) read) same (came_at plan input.before at fed end inputs u);
      holds = subst (λ (i : Inputs). OneOut packet_lines (record { plan = plan; inputs = i; laws = laws }) output (device boxes now)) u.inputs_are
          (one_short packet_lines (record { plan = plan; inputs = inputs; laws = laws }) output (device boxes now) came
          (kept_now boxes now (logged laws plan inputs boxes) net fit refl stood is_job back) put);
    })

-- A job that a net stood for --

pub stood_is_job : {laws : Laws} (job : LoggedJob laws) (net : NetView) → StoodFor job net → IsJob job.job
stood_is_job {laws} job net stood = valid_plan job stood.before stood.stands
