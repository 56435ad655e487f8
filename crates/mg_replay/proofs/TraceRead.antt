-- The text of a recorded run is read as that run, and it is accepted.
use Rattle.std.proofs.Common.{◌≡◌, inl, inr, ℕ, zero, suc, ◌-◌, ◌<◌, ◌≤◌, ◌^◌, Bool, true, false, List, [], ◌∷◌, ◌++◌, length, map, slice_get, All, codes, Option, None, Some, option_map, refl, sym, ap, ◌∙◌, subst, arith, if◌then◌else◌}
use Rattle.std.specs.List.{AllByRecursion as Each}
use Rattle.std.proofs.lemmas.List.Elements.{All-from_recursion}
use Rattle.mg_calc.specs.Plan.{IsValid}
use Rattle.mg_calc.specs.Rules.{Laws}
use Rattle.mg_calc.specs.declared.event.Event.{Event}
use Rattle.mg_calc.specs.declared.event.Event.TheVariants.{Deliver, Advance, Claim, Perform, Commit, Relax}
use Rattle.mg_calc.specs.declared.event.Effect.TheVariants.{Did, Idle}
use Rattle.mg_calc.specs.declared.inputs.Inputs.{Inputs}
use Rattle.mg_calc.specs.declared.plan.Plan.{Plan}
use Rattle.mg_calc.specs.Told.{BoxTold}
use Rattle.mg_feed.specs.Graph.{GraphInputs, inputs_of}
use Rattle.mg_feed.specs.Lines.{all_lines}
use Rattle.mg_feed.specs.Recorded.{recorded_refusal, AllRecorded}
use Rattle.mg_feed.specs.Stands.{AllGood}
use Rattle.mg_feed.specs.declared.feed_end.FeedEnd.{FeedEnd}
use Rattle.mg_feed.specs.declared.feed_end.FeedEnd.TheVariants.{Ended, Failed, Refused, OutOfMemory}
use Rattle.mg_feed.proofs.Recording.{all-recorded}
use Rattle.mg_trace.specs.Event.{IsEventOf, event_line}
use Rattle.mg_trace.specs.Job.{job_lines, end_word}
use Rattle.mg_trace.specs.Told.{HasNames, IsTold, HasKinds}
use Rattle.mg_trace.specs.Trace.{trace_text}
use Rattle.mg_trace.proofs.Giving.{job_given}
use Rattle.mg_trace.proofs.Welcome.{job_is_recorded}
use Rattle.mg_trace.proofs.Unbroken.{Opens, job_opens, trace_is_lines}
use Rattle.mg_node.specs.Views.{PerformedView, EngineView}
use Rattle.mg_node.specs.Job.{LoggedJob}
use Rattle.mg_node.specs.Lawful.{of_node, LawfulEngine}
use Rattle.mg_node.specs.Shelves.{IsOut, shelf_at}
use Rattle.mg_node.proofs.Lemmas.{found_at}
use Rattle.mg_node.proofs.SmallNumbers.{place_small}
use Rattle.mg_sched.specs.Views.{NetView}
use Rattle.mg_sched.specs.StandsFor.{StandsFor, IsRunning}
use Rattle.mg_sched.specs.Acts as nets
use Rattle.mg_sched.specs.Acts.{CommittedAt, NodePerforms, NodeCommits}
use Rattle.mg_sched.specs.Made.{job_of}
use Rattle.mg_sched.specs.Runs.{IsRun, IsRunAtRest}
use Rattle.mg_sched.proofs.ActsRun.{acts_run}
use Rattle.mg_sched.proofs.ActsStand.{acts_stand}
use Rattle.mg_sched.proofs.Finding.{cell_at, found}
use Rattle.mg_sched.proofs.Middles.{all_middle}
use Rattle.mg_answer.specs.Answer.{Read, RunAnswer, IsAnswer, is_ended, inputs_by}
use Rattle.mg_answer.specs.declared.run.Reporting.{Reporting}
use Rattle.mg_drive.specs.Traced.{IsTraced}
use Rattle.mg_drive.proofs.Jobs.{plan_stood}
use Rattle.mg_replay.specs.Opening.{is_end_word, may_say_packet, ArePackets, inputs_with}
use Rattle.mg_replay.specs.Replay.{AreEventsOf, LinesComeTo}
use Rattle.mg_replay.specs.Replayed.{job_over, AnswersJob, AnswersTrace}
use Rattle.mg_replay.proofs.JobsTold.{job_is_told, job_has_kinds}
use Rattle.mg_replay.specs.declared.trace_end.TraceFault.TheVariants.{Line, BadEvent}
use Rattle.mg_replay.specs.declared.trace_end.TraceEnd.TheVariants.{Accepted}

-- The numbers of works --

there_below : {X : Type 0} (xs : List X) (i : ℕ) (x : X) → slice_get xs i ≡ Some x → i < length xs
there_below [] i x is = absurd cc
there_below (y ∷ ys) zero x is = omega arith
there_below (y ∷ ys) (suc i) x is = (let less = there_below ys i x is in omega (arith, less))

-- the number of a work in a window has 64 bits
work_fits : {laws : Laws} (job : LoggedJob laws) (node number : ℕ) (engine : EngineView) → LawfulEngine job (of_node node) engine → engine.laid ≤ number → number - engine.laid < length engine.window → number < 2 ^ 64
work_fits {laws} job node number engine lawful from within = (let few = place_small job node engine (number - engine.laid) lawful within in omega (arith, few, from))

performs_fit : {laws : Laws} (job : LoggedJob laws) (node number : ℕ) (net next : NetView) → node < length net.plan.nodes → IsRunning net → StandsFor job net → NodePerforms laws node number Did net next → number < 2 ^ 64
unfolding StandsFor
performs_fit {laws} job node number net next within running h p = elim p.performed [
  | inl none ↦ absurd (let clash : Did ≡ Idle = none.1.idle in cc)
  | inr q ↦ (
      let long = h.intakes in
      let intake = found net.intakes node (omega (arith, within, long)) in
      let cell = cell_at job net node q.engine intake.0 p.work_queue h running within q.at intake.1 p.on in
      let out = (all_middle (IsOut q.engine) q.front q.back q.work (subst (All (IsOut q.engine)) q.works cell.works.out)).1 in
      subst (λ (n : ℕ). n < 2 ^ 64) q.number_is (work_fits job node q.work.number q.engine cell.lawful_engine out.laid (there_below q.engine.window (q.work.number - q.engine.laid) out.entry out.there)))
]

shelf_fits : {laws : Laws} (job : LoggedJob laws) (node number : ℕ) (engine : EngineView) (net next : NetView) (o : Option PerformedView) → LawfulEngine job (of_node node) engine → shelf_at engine number ≡ o → CommittedAt node number o Did engine net next → number < 2 ^ 64
shelf_fits {laws} job node number engine net next None lawful is c = absurd (let clash : Did ≡ Idle = c.idle in cc)
shelf_fits {laws} job node number engine net next (Some p) lawful is c =
    let it = found_at engine number p is in
    work_fits job node number engine lawful it.0 (there_below engine.window (number - engine.laid) it.1 it.2)

commits_fit : {laws : Laws} (job : LoggedJob laws) (node number : ℕ) (net next : NetView) → node < length net.plan.nodes → IsRunning net → StandsFor job net → NodeCommits node number Did net next → number < 2 ^ 64
unfolding StandsFor
commits_fit {laws} job node number net next within running h c =
    let long = h.work_queues in
    let more = h.intakes in
    let work_queue = found net.work_queues node (omega (arith, within, long)) in
    let intake = found net.intakes node (omega (arith, within, more)) in
    let cell = cell_at job net node c.engine intake.0 work_queue.0 h running within c.at intake.1 work_queue.1 in
    shelf_fits job node number c.engine net next (shelf_at c.engine number) cell.lawful_engine refl c.committed

-- Its events --

event_fits : {laws : Laws} (job : LoggedJob laws) (event : Event) (net next : NetView) → StandsFor job net → IsRunning net → nets.IsEventOf net event → nets.Acts laws event Did net next → IsEventOf net.plan event
event_fits {laws} job (Deliver edge) net next h running of acts = of
event_fits {laws} job (Advance node) net next h running of acts = of
event_fits {laws} job (Claim node) net next h running of acts = of
event_fits {laws} job (Perform node number) net next h running of acts = (of, performs_fit job node number net next of running h acts)
event_fits {laws} job (Commit node number) net next h running of acts = (of, commits_fit job node number net next of running h acts)
event_fits {laws} job Relax net next h running of acts = tt

events_fit : {laws : Laws} (job : LoggedJob laws) (events : List Event) (net now : NetView) → StandsFor job net → IsRunning net → IsRun laws events net now → AreEventsOf job.job.plan events
events_fit {laws} job [] net now h running run = tt
events_fit {laws} job (event ∷ events) net now h running (next, of, acts, run) = (
  subst (λ (p : Plan). IsEventOf p event) (plan_stood job net h) (event_fits job event net next h running of acts),
  events_fit job events next now (acts_stand job event Did net next of running h acts) (acts_run laws event Did net next running acts) run,
)

each_event : (plan : Plan) (events : List Event) → AreEventsOf plan events → Each (IsEventOf plan) events
each_event plan [] are = tt
each_event plan (event ∷ events) are = (are.0, each_event plan events are.1)

-- Its packet lines --

-- a line that opens an object is no other word
record SaysPacket (line : List ℕ) : Type 0 where
  word : is_end_word line ≡ false
  packet : may_say_packet line ≡ true

says_packet : (line : List ℕ) → Opens line → SaysPacket line
says_packet line (rest, is) = subst SaysPacket (sym is) (record { word = refl; packet = refl })

are_packets : (graph : GraphInputs) (past lines : List (List ℕ)) → Each Opens lines → AllRecorded graph past lines → ArePackets graph past lines
are_packets graph past [] opens good = tt
are_packets graph past (line ∷ lines) opens good =
    let says = says_packet line opens.0 in (
      (
        says.word,
        ap (λ (b : Bool). if b then option_map Line (recorded_refusal graph past line) else Some BadEvent) says.packet ∙ ap (option_map Line) good.0,
      ),
      are_packets graph (past ++ line ∷ []) lines opens.1 good.1,
    )

pub job_packets : (plan : Plan) (inputs : Inputs) → IsTold plan inputs → HasKinds plan inputs → ArePackets (inputs_of plan) [] (job_lines plan inputs)
job_packets plan inputs told kinds = are_packets (inputs_of plan) [] (job_lines plan inputs) (job_opens plan inputs told) (job_is_recorded plan inputs told kinds)

-- and give the job's inputs
pub inputs_back : (plan : Plan) (inputs : Inputs) → IsTold plan inputs → inputs ≡ inputs_with plan (job_lines plan inputs) inputs.ended
inputs_back plan inputs told =
    let g = job_given plan inputs told in
    let streams = sym g.streams in
    let sides = sym g.sides in
    λ i. record { streams = streams i; sides = sides i; ended = inputs.ended }

-- All of it --

pub trace_accepted : {laws : Laws} (plan : Plan) (inputs : Inputs) (boxes : List BoxTold) (events : List Event) → IsValid plan → IsTold plan inputs → HasKinds plan inputs → IsRunAtRest laws plan inputs boxes events
    → LinesComeTo laws plan boxes (all_lines (trace_text plan inputs events)) (Some inputs) Accepted
trace_accepted {laws} plan inputs boxes events valid told kinds r =
    let of : AreEventsOf plan events = events_fit (job_of laws plan inputs boxes) events r.begun r.rested r.begins.stands r.begins.running r.run in
    record {
      front = job_lines plan inputs ++ end_word inputs.ended ∷ map event_line events;
      tail = codes "end" ∷ [];
      net = r.rested;
      has_run = record {
        given = job_lines plan inputs;
        packets = job_packets plan inputs told kinds;
        inputs_are = inputs_back plan inputs told;
        begun = r.begun;
        begins = r.begins;
        events = events;
        are_events = of;
        run = r.run;
        lines_are = refl;
      };
      lines_are = trace_is_lines plan inputs events valid told (All-from_recursion (IsEventOf plan) events (each_event plan events of));
      stops = inr (inr (record { line_is = refl; ends = inr (r.rests, refl) }));
    }

-- What a run came to --

pub traced_accepted : {laws : Laws} (report : Reporting) (plan : Plan) (boxes : List BoxTold) (read : Read) (answer : RunAnswer) → IsValid plan → HasNames plan → AllGood (inputs_of plan) [] read.lines → IsTraced laws report plan boxes read answer
    → LinesComeTo laws plan boxes (all_lines answer.output) (Some (inputs_by (inputs_of plan) read)) Accepted
traced_accepted {laws} report plan boxes read answer valid names good t =
    let inputs = inputs_by (inputs_of plan) read in
    let recorded = all-recorded (inputs_of plan) [] read.lines good in
    subst (λ (text : List ℕ). LinesComeTo laws plan boxes (all_lines text) (Some inputs) Accepted) (sym (ap (λ (a : RunAnswer). a.output) t.is ∙ t.trace.is))
    (trace_accepted plan inputs boxes t.trace.events valid (job_is_told plan read valid names recorded) (job_has_kinds plan read recorded) t.trace.run)

-- the answer of a run over an input that ended well is that of its job
answers_job : (laws : Laws) (report : Reporting) (plan : Plan) (lines : List (List ℕ)) (end : FeedEnd) (answer : RunAnswer) → end ≡ Ended → IsAnswer laws report plan (record { lines = lines; end = end }) answer
    → AnswersJob (is_ended end) report (job_over laws plan (inputs_by (inputs_of plan) (record { lines = lines; end = end }))) answer
answers_job laws report plan lines Ended answer is answers = answers
answers_job laws report plan lines (Failed number) answer is answers = absurd cc
answers_job laws report plan lines (Refused number cause) answer is answers = absurd cc
answers_job laws report plan lines OutOfMemory answer is answers = absurd cc

pub traced_answers : {laws : Laws} (report : Reporting) (plan : Plan) (boxes : List BoxTold) (read : Read) (answer run : RunAnswer) → IsValid plan → HasNames plan → AllGood (inputs_of plan) [] read.lines → read.end ≡ Ended
    → IsTraced laws report plan boxes read answer → IsAnswer laws report plan read run → AnswersTrace laws report plan boxes (all_lines answer.output) run
traced_answers {laws} report plan boxes read answer run valid names good is t answers = record {
  job = Some (inputs_by (inputs_of plan) read);
  end = Accepted;
  comes = traced_accepted report plan boxes read answer valid names good t;
  answers = answers_job laws report plan read.lines read.end run is answers;
}
