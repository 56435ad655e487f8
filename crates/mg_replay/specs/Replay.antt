-- What the lines of a recorded run say. The first lines tell its job. After them stands a line for each event. Each event is made
-- on the net to which the events before it led. The first event is made where the runs of the job begin. The last line is `end`. It
-- is accepted if the net is at rest then, and nothing stands after it.
use Rattle.std.specs.Prelude.{◌≡◌, ◌≢◌, ◌⊎◌, ℕ, ◌+◌, ◌<◌, Bool, true, false, List, [], ◌∷◌, ◌++◌, length, map, codes, Option, None, Some, ⊤}
use Rattle.mg_edge.specs.Edge.{SourceTold}
use Rattle.mg_edge.specs.Runs.{Gave}
use Rattle.mg_calc.specs.Rules.{Laws}
use Rattle.mg_calc.specs.declared.event.Event.{Event}
use Rattle.mg_calc.specs.declared.event.Effect.TheVariants.{Idle}
use Rattle.mg_calc.specs.declared.inputs.Inputs.{Inputs}
use Rattle.mg_calc.specs.declared.plan.Plan.{Plan}
use Rattle.mg_calc.specs.Told.{BoxTold}
use Rattle.mg_sched.specs.Views.{NetView}
use Rattle.mg_sched.specs.Acts.{Acts}
use Rattle.mg_sched.specs.AtRest.{IsAtRest, MayGoOn}
use Rattle.mg_sched.specs.Runs.{IsRun, IsBegun}
use Rattle.mg_feed.specs.Graph.{inputs_of}
use Rattle.mg_feed.specs.Lines.{all_lines, whole_lines}
use Rattle.mg_feed.specs.Accepted.{longest_line}
use Rattle.mg_feed.specs.Ran.{EndCame, MetEnd, Unfailed, ReadFailed}
use Rattle.mg_trace.specs.Event.{IsEventOf, event_line}
use Rattle.mg_trace.specs.Job.{end_word}
use Rattle.mg_answer.specs.Devices.{Device}
use Rattle.mg_replay.specs.Opening.{is_end_word, packet_refusal, ArePackets, inputs_with}
use Rattle.mg_replay.specs.declared.trace_end.TraceFault.{TraceFault}
use Rattle.mg_replay.specs.declared.trace_end.TraceFault.TheVariants.{BadEvent, IdleEvent, NotAtRest, NoEnd, AfterEnd}
use Rattle.mg_replay.specs.declared.trace_end.TraceEnd.{TraceEnd}
use Rattle.mg_replay.specs.declared.trace_end.TraceEnd.TheVariants.{Accepted, Refused, Failed}

-- The lines of the job --

-- The reading stops after these packet lines, and no node was begun: the lines end there, or the next line isn't good.
abbrev pub StopsEarlyAt : Plan → List (List ℕ) → List (List ℕ) → TraceEnd → Type 0
StopsEarlyAt plan given [] end = end ≡ Refused (length given + 1) NoEnd
StopsEarlyAt plan given (line ∷ more) end =
    (is_end_word line ≡ false) × ((cause : TraceFault) × (packet_refusal (inputs_of plan) given line ≡ Some cause) × (end ≡ Refused (length given + 1) cause))

-- The lines begin with packet lines. The reading stops after these, before there is a job.
pub record StopsEarly (plan : Plan) (lines : List (List ℕ)) (end : TraceEnd) : Type 0 where
  pub given : List (List ℕ)
  pub tail : List (List ℕ)
  pub packets : ArePackets (inputs_of plan) [] given
  pub lines_are : lines ≡ given ++ tail
  pub stops : StopsEarlyAt plan given tail end

-- The lines of events --

-- each event is one of the plan
abbrev pub AreEventsOf : Plan → List Event → Type 0
AreEventsOf plan [] = ⊤
AreEventsOf plan (event ∷ events) = IsEventOf plan event × AreEventsOf plan events

-- Lines led a net to where it is. They are the packet lines of a job, the word after them, and the lines of the events of a run.
-- The run begins where the job's runs begin.
pub record LinesLedTo (laws : Laws) (plan : Plan) (boxes : List BoxTold) (lines : List (List ℕ)) (inputs : Inputs) (net : NetView) : Type 0 where
  pub given : List (List ℕ)
  pub packets : ArePackets (inputs_of plan) [] given
  pub inputs_are : inputs ≡ inputs_with plan given inputs.ended
  pub begun : NetView
  pub begins : IsBegun laws plan inputs boxes begun
  pub events : List Event
  pub are_events : AreEventsOf plan events
  pub run : IsRun laws events begun net
  pub lines_are : lines ≡ given ++ end_word inputs.ended ∷ map event_line events

-- A line is neither the last line of a run nor the line of an event of the plan. Or it is longer than a line may be.
pub record IsNoEvent (plan : Plan) (number : ℕ) (line : List ℕ) (end : TraceEnd) : Type 0 where
  pub bad : ((line ≢ codes "end") × ((event : Event) → ¬ (IsEventOf plan event × (line ≡ event_line event)))) ⊎ (longest_line < length line)
  pub is : end ≡ Refused number BadEvent

-- A line is that of an event that does nothing.
pub record IsIdleEvent (laws : Laws) (plan : Plan) (net : NetView) (number : ℕ) (line : List ℕ) (end : TraceEnd) : Type 0 where
  pub event : Event
  pub is_event : IsEventOf plan event
  pub line_is : line ≡ event_line event
  pub idle : Acts laws event Idle net net
  pub is : end ≡ Refused number IdleEvent

-- How the reading ends by what stands after the last line of a run. If nothing does, the run is accepted. Else the next line is
-- refused.
abbrev pub EndsAt : ℕ → List (List ℕ) → TraceEnd → Type 0
EndsAt number [] end = end ≡ Accepted
EndsAt number (line ∷ more) end = end ≡ Refused (number + 1) AfterEnd

-- A line is the last line of a run. Some event may still do something; or the net is at rest.
pub record IsLastLine (laws : Laws) (net : NetView) (number : ℕ) (line : List ℕ) (more : List (List ℕ)) (end : TraceEnd) : Type 0 where
  pub line_is : line ≡ codes "end"
  pub ends : (MayGoOn laws net × (end ≡ Refused number NotAtRest)) ⊎ (IsAtRest laws net × EndsAt number more end)

-- The reading stops with this net. The next line, if there is one, has this number.
abbrev pub StopsAt : Laws → Plan → NetView → ℕ → List (List ℕ) → TraceEnd → Type 0
StopsAt laws plan net number [] end = end ≡ Refused number NoEnd
StopsAt laws plan net number (line ∷ more) end = IsNoEvent plan number line end ⊎ (IsIdleEvent laws plan net number line end ⊎ IsLastLine laws net number line more end)

-- The lines begin with lines that led a net somewhere, and there the reading stops.
pub record StopsAfterJob (laws : Laws) (plan : Plan) (boxes : List BoxTold) (lines : List (List ℕ)) (inputs : Inputs) (end : TraceEnd) : Type 0 where
  pub front : List (List ℕ)
  pub tail : List (List ℕ)
  pub net : NetView
  pub has_run : LinesLedTo laws plan boxes front inputs net
  pub lines_are : lines ≡ front ++ tail
  pub stops : StopsAt laws plan net (length front + 1) tail end

-- All lines --

-- What the lines of an input that ends after them say. With `None` they stop before there is a job, and no node is begun. Else they
-- tell a job that has these inputs, and its nodes are begun.
abbrev pub LinesComeTo : Laws → Plan → List BoxTold → List (List ℕ) → Option Inputs → TraceEnd → Type 0
LinesComeTo laws plan boxes lines None end = StopsEarly plan lines end
LinesComeTo laws plan boxes lines (Some inputs) end = StopsAfterJob laws plan boxes lines inputs end

-- More lines may come: none so far is refused. The last of them may be `end`, if the net is at rest.
pub record MoreMayCome (laws : Laws) (plan : Plan) (boxes : List BoxTold) (lines : List (List ℕ)) (inputs : Inputs) : Type 0 where
  pub front : List (List ℕ)
  pub net : NetView
  pub has_run : LinesLedTo laws plan boxes front inputs net
  pub lines_are : (lines ≡ front) ⊎ ((lines ≡ front ++ codes "end" ∷ []) × IsAtRest laws net)

-- More lines may come. If there is no job yet, all lines so far are packet lines. Else none of them is refused.
abbrev pub MayComeTo : Laws → Plan → List BoxTold → List (List ℕ) → Option Inputs → Type 0
MayComeTo laws plan boxes lines None = ArePackets (inputs_of plan) [] lines
MayComeTo laws plan boxes lines (Some inputs) = MoreMayCome laws plan boxes lines inputs

-- The input --

-- What the bytes that came say of the whole input. Either it ended after them. Or one of their lines is refused, whatever bytes may
-- follow. No bytes follow if the source has ended. Or a read failed after them, and none of their whole lines is refused.
abbrev pub CameAs : Laws → TraceEnd → Plan → List BoxTold → Device SourceTold → List ℕ → Option Inputs → Type 0
CameAs laws Accepted plan boxes input came job = EndCame input.before input.now × LinesComeTo laws plan boxes (all_lines came) job Accepted
CameAs laws (Refused line cause) plan boxes input came job =
    (ended : Bool) × MetEnd false ended input.before input.now × ((more : List ℕ) → (ended ≡ true → more ≡ []) → LinesComeTo laws plan boxes (all_lines (came ++ more)) job (Refused line cause))
CameAs laws (Failed lines) plan boxes input came job = (lines ≡ length (whole_lines came)) × MayComeTo laws plan boxes (whole_lines came) job

-- no read failed, unless the reading ended by that
abbrev pub FailsAs : TraceEnd → SourceTold → SourceTold → Type 0
FailsAs Accepted before now = Unfailed before now
FailsAs (Refused line cause) before now = Unfailed before now
FailsAs (Failed lines) before now = ReadFailed before now

-- A recorded run was read from this input with these calculators: it told this job, if any, and the reading ended so.
pub record WasRead (laws : Laws) (plan : Plan) (boxes : List BoxTold) (input : Device SourceTold) (job : Option Inputs) (end : TraceEnd) : Type 0 where
  pub came : List ℕ
  pub gave : Gave input.before.left input.now.left came
  pub by : CameAs laws end plan boxes input came job
  pub faults : FailsAs end input.before input.now
