-- A recorded run while it is read.
use Rattle.std.specs.Prelude.{◌≡◌, ◌⊎◌, ℕ, ◌+◌, true, false, List, [], ◌∷◌, ◌++◌, codes, Option, None, Some}
use Rattle.std.specs.Str.{bytes_eq}
use Rattle.mg_edge.specs.Edge.{SourceTold}
use Rattle.mg_edge.specs.Runs.{Gave}
use Rattle.mg_calc.specs.Rules.{Laws}
use Rattle.mg_calc.specs.declared.event.Event.{Event}
use Rattle.mg_calc.specs.declared.event.Effect.TheVariants.{Did, Idle}
use Rattle.mg_calc.specs.declared.inputs.Inputs.{Inputs}
use Rattle.mg_calc.specs.declared.plan.Plan.{Plan}
use Rattle.mg_calc.specs.Told.{BoxTold}
use Rattle.mg_feed.specs.Graph.{inputs_of}
use Rattle.mg_feed.specs.View.{View}
use Rattle.mg_feed.specs.Lines.{all_lines}
use Rattle.mg_feed.specs.Fed.{Reading}
use Rattle.mg_feed.specs.Ran.{MetEnd}
use Rattle.mg_feed.specs.Handed.{HasHanded, NextComes}
use Rattle.mg_feed.specs.Accepted.{longest_line}
use Rattle.mg_feed.specs.declared.lines.NextLine.{NextLine}
use Rattle.mg_feed.specs.declared.lines.NextLine.TheVariants.{Line, TooLong, Ended, Failed}
use Rattle.mg_trace.specs.Event.{IsEventOf, event_line}
use Rattle.mg_trace.specs.Job.{end_word}
use Rattle.mg_sched.specs.Views.{NetView}
use Rattle.mg_sched.specs.Acts.{Acts}
use Rattle.mg_sched.specs.AtRest.{IsAtRest, MayGoOn}
use Rattle.mg_answer.specs.Devices.{device}
use Rattle.mg_replay.specs.Opening.{is_end_word, ArePackets, inputs_with}
use Rattle.mg_replay.specs.Code.Packets.{TakesPackets}
use Rattle.mg_replay.specs.declared.trace_end.TraceFault.{TraceFault}
use Rattle.mg_replay.specs.declared.trace_end.TraceFault.TheVariants.{BadEvent, IdleEvent, NotAtRest, NoEnd, AfterEnd}
use Rattle.mg_replay.specs.Replay.{IsIdleEvent, WasRead}
use Rattle.mg_replay.specs.declared.trace_end.TraceEnd.{TraceEnd}
use Rattle.mg_replay.specs.declared.trace_end.TraceEnd.TheVariants.{Accepted, Refused, Failed as Failed_at}
use Rattle.mg_replay.specs.declared.opening.Opened.{Opened}
use Rattle.mg_replay.specs.declared.opening.Opened.TheVariants.{Job, Stopped}
use Rattle.mg_replay.specs.Reading.{IsReading, IsOpening, Opens, IsMaking}

-- Bytes came. Whatever bytes come after them, the lines that were handed out before are the first of all lines.
pub record ComesBehind (before now : SourceTold) (old new : Reading) : Type 0 where
  pub came : List ℕ
  pub gave : Gave before.left now.left came
  pub met : MetEnd old.ended new.ended before now
  pub in_front : (past : List ℕ) (lines : List (List ℕ)) → HasHanded past lines old → (more : List ℕ) → (new.ended ≡ true → more ≡ []) → (rest : List (List ℕ)) × (all_lines ((past ++ came) ++ more) ≡ lines ++ rest)

-- how the reading stops after this number of lines, if the next line is too long, the lines end or a read fails. Else it goes on
abbrev pub StopsBy : NextLine → ℕ → Option TraceEnd → Type 0
StopsBy Line lines stop = stop ≡ None
StopsBy TooLong lines stop = stop ≡ Some (Refused (lines + 1) BadEvent)
StopsBy Ended lines stop = stop ≡ Some (Refused (lines + 1) NoEnd)
StopsBy Failed lines stop = stop ≡ Some (Failed_at lines)

-- the result of a line that doesn't end the packet lines
abbrev pub TakesOther : Option Opened → List ℕ → ℕ → View → View → Type 0
TakesOther None line number old new = TakesPackets None line old new
TakesOther (Some (Job ended)) line number old new = ⊥
TakesOther (Some (Stopped end)) line number old new = (cause : TraceFault) × (end ≡ Refused number cause) × TakesPackets (Some cause) line old new

-- the result of a line that was handed out. `None`: it was taken as a packet line. `Job`: it ends the packet lines, and the feed is
-- as it was. `Stopped`: it isn't good, and the reading stops
abbrev pub TakesLine : Option Opened → List ℕ → ℕ → View → View → Type 0
TakesLine None line number old new = (is_end_word line ≡ false) × TakesPackets None line old new
TakesLine (Some (Job ended)) line number old new = (line ≡ end_word ended) × (new ≡ old)
TakesLine (Some (Stopped end)) line number old new = (is_end_word line ≡ false) × ((cause : TraceFault) × (end ≡ Refused number cause) × TakesPackets (Some cause) line old new)

-- one line more of a job was read: it is a packet line, or the job's lines ended with it, or the reading stopped
abbrev pub OpensOn : Laws → Option Opened → Plan → SourceTold → SourceTold → Reading → ℕ → View → Type 0
OpensOn laws None plan first now read number view = IsOpening plan first now read number view
OpensOn laws (Some opened) plan first now read number view = Opens laws opened plan first now read number view

-- The lines of a job that has these inputs were read.
pub record HasReadInputs (plan : Plan) (inputs : Inputs) (first now : SourceTold) (read : Reading) (number : ℕ) : Type 0 where
  pub given : List (List ℕ)
  pub reading : IsReading first now read number (given ++ end_word inputs.ended ∷ [])
  pub packets : ArePackets (inputs_of plan) [] given
  pub inputs_are : inputs ≡ inputs_with plan given inputs.ended

-- one line more after a job was read: its event was made, or the reading ended
abbrev pub MakesOn : Laws → Option TraceEnd → Plan → List BoxTold → Inputs → SourceTold → SourceTold → Reading → ℕ → NetView → Type 0
MakesOn laws None plan boxes inputs first now read number net = IsMaking laws plan boxes inputs first now read number net
MakesOn laws (Some end) plan boxes inputs first now read number net = WasRead laws plan boxes (device first now) (Some inputs) end

-- the result of the next line of a run, which has this number: its event was made, or the line is refused
abbrev pub MakesLine : Laws → Option TraceEnd → Plan → List ℕ → ℕ → NetView → NetView → Type 0
MakesLine laws None plan line number before now = (event : Event) × IsEventOf plan event × (line ≡ event_line event) × Acts laws event Did before now
MakesLine laws (Some end) plan line number before now =
    (((event : Event) → ¬ (IsEventOf plan event × (line ≡ event_line event))) × (end ≡ Refused number BadEvent)) ⊎ IsIdleEvent laws plan before number line end

-- how the reading ends after the last line of a run, by what comes next
abbrev pub StopsBehind : NextLine → ℕ → TraceEnd → Type 0
StopsBehind Line number end = end ≡ Refused (number + 1) AfterEnd
StopsBehind TooLong number end = end ≡ Refused (number + 1) AfterEnd
StopsBehind Ended number end = end ≡ Accepted
StopsBehind Failed number end = end ≡ Failed_at number

-- how the reading ends at the last line of a run, which has this number. If the net isn't at rest, the line is refused. If the net
-- is at rest, what comes next decides
abbrev pub EndsRun : Laws → TraceEnd → SourceTold → SourceTold → Reading → Reading → ℕ → NetView → NetView → Type 0
EndsRun laws end before now old new number net net_now =
    (MayGoOn laws net × (end ≡ Refused number NotAtRest) × (now ≡ before) × (new ≡ old))
    ⊎ (IsAtRest laws net × (net_now ≡ net) × ((next : NextLine) × (line : List ℕ) × NextComes longest_line next line before now old new × StopsBehind next number end))

-- the result of making an event: it did something; or it did nothing, and its line is refused
abbrev pub MakesEvent : Laws → Option TraceEnd → Event → ℕ → NetView → NetView → Type 0
MakesEvent laws None event number before now = Acts laws event Did before now
MakesEvent laws (Some end) event number before now = Acts laws event Idle before before × (end ≡ Refused number IdleEvent)

-- the result of a line after those of the job: it ends the run; or its event is made, or the line is refused
abbrev pub TakesEvent : Laws → Option TraceEnd → Plan → List ℕ → ℕ → SourceTold → SourceTold → Reading → Reading → ℕ → NetView → NetView → Type 0
TakesEvent laws stop plan line number before now old new count net net_now =
    ((line ≡ codes "end") × ((end : TraceEnd) × (stop ≡ Some end) × EndsRun laws end before now old new number net net_now))
    ⊎ ((bytes_eq line (codes "end") ≡ false) × MakesLine laws stop plan line number net net_now × (now ≡ before) × (new ≡ old) × (count ≡ number))
