-- The one note of a recorded run that isn't accepted, and the status.
use Rattle.std.specs.Prelude.{◌≡◌, ◌⊎◌, ℕ, List, [], ◌++◌, codes, decimal}
use Rattle.mg_edge.specs.Edge.{SinkTold}
use Rattle.mg_answer.specs.Devices.{Device, TookText, TookPart}
use Rattle.mg_answer.specs.Notes.{line_fault_text, read_note}
use Rattle.mg_answer.specs.declared.status.Status.{Status}
use Rattle.mg_answer.specs.declared.status.Status.TheVariants.{Good, LineRefused, ReadFault, WriteFault}
use Rattle.mg_replay.specs.declared.trace_end.TraceFault.{TraceFault}
use Rattle.mg_replay.specs.declared.trace_end.TraceFault.TheVariants.{Line, BadEvent, IdleEvent, NotAtRest, NoEnd, AfterEnd}
use Rattle.mg_replay.specs.declared.trace_end.TraceEnd.{TraceEnd}
use Rattle.mg_replay.specs.declared.trace_end.TraceEnd.TheVariants.{Accepted, Refused, Failed}

-- the word that a note has for a cause
abbrev pub trace_refusal : TraceFault → List ℕ
trace_refusal (Line cause) = line_fault_text cause
trace_refusal BadEvent = codes "BadEvent"
trace_refusal IdleEvent = codes "IdleEvent"
trace_refusal NotAtRest = codes "NotAtRest"
trace_refusal NoEnd = codes "NoEnd"
trace_refusal AfterEnd = codes "AfterEnd"

-- the note of how the reading of a recorded run ended; it is empty for an accepted run
abbrev pub trace_note : TraceEnd → List ℕ
trace_note Accepted = []
trace_note (Refused line cause) = codes "line " ++ decimal line ++ codes ": " ++ trace_refusal cause ++ codes "\n"
trace_note (Failed lines) = read_note lines

-- the status of how the reading of a recorded run ended
abbrev pub trace_status : TraceEnd → Status
trace_status Accepted = Good
trace_status (Refused line cause) = LineRefused
trace_status (Failed lines) = ReadFault

-- the one note was written, or a write of it failed
abbrev pub WroteNote : TraceEnd → Status → Device SinkTold → Type 0
WroteNote end status notes = ((status ≡ trace_status end) × TookText notes (trace_note end)) ⊎ ((status ≡ WriteFault) × TookPart notes (trace_note end))
