-- The notes of a run, each one line whatever a label or a name holds.
use Rattle.std.specs.Prelude.{ℕ, List, [], ◌++◌, map, slice_get, slice_index_or, option_map, unwrap_or, codes, decimal}
use Rattle.std.specs.List.{flat_map}
use Rattle.mg_time.specs.Time.{pre_stream}
use Rattle.mg_time.specs.Text.{time_text}
use Rattle.mg_value.specs.Payload.{Plain}
use Rattle.mg_json.specs.declared.value_fault.ValueFault.{ValueFault}
use Rattle.mg_json.specs.declared.value_fault.ValueFault.TheVariants as values
use Rattle.mg_settled.specs.Prefix.{StreamPrefix}
use Rattle.mg_calc.specs.declared.cause.Cause.{Cause}
use Rattle.mg_calc.specs.declared.cause.Cause.TheVariants as causes
use Rattle.mg_calc.specs.declared.node_fault.NodeFault.{NodeFault}
use Rattle.mg_calc.specs.declared.node_fault.Phase.{Phase}
use Rattle.mg_calc.specs.declared.node_fault.Phase.TheVariants.{Open, Call, Process, Close}
use Rattle.mg_calc.specs.declared.plan.Plan.{Plan}
use Rattle.mg_calc.specs.Meaning.{stalled}
use Rattle.mg_feed.specs.declared.line_fault.LineFault.{LineFault}
use Rattle.mg_feed.specs.declared.line_fault.LineFault.TheVariants as lines
use Rattle.mg_feed.specs.declared.feed_end.FeedEnd.{FeedEnd}
use Rattle.mg_feed.specs.declared.feed_end.FeedEnd.TheVariants.{Ended, Failed, Refused, OutOfMemory}
use Rattle.mg_answer.specs.Shown.{escaped}
use Rattle.mg_answer.specs.Text.{name_of}
use Rattle.mg_answer.specs.declared.status.Status.{Status}
use Rattle.mg_answer.specs.declared.status.Status.TheVariants as runs

-- The input --

-- the word for why a value is no payload, or no word if memory ran out
abbrev pub value_name : ValueFault → List ℕ
value_name values.Fraction = codes "Fraction"
value_name values.Null = codes "Null"
value_name values.TooDeep = codes "TooDeep"
value_name values.TooWide = codes "TooWide"
value_name values.OutOfMemory = []

-- the words for why a line isn't good, or no words if memory ran out
abbrev pub line_fault_text : LineFault → List ℕ
line_fault_text lines.NotJson = codes "NotJson"
line_fault_text lines.BadShape = codes "BadShape"
line_fault_text lines.UnknownStream = codes "UnknownStream"
line_fault_text lines.BadTimestamp = codes "BadTimestamp"
line_fault_text lines.NotAscending = codes "NotAscending"
line_fault_text lines.Closed = codes "Closed"
line_fault_text lines.KindMismatch = codes "KindMismatch"
line_fault_text (lines.BadValue cause) = codes "BadValue " ++ value_name cause
line_fault_text lines.TooLong = codes "TooLong"
line_fault_text lines.TooManyLines = codes "TooManyLines"
line_fault_text lines.SideLate = codes "SideLate"
line_fault_text lines.SideTwice = codes "SideTwice"
line_fault_text lines.NotAlone = codes "NotAlone"
line_fault_text lines.OutOfMemory = []

-- the note that the line of a number was refused, and why
abbrev pub line_note : ℕ → LineFault → List ℕ
line_note line cause = codes "line " ++ decimal line ++ codes ": " ++ line_fault_text cause ++ codes "\n"

-- the note that a read failed after so many whole lines
abbrev pub read_note : ℕ → List ℕ
read_note lines = codes "read fault after line " ++ decimal lines ++ codes "\n"

-- the note of how an input ended: the note of a failed read or a refused line, and else none
abbrev pub end_note : FeedEnd → List ℕ
end_note Ended = []
end_note (Failed lines) = read_note lines
end_note (Refused line cause) = line_note line cause
end_note OutOfMemory = []

-- The nodes --

-- the word for why a node failed
abbrev pub cause_name : Cause → List ℕ
cause_name causes.Overflow = codes "Overflow"
cause_name causes.BadSelect = codes "BadSelect"
cause_name causes.WrongKind = codes "WrongKind"
cause_name causes.NoSide = codes "NoSide"
cause_name causes.NotAllowed = codes "NotAllowed"
cause_name causes.NotAscending = codes "NotAscending"
cause_name causes.NotAlone = codes "NotAlone"
cause_name causes.BelowOffset = codes "BelowOffset"
cause_name causes.EmitsInClose = codes "EmitsInClose"
cause_name causes.TooDeep = codes "TooDeep"

-- the text of the call in which a node failed
abbrev pub phase_text : Phase → List ℕ
phase_text Open = codes "open"
phase_text (Call number) = codes "call " ++ decimal number
phase_text (Process time) = codes "process " ++ time_text time
phase_text Close = codes "close"

-- the label of a node of a plan, by its number
abbrev pub label_of : Plan → ℕ → List ℕ
label_of plan number = unwrap_or (option_map (λ node. node.label) (slice_get plan.nodes number)) []

-- the text of a node: its number and its label
abbrev pub node_text : Plan → ℕ → List ℕ
node_text plan number = codes "node " ++ decimal number ++ codes " " ++ escaped (label_of plan number) ++ codes ": "

-- the note of a node's fault: the node, the call in which it failed, and why
abbrev pub fault_note : Plan → NodeFault → List ℕ
fault_note plan fault = node_text plan fault.node ++ phase_text fault.phase ++ codes ": " ++ cause_name fault.cause ++ codes "\n"

-- The streams --

-- the bounds of some streams
abbrev pub bounds_of : List (StreamPrefix Plain) → List ℕ
bounds_of streams = map (λ s. s.bound) streams

-- the note of a stream that hasn't ended: its name and its bound
abbrev pub stall_note : Plan → List ℕ → ℕ → List ℕ
stall_note plan bounds number =
    codes "stalled: " ++ escaped (name_of plan number) ++ codes " " ++ time_text (slice_index_or bounds number pre_stream) ++ codes "\n"

-- Arrivals --

-- the line of an arrival at a free node: the node's number, the port, and the packet's timestamp
abbrev pub arrival_note : ℕ → ℕ → ℕ → List ℕ
arrival_note node port at = codes "free " ++ decimal node ++ codes " " ++ decimal port ++ codes " " ++ time_text at ++ codes "\n"

-- The end --

-- the note that something couldn't be written
abbrev pub write_note : List ℕ
write_note = codes "write fault\n"

-- the note that memory ran out; it is then the only note
abbrev pub memory_note : List ℕ
memory_note = codes "out of memory\n"

-- The notes of a status: that the streams of these numbers haven't ended, that a write failed, or that memory ran out. Any other status has
-- none.
abbrev pub status_notes : Status → Plan → List ℕ → List ℕ → List ℕ
status_notes runs.Good plan bounds stalled = []
status_notes runs.StoreFault plan bounds stalled = []
status_notes runs.Usage plan bounds stalled = []
status_notes runs.GraphRefused plan bounds stalled = []
status_notes runs.LineRefused plan bounds stalled = []
status_notes runs.NodeFault plan bounds stalled = []
status_notes runs.Stalled plan bounds stalled = flat_map (stall_note plan bounds) stalled
status_notes runs.ReadFault plan bounds stalled = []
status_notes runs.WriteFault plan bounds stalled = write_note
status_notes runs.OutOfMemory plan bounds stalled = memory_note

-- All notes of a run that ends with a status. First comes how the input ended, then each node's fault in node order, then the notes
-- of the status. These name streams in stream order. `bounds` has the bound of each stream, and `stalled` the numbers of the
-- streams that stalled.
abbrev pub notes_by : Status → Plan → FeedEnd → List NodeFault → List ℕ → List ℕ → List ℕ
notes_by status plan end faults bounds stalled =
    end_note end ++ flat_map (fault_note plan) faults ++ status_notes status plan bounds stalled

-- all notes of a run, if the streams of its plan are known
abbrev pub notes_of : Status → Plan → FeedEnd → List NodeFault → List (StreamPrefix Plain) → List ℕ
notes_of status plan end faults streams = notes_by status plan end faults (bounds_of streams) (stalled streams)
