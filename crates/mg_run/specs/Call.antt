-- What a call came to: what its words asked for, what there was to do then, and what was done.
use Rattle.std.specs.Prelude.{◌≡◌, ℕ, ◌⊎◌, List, All, IfSome}
use Rattle.mg_edge.specs.Edge.{StoreTold}
use Rattle.mg_calc.specs.Rules.{Laws}
use Rattle.mg_calc.specs.declared.plan.Plan.{Plan}
use Rattle.mg_calc.specs.declared.shape.OuterShape.{OuterShape}
use Rattle.mg_check.specs.Check.{IsOuterShape}
use Rattle.mg_run.specs.Invocation.{Invocation, invocation}
use Rattle.mg_words.specs.Words.{Request, asks_usage, asks_text, asks_command}
use Rattle.mg_files.specs.Files.{Files, AreFiles}
use Rattle.mg_files.specs.Loads.{LoadedAll, FailedAt, LoadedFront, loads_of}
use Rattle.mg_files.specs.Notes.{store_note}
use Rattle.mg_words.specs.Help.{usage_note}
use Rattle.mg_answer.specs.Notes.{write_note, memory_note}
use Rattle.mg_answer.specs.Ran as runs
use Rattle.mg_answer.specs.Wrote.{Meets}
use Rattle.mg_drive.specs.Traced.{Traced}
use Rattle.mg_replay.specs.Replayed.{ReplayedBy}
use Rattle.mg_drive.specs.OneRun.{CalculatorsCameBack, RanOverLines, RanOverPackets}
use Rattle.mg_drive.specs.OneLive.{RanLive, RanLiveMade}
use Rattle.mg_run.specs.Boxes.{RunLeaves}
use Rattle.mg_run.specs.Answer.{RunAnswer, Action, refuse, show, run_plan, run_live, solve, generate, generate_live, trace, replay, action_of, AnswersAction}
use Rattle.mg_run.specs.Devices.{Device, CallDevices, run_devices_of, Untouched, TookText, TookPart, TookNotes}
pub use Rattle.mg_answer.specs.Status.{IsOneOf}
use Rattle.mg_answer.specs.declared.status.Status.{Status}
use Rattle.mg_answer.specs.declared.status.Status.TheVariants.{Good, StoreFault, Usage, GraphRefused, WriteFault, OutOfMemory}
use Rattle.mg_answer.specs.declared.run.Reporting.{Reporting}

-- Nothing was read from the input, written to the output or called.
pub record DidNothing (devices : CallDevices) : Type 0 where
  pub unread : Untouched devices.input
  pub unwritten : Untouched devices.output
  pub uncalled : Untouched devices.boxes

-- Words that are no command --

-- The words were no command, and the note says how the program is used. If memory didn't suffice to judge them, the note says that. Nothing
-- else was done.
pub record WasUsage (status : Status) (devices : CallDevices) : Type 0 where
  pub noted : ((status ≡ Usage) × TookNotes devices.notes usage_note) ⊎ ((status ≡ OutOfMemory) × TookNotes devices.notes memory_note)
  pub unloaded : Untouched devices.store
  pub nothing : DidNothing devices

-- A text was written, and no note; or a write of it failed, and the note says so.
abbrev pub Written : List ℕ → Status → CallDevices → Type 0
Written text status devices = ((status ≡ Good) × TookText devices.output text × Untouched devices.notes)
    ⊎ ((status ≡ WriteFault) × TookPart devices.output text × TookNotes devices.notes write_note)

-- A text of the program's own was asked for: it was written, or a write of it failed. If memory didn't suffice to judge the words, the note
-- says that. Nothing else was done.
pub record WasTold (text : List ℕ) (status : Status) (devices : CallDevices) : Type 0 where
  pub written : Written text status devices ⊎ ((status ≡ OutOfMemory) × Untouched devices.output × TookNotes devices.notes memory_note)
  pub unloaded : Untouched devices.store
  pub unread : Untouched devices.input
  pub uncalled : Untouched devices.boxes

-- A command --

-- what a command has to do with the contents of its files
abbrev pub IsActionOf : Invocation → List (List ℕ) → Action → Type 0
IsActionOf invocation contents action = (files : Files) × AreFiles invocation.files contents files × (action ≡ action_of invocation files)

-- All files of an invocation were loaded, and this action is what there is to do with them. The user-supplied calculators have the shapes
-- of their laws.
pub record IsDue (invocation : Invocation) (store : Device StoreTold) (action : Action) : Type 0 where
  pub shaped : All IsOuterShape invocation.outers
  pub contents : List (List ℕ)
  pub loaded : LoadedAll invocation.files contents store
  pub due : IsActionOf invocation contents action

-- the graph of a plan was run over the input, and a trace of the run was written
abbrev pub TracedGraph : Laws → Reporting → Plan → Status → CallDevices → Type 0
TracedGraph laws report plan status devices =
    Traced laws report plan devices.boxes.before status (run_devices_of devices) × RunLeaves laws plan status devices.input devices.boxes

-- a recorded run of the graph of a plan was made again
abbrev pub ReplayedGraph : Laws → Reporting → Plan → Status → CallDevices → Type 0
ReplayedGraph laws report plan status devices =
    ReplayedBy laws status report plan (run_devices_of devices) devices.boxes × CalculatorsCameBack plan devices.boxes.before devices.boxes.now

-- The graph of an action was used. It was run over the input, and its outputs were written as they settled. Or it was solved, and no
-- calculator was called. Or it was run over packets that are made, a summary of its outputs was written, and the input was left as it was.
-- Or its run was recorded, or a recorded run of it was made again.
abbrev pub UsedGraph : Laws → Action → Status → CallDevices → Type 0
UsedGraph laws (refuse note) status devices = ⊥
UsedGraph laws (show text) status devices = ⊥
UsedGraph laws (run_plan report plan) status devices = RanOverLines laws report plan status (run_devices_of devices) devices.boxes
UsedGraph laws (run_live report early plan) status devices = RanLive laws report early plan status (run_devices_of devices) devices.boxes
UsedGraph laws (solve report plan) status devices = runs.Ran laws report plan status (run_devices_of devices) × Untouched devices.boxes
UsedGraph laws (generate report number plan) status devices = RanOverPackets laws report plan number status devices.output devices.notes devices.boxes × Untouched devices.input
UsedGraph laws (generate_live report number plan) status devices = RanLiveMade laws report plan number status devices.output devices.notes devices.boxes × Untouched devices.input
UsedGraph laws (trace report plan) status devices = TracedGraph laws report plan status devices
UsedGraph laws (replay report plan) status devices = ReplayedGraph laws report plan status devices

-- A call with a command ended with a status, in one of six ways. A file couldn't be loaded, and the note names the first such file. A file,
-- the expansion or the graph was refused with a note. A text was written. A write of the text failed, and the note says so. A graph was
-- used. Or memory ran out before it was known what there is to do. The only note says that, and the first files were loaded, each once.
pub data Called (laws : Laws) (invocation : Invocation) (devices : CallDevices) : Status → Type 0 where
  file_unloaded : (file : List ℕ) (failed : FailedAt invocation.files file devices.store) (noted : TookNotes devices.notes (store_note file)) (nothing : DidNothing devices)
      → Called laws invocation devices StoreFault
  graph_refused : (note : List ℕ) (due : IsDue invocation devices.store (refuse note)) (noted : TookNotes devices.notes note) (nothing : DidNothing devices)
      → Called laws invocation devices GraphRefused
  text_shown : (text : List ℕ) (due : IsDue invocation devices.store (show text)) (took : TookText devices.output text) (unnoted : Untouched devices.notes)
      (unread : Untouched devices.input) (uncalled : Untouched devices.boxes) → Called laws invocation devices Good
  text_failed : (text : List ℕ) (due : IsDue invocation devices.store (show text)) (took : TookPart devices.output text) (noted : TookNotes devices.notes write_note)
      (unread : Untouched devices.input) (uncalled : Untouched devices.boxes) → Called laws invocation devices WriteFault
  graph_used : {status : Status} (action : Action) (due : IsDue invocation devices.store action) (graph : UsedGraph laws action status devices) → Called laws invocation devices status
  memory_out : (loaded : LoadedFront invocation.files devices.store) (noted : TookNotes devices.notes memory_note) (nothing : DidNothing devices)
      → Called laws invocation devices OutOfMemory

-- A call ended with this status, by what its words ask for and by the user-supplied calculators.
abbrev pub CallEnded : Laws → List OuterShape → Request → Status → CallDevices → Type 0
CallEnded laws outers asks_usage status devices = WasUsage status devices
CallEnded laws outers (asks_text text) status devices = WasTold text status devices
CallEnded laws outers (asks_command command) status devices = Called laws (invocation command outers) devices status

-- The call wrote the answer of an action over an input that ends after these bytes.
abbrev pub MetAnswer : Laws → Action → List ℕ → Status → CallDevices → Type 0
MetAnswer laws action read status devices = (given : RunAnswer) × AnswersAction laws action devices.boxes.before read given × Meets given status devices.output devices.notes

-- If the devices tell the bytes of the files and of the input, the call wrote the answer to these bytes.
abbrev pub IsAnswered : Laws → Status → Invocation → CallDevices → Type 0
IsAnswered laws status invocation devices =
    IfSome (loads_of devices.store.before.content invocation.files) (λ contents. IfSome devices.input.before.left (λ read.
    (files : Files) × AreFiles invocation.files contents files × MetAnswer laws (action_of invocation files) read status devices))
