-- What a call came to.
use Rattle.std.proofs.Common.{◌≡◌, ◌≢◌, ℕ, List, [], Option, None, Some, IfSome, ◌⊎◌, inl, inr, refl, sym, ap, ◌∙◌, subst}
use Rattle.mg_edge.specs.Edge.{SourceTold, SinkTold, StoreTold, HasRisen}
use Rattle.mg_calc.specs.Rules.{Laws}
use Rattle.mg_calc.specs.Told.{BoxTold}
use Rattle.mg_edge.proofs.Runs.{TookAll-start}
use Rattle.mg_edge.proofs.Counts.{rises-after}
use Rattle.mg_run.proofs.Readings.{no-status, lines-no-store, lines-no-usage, packets-no-store, packets-no-usage, lines-noted, packets-noted, lines-answered, packets-answered}
use Rattle.mg_run.proofs.LiveReadings.{not_failed, not_short, live-no-other, live-made-no-other, live-noted, live-made-noted, live-answered, live-made-answered}
use Rattle.mg_files.proofs.Loading.{of-loads}
use Rattle.mg_files.specs.Notes.{store_note}
use Rattle.mg_run.specs.Invocation.{Invocation}
use Rattle.mg_files.specs.Files.{Files, AreFiles}
use Rattle.mg_files.specs.Loads.{FailedAt}
use Rattle.mg_files.specs.Reads.{HasFailed}
use Rattle.mg_files.specs.declared.fault.Fault.{Fault}
use Rattle.mg_files.specs.declared.fault.Fault.TheVariants.{Noted, OutOfMemory as no_memory}
use Rattle.mg_calc.specs.declared.plan.Plan.{Plan}
use Rattle.mg_answer.specs.Answer as answers
use Rattle.mg_calc.specs.Meaning.{faults, stalled}
use Rattle.mg_answer.specs.Notes.{memory_note}
use Rattle.mg_answer.specs.Devices as running_devices
use Rattle.mg_answer.specs.Ran as running
use Rattle.mg_answer.proofs.Answering.{ran-answered}
use Rattle.mg_drive.specs.Traced.{Traced}
use Rattle.mg_drive.proofs.TracesRan.{traced_told, traced_noted, traced_answered}
use Rattle.mg_replay.proofs.Answered.{replayed_otherwise, replayed_noted, replayed_answered}
use Rattle.mg_run.specs.Answer.{RunAnswer, Action, refuse, show, run_plan, run_live, solve, generate, generate_live, trace, replay, action_of}
use Rattle.mg_run.specs.Devices.{Device, device, CallDevices, devices, run_devices_of, Untouched, Unrisen, NoneFailed, TookText, TookNotes}
use Rattle.mg_run.specs.Call.{Written, UsedGraph, IsActionOf, IsDue, DidNothing, Called, file_unloaded, graph_refused, text_shown, text_failed, graph_used, memory_out, MetAnswer, IsAnswered}
use Rattle.mg_run.specs.Code.Action.{FailedWith}
use Rattle.mg_run.proofs.Loaded.{none_loaded}
use Rattle.mg_answer.specs.declared.status.Status.{Status}
use Rattle.mg_answer.specs.declared.status.Status.TheVariants.{Good, StoreFault, Usage, GraphRefused, WriteFault, OutOfMemory}
use Rattle.mg_answer.specs.declared.run.Reporting.{Reporting}

-- Nothing was written.
if-any : {X : Type 0} (o : Option X) (P : X → Type 0) → ((x : X) → P x) → IfSome o P
if-any None P all = tt
if-any (Some x) P all = all x

-- A call that ended before a graph was used --

-- memory ran out before any file was loaded
pub called-nothing : (laws : Laws) (invocation : Invocation) (store : StoreTold) (input : SourceTold) (output : SinkTold) (notes : Device SinkTold) (boxes : List BoxTold)
    → TookNotes notes memory_note → Called laws invocation (devices (device store store) (device input input) (device output output) notes (device boxes boxes)) OutOfMemory
called-nothing laws invocation store input output notes boxes noted = memory_out (none_loaded invocation.files store) noted (record { unread = refl; unwritten = refl; uncalled = refl })

-- a file couldn't be loaded, or memory ran out while the files were loaded
pub called-failed : (laws : Laws) (invocation : Invocation) (fault : Fault) (status : Status) (store : Device StoreTold) (input : SourceTold) (output : SinkTold) (notes : Device SinkTold) (boxes : List BoxTold)
    → HasFailed fault invocation.files store → FailedWith fault status notes → Called laws invocation (devices store (device input input) (device output output) notes (device boxes boxes)) status
called-failed laws invocation (Noted note) status store input output notes boxes (file, failed, is) (same, noted) =
    subst (λ (s : Status). Called laws invocation (devices store (device input input) (device output output) notes (device boxes boxes)) s) (sym same)
    (file_unloaded file failed (subst (λ (n : List ℕ). TookNotes notes n) is noted) (record { unread = refl; unwritten = refl; uncalled = refl }))
called-failed laws invocation no_memory status store input output notes boxes loaded (same, noted) =
    subst (λ (s : Status). Called laws invocation (devices store (device input input) (device output output) notes (device boxes boxes)) s) (sym same)
    (memory_out loaded noted (record { unread = refl; unwritten = refl; uncalled = refl }))

pub called-refused : (laws : Laws) (invocation : Invocation) (note : List ℕ) (status : Status) (all : CallDevices) → status ≡ GraphRefused → IsDue invocation all.store (refuse note) → TookNotes all.notes note → DidNothing all
    → Called laws invocation all status
called-refused laws invocation note status all is due noted nothing = subst (λ (s : Status). Called laws invocation all s) (sym is) (graph_refused note due noted nothing)

pub called-shown : (laws : Laws) (invocation : Invocation) (text : List ℕ) (status : Status) (all : CallDevices) → IsDue invocation all.store (show text) → Written text status all → Untouched all.input → Untouched all.boxes
    → Called laws invocation all status
called-shown laws invocation text status all due (inl good) unread uncalled = subst (λ (s : Status). Called laws invocation all s) (sym good.0) (text_shown text due good.1 good.2 unread uncalled)
called-shown laws invocation text status all due (inr failed) unread uncalled = subst (λ (s : Status). Called laws invocation all s) (sym failed.0) (text_failed text due failed.1 failed.2 unread uncalled)

-- The statuses of what was done.
not-ran : (laws : Laws) (report : Reporting) (plan : Plan) (status : Status) (all : running_devices.RunDevices) → (status ≡ StoreFault) ⊎ (status ≡ Usage) → running.RanAll laws report plan status all → ⊥
not-ran laws report plan status all other ran =
    no-status status ran.read.end (faults (answers.job_of laws plan ran.read) ran.is.streams) (stalled ran.is.streams) other (ran.met.told ∙ ap (λ (a : RunAnswer). a.status) ran.is.is)

not-traced : (laws : Laws) (report : Reporting) (plan : Plan) (boxes : List BoxTold) (status : Status) (all : running_devices.RunDevices) → (status ≡ StoreFault) ⊎ (status ≡ Usage) → Traced laws report plan boxes status all → ⊥
not-traced laws report plan boxes status all other (inr out) = not_short status other out.is
not-traced laws report plan boxes status all other (inl ran) = elim (traced_told report plan boxes status all ran) [
  | inl failed ↦ not_failed status other failed
  | inr told ↦ no-status status ran.read.end told.0 told.1 other told.2
]

did-store : (laws : Laws) (action : Action) (all : CallDevices) → UsedGraph laws action StoreFault all → ⊥
did-store laws (refuse note) all did = did
did-store laws (show text) all did = did
did-store laws (run_plan report plan) all did = lines-no-store laws report plan (run_devices_of all) all.boxes did
did-store laws (run_live report early plan) all did = live-no-other laws report early plan StoreFault (run_devices_of all) all.boxes (inl refl) did
did-store laws (solve report plan) all did = not-ran laws report plan StoreFault (run_devices_of all) (inl refl) did.0
did-store laws (generate report number plan) all did = packets-no-store laws report plan number all.output all.notes all.boxes did.0
did-store laws (generate_live report number plan) all did = live-made-no-other laws report plan number StoreFault all.output all.notes all.boxes (inl refl) did.0
did-store laws (trace report plan) all did = not-traced laws report plan all.boxes.before StoreFault (run_devices_of all) (inl refl) did.0
did-store laws (replay report plan) all did = replayed_otherwise laws StoreFault report plan (run_devices_of all) all.boxes (inl refl) did.0

did-usage : (laws : Laws) (action : Action) (all : CallDevices) → UsedGraph laws action Usage all → ⊥
did-usage laws (refuse note) all did = did
did-usage laws (show text) all did = did
did-usage laws (run_plan report plan) all did = lines-no-usage laws report plan (run_devices_of all) all.boxes did
did-usage laws (run_live report early plan) all did = live-no-other laws report early plan Usage (run_devices_of all) all.boxes (inr refl) did
did-usage laws (solve report plan) all did = not-ran laws report plan Usage (run_devices_of all) (inr refl) did.0
did-usage laws (generate report number plan) all did = packets-no-usage laws report plan number all.output all.notes all.boxes did.0
did-usage laws (generate_live report number plan) all did = live-made-no-other laws report plan number Usage all.output all.notes all.boxes (inr refl) did.0
did-usage laws (trace report plan) all did = not-traced laws report plan all.boxes.before Usage (run_devices_of all) (inr refl) did.0
did-usage laws (replay report plan) all did = replayed_otherwise laws Usage report plan (run_devices_of all) all.boxes (inr refl) did.0

did-noted : (laws : Laws) (action : Action) (all : CallDevices) → UsedGraph laws action OutOfMemory all → TookNotes all.notes memory_note
did-noted laws (refuse note) all did = absurd did
did-noted laws (show text) all did = absurd did
did-noted laws (run_plan report plan) all did = lines-noted laws report plan (run_devices_of all) all.boxes did
did-noted laws (run_live report early plan) all did = live-noted laws report early plan (run_devices_of all) all.boxes did
did-noted laws (solve report plan) all did = did.0.1
did-noted laws (generate report number plan) all did = packets-noted laws report plan number all.output all.notes all.boxes did.0
did-noted laws (generate_live report number plan) all did = live-made-noted laws report plan number all.output all.notes all.boxes did.0
did-noted laws (trace report plan) all did = traced_noted laws report plan all.boxes.before (run_devices_of all) did.0
did-noted laws (replay report plan) all did = replayed_noted laws report plan (run_devices_of all) all.boxes did.0

-- no call with a command ends with the status of words that are no command
pub called-usage : (laws : Laws) (invocation : Invocation) (all : CallDevices) (status : Status) → Called laws invocation all status → status ≡ Usage → ⊥
called-usage laws invocation all status (file_unloaded file failed noted nothing) is = cc
called-usage laws invocation all status (graph_refused note due noted nothing) is = cc
called-usage laws invocation all status (text_shown text due took unnoted unread uncalled) is = cc
called-usage laws invocation all status (text_failed text due took noted unread uncalled) is = cc
called-usage laws invocation all status (graph_used action due graph) is = did-usage laws action all (subst (λ (s : Status). UsedGraph laws action s all) is graph)
called-usage laws invocation all status (memory_out loaded noted nothing) is = cc

-- if memory ran out, the notes say so
pub called-noted : (laws : Laws) (invocation : Invocation) (all : CallDevices) (status : Status) → Called laws invocation all status → status ≡ OutOfMemory → TookNotes all.notes memory_note
called-noted laws invocation all status (file_unloaded file failed noted nothing) is = absurd (let e : StoreFault ≡ OutOfMemory = is in cc)
called-noted laws invocation all status (graph_refused note due noted nothing) is = absurd (let e : GraphRefused ≡ OutOfMemory = is in cc)
called-noted laws invocation all status (text_shown text due took unnoted unread uncalled) is = absurd (let e : Good ≡ OutOfMemory = is in cc)
called-noted laws invocation all status (text_failed text due took noted unread uncalled) is = absurd (let e : WriteFault ≡ OutOfMemory = is in cc)
called-noted laws invocation all status (graph_used action due graph) is = did-noted laws action all (subst (λ (s : Status). UsedGraph laws action s all) is graph)
called-noted laws invocation all status (memory_out loaded noted nothing) is = noted

-- a file couldn't be loaded, and nothing else was done
abbrev pub WasUnloaded : List (List ℕ) → CallDevices → Type 0
WasUnloaded files all = (file : List ℕ) × FailedAt files file all.store × TookNotes all.notes (store_note file) × DidNothing all

pub called-unloaded : (laws : Laws) (invocation : Invocation) (all : CallDevices) (status : Status) → Called laws invocation all status → status ≡ StoreFault → WasUnloaded invocation.files all
called-unloaded laws invocation all status (file_unloaded file failed noted nothing) is = (file, failed, noted, nothing)
called-unloaded laws invocation all status (graph_refused note due noted nothing) is = absurd (let e : GraphRefused ≡ StoreFault = is in cc)
called-unloaded laws invocation all status (text_shown text due took unnoted unread uncalled) is = absurd (let e : Good ≡ StoreFault = is in cc)
called-unloaded laws invocation all status (text_failed text due took noted unread uncalled) is = absurd (let e : WriteFault ≡ StoreFault = is in cc)
called-unloaded laws invocation all status (graph_used action due graph) is = absurd (did-store laws action all (subst (λ (s : Status). UsedGraph laws action s all) is graph))
called-unloaded laws invocation all status (memory_out loaded noted nothing) is = absurd (let e : OutOfMemory ≡ StoreFault = is in cc)

-- What follows --

unrisen-rose : (a b : ℕ) → Unrisen a b → HasRisen a b → ⊥
unrisen-rose a b same rose = rose same

-- A sink that wasn't used took nothing.
took-nothing : (sink : Device SinkTold) → Untouched sink → TookText sink []
took-nothing sink untouched = record { whole = rw untouched (TookAll-start sink.before.taken); steady = ap (λ s. s.faults) untouched }

took-noted : (notes : Device SinkTold) (note : List ℕ) → Unrisen notes.before.faults notes.now.faults → TookNotes notes note → TookText notes note
took-noted notes note same (inl whole) = whole
took-noted notes note same (inr part) = absurd (unrisen-rose notes.before.faults notes.now.faults same part.rose)

abbrev refuse_answer : List ℕ → RunAnswer
refuse_answer note = record { output = []; notes = note; status = GraphRefused }

abbrev show_answer : List ℕ → RunAnswer
show_answer text = record { output = text; notes = []; status = Good }

none-run : (all : CallDevices) → NoneFailed all → running_devices.NoneFailed (run_devices_of all)
none-run all none = record { input = none.input; output = none.output; notes = none.notes }

did-answer : (laws : Laws) (action : Action) (status : Status) (all : CallDevices) → UsedGraph laws action status all → NoneFailed all → status ≢ OutOfMemory
    → IfSome all.input.before.left (λ read. MetAnswer laws action read status all)
did-answer laws (refuse note) status all did none some = absurd did
did-answer laws (show text) status all did none some = absurd did
did-answer laws (run_plan report plan) status all did none some =
    lines-answered laws report plan status (run_devices_of all) all.boxes did (none-run all none) some
did-answer laws (run_live report early plan) status all did none some =
    live-answered laws report early plan status (run_devices_of all) all.boxes did (none-run all none) some
did-answer laws (solve report plan) status all did none some =
    ran-answered laws report plan status (run_devices_of all) did.0 (none-run all none) some
did-answer laws (generate report number plan) status all did none some =
    if-any all.input.before.left (λ r. MetAnswer laws (generate report number plan) r status all)
    (λ r. packets-answered laws report plan number status (run_devices_of all) all.boxes did.0 (none-run all none) some)
did-answer laws (generate_live report number plan) status all did none some =
    if-any all.input.before.left (λ r. MetAnswer laws (generate_live report number plan) r status all)
    (λ r. live-made-answered laws report plan number status (run_devices_of all) all.boxes did.0 (none-run all none) some)
did-answer laws (trace report plan) status all did none some =
    traced_answered laws report plan all.boxes.before status (run_devices_of all) did.0 (none-run all none) some
did-answer laws (replay report plan) status all did none some =
    replayed_answered laws report plan status (run_devices_of all) all.boxes did.0 (none-run all none) some

-- The answer of the action is that of the files' bytes and the input's.
action-answered : (laws : Laws) (invocation : Invocation) (contents : List (List ℕ)) (status : Status) (action : Action) (input : Option (List ℕ)) (all : CallDevices) → IsActionOf invocation contents action
    → IfSome input (λ read. MetAnswer laws action read status all)
    → IfSome input (λ read. (files : Files) × AreFiles invocation.files contents files × MetAnswer laws (action_of invocation files) read status all)
action-answered laws invocation contents status action None all due meets = tt
action-answered laws invocation contents status action (Some read) all (files, are, same) meets = (files, are, subst (λ (j : Action). MetAnswer laws j read status all) same meets)

due-answered : (laws : Laws) (status : Status) (invocation : Invocation) (all : CallDevices) (action : Action) → IsDue invocation all.store action → IfSome all.input.before.left (λ read. MetAnswer laws action read status all)
    → IsAnswered laws status invocation all
due-answered laws status invocation all action due meets =
    of-loads all.store.before.content invocation.files due.contents
    (λ known. IfSome all.input.before.left (λ read. (files : Files) × AreFiles invocation.files known files × MetAnswer laws (action_of invocation files) read status all))
    due.loaded.given
    (action-answered laws invocation due.contents status action all.input.before.left all due.due meets)

pub answered-from : (laws : Laws) (status : Status) (invocation : Invocation) (all : CallDevices) → Called laws invocation all status → NoneFailed all → status ≢ OutOfMemory → IsAnswered laws status invocation all
answered-from laws status invocation all (file_unloaded file failed noted nothing) none some =
    absurd (unrisen-rose all.store.before.faults all.store.now.faults none.store (rises-after all.store.before.faults all.store.before.faults all.store.now.faults refl failed.once))
answered-from laws status invocation all (graph_refused note due noted nothing) none some = due-answered laws GraphRefused invocation all (refuse note) due
    (if-any all.input.before.left (λ r. MetAnswer laws (refuse note) r GraphRefused all)
    (λ r. (refuse_answer note, refl, record { text = took-nothing all.output nothing.unwritten; noted = took-noted all.notes note none.notes noted; told = refl })))
answered-from laws status invocation all (text_shown text due took unnoted unread uncalled) none some = due-answered laws Good invocation all (show text) due
    (if-any all.input.before.left (λ r. MetAnswer laws (show text) r Good all)
    (λ r. (show_answer text, refl, record { text = took; noted = took-nothing all.notes unnoted; told = refl })))
answered-from laws status invocation all (text_failed text due took noted unread uncalled) none some =
    absurd (unrisen-rose all.output.before.faults all.output.now.faults none.output took.rose)
answered-from laws status invocation all (graph_used action due graph) none some = due-answered laws status invocation all action due (did-answer laws action status all graph none some)
answered-from laws status invocation all (memory_out loaded noted nothing) none some = absurd (some refl)
