-- What a call came to, by what its words ask for.
use Rattle.std.proofs.Common.{Option, None, Some, ◌≡◌, ◌≢◌, ◌↔◌, ◌⊎◌, inl, inr, refl, sym, ap, ◌∙◌, subst, ℕ, Bool, true, false, List, [], ◌∷◌, map, length, Result, Ok, Err, IfSome}
use Rattle.std.proofs.lemmas.Bool.{false≢true}
use Rattle.mg_subgraph.proofs.Steps.{length-map}
use Rattle.mg_config.specs.Config.{GraphView}
use Rattle.mg_calc.specs.Rules.{Laws}
use Rattle.mg_calc.specs.declared.plan.Plan.{Plan}
use Rattle.mg_check.specs.Check.{check_of}
use Rattle.mg_check.specs.declared.fault.CheckFault.{CheckFault}
use Rattle.mg_subgraph.specs.Expansion.{expansion_of}
use Rattle.mg_subgraph.specs.declared.fault.ExpandFault.{ExpandFault}
use Rattle.mg_edge.specs.Edge.{SourceTold, SinkTold, StoreTold}
use Rattle.mg_calc.specs.declared.shape.OuterShape.{OuterShape}
use Rattle.mg_calc.specs.Told.{BoxTold}
use Rattle.mg_run.specs.Invocation.{Invocation, invocation}
use Rattle.mg_files.specs.Files.{Files, graphs, no_graphs}
use Rattle.mg_run.specs.Answer.{reporting, Action, refuse, show, run_plan, run_live, solve, generate, generate_live, trace, replay, check_action, solve_action, first_stated, way_action, live_action, verb_action, expanded_action, files_action}
use Rattle.mg_words.specs.Words.{Request, asks_usage, asks_text, asks_command, command_by}
use Rattle.mg_run.specs.Devices.{Device, device, CallDevices, devices, run_devices_of, Untouched, InputHasEnded, HasRisen, NoneFailed, TookNotes}
use Rattle.mg_answer.specs.Notes.{memory_note}
use Rattle.mg_answer.proofs.Answering.{noted-from}
use Rattle.mg_words.specs.Help.{usage_note}
use Rattle.mg_run.specs.Call.{Written, WasUsage, WasTold, UsedGraph, IsActionOf, CallEnded, Called, file_unloaded, graph_refused, text_shown, text_failed, graph_used, memory_out, IsAnswered, IsOneOf}
use Rattle.mg_words.specs.Command.{reads_input, calls_boxes}
use Rattle.mg_words.specs.declared.words.Instruction.{Instruction}
use Rattle.mg_words.specs.declared.words.Verb.{Verb}
use Rattle.mg_words.specs.declared.words.Verb.TheVariants.{Check, Expand, Use}
use Rattle.mg_words.specs.declared.words.Way.{Way}
use Rattle.mg_words.specs.declared.words.Way.TheVariants.{Run, Solve, Generate, Trace, Replay}
use Rattle.mg_answer.specs.declared.status.Status.{Status}
use Rattle.mg_answer.specs.declared.status.Status.TheVariants.{StoreFault, Usage, GraphRefused, ReadFault, WriteFault, OutOfMemory}
use Rattle.mg_answer.specs.declared.run.Reporting.{Reporting}
use Rattle.mg_feed.specs.Sent.{Sent}
use Rattle.mg_run.proofs.Readings.{lines-boxes, packets-boxes}
use Rattle.mg_run.proofs.LiveReadings.{live-boxes, live-made-boxes}
use Rattle.mg_run.proofs.Calling.{called-nothing, called-usage, called-noted, WasUnloaded, called-unloaded, answered-from}
use Rattle.mg_run.proofs.Planned.{planned}
use Rattle.mg_run.proofs.Ending.{ended_statuses, called-unread, called-ended}
use Rattle.mg_run.proofs.Risen.{store-risen, read-risen, write-risen, risen-steady}

-- There was no memory to judge the words.
came-short : (laws : Laws) (outers : List OuterShape) (request : Request) (store : StoreTold) (input : SourceTold) (output : SinkTold) (notes : Device SinkTold) (boxes : List BoxTold) → TookNotes notes memory_note
    → CallEnded laws outers request OutOfMemory (devices (device store store) (device input input) (device output output) notes (device boxes boxes))
came-short laws outers asks_usage store input output notes boxes noted = record { noted = inr (refl, noted); unloaded = refl; nothing = record { unread = refl; unwritten = refl; uncalled = refl } }
came-short laws outers (asks_text text) store input output notes boxes noted = record { written = inr (refl, refl, noted); unloaded = refl; unread = refl; uncalled = refl }
came-short laws outers (asks_command command) store input output notes boxes noted = called-nothing laws (invocation command outers) store input output notes boxes noted

pub came-nothing : (laws : Laws) (outers : List OuterShape) (request : Request) (status : Status) (store : StoreTold) (input : SourceTold) (output : SinkTold) (notes : Device SinkTold) (boxes : List BoxTold)
    → status ≡ OutOfMemory → TookNotes notes memory_note → CallEnded laws outers request status (devices (device store store) (device input input) (device output output) notes (device boxes boxes))
came-nothing laws outers request status store input output notes boxes is noted =
    subst (λ (s : Status). CallEnded laws outers request s (devices (device store store) (device input input) (device output output) notes (device boxes boxes))) (sym is)
    (came-short laws outers request store input output notes boxes noted)

-- The words were no command, and the note says so.
pub usage-came : (laws : Laws) (outers : List OuterShape) (request : Request) (all : CallDevices) (done : Bool) → request ≡ asks_usage → Sent done all.notes.before all.notes.now usage_note
    → Untouched all.store → Untouched all.input → Untouched all.output → Untouched all.boxes → CallEnded laws outers request Usage all
usage-came laws outers request all done is sent unloaded unread unwritten uncalled =
    subst (λ (a : Request). CallEnded laws outers a Usage all) (sym is)
    (record { noted = inl (refl, noted-from done all.notes usage_note sent); unloaded = unloaded; nothing = record { unread = unread; unwritten = unwritten; uncalled = uncalled } })

-- Usage --

told-status : (text : List ℕ) (all : CallDevices) → WasTold text Usage all → ⊥
told-status text all told = by told.written
  where
    by : Written text Usage all ⊎ ((Usage ≡ OutOfMemory) × Untouched all.output × TookNotes all.notes memory_note) → ⊥
    by (inl (inl good)) = let e = good.0 in cc
    by (inl (inr failed)) = let e = failed.0 in cc
    by (inr short) = let e = short.0 in cc

asks-by-status : (laws : Laws) (outers : List OuterShape) (request : Request) (status : Status) (all : CallDevices) → CallEnded laws outers request status all → status ≡ Usage → request ≡ asks_usage
asks-by-status laws outers asks_usage status all came is = refl
asks-by-status laws outers (asks_text text) status all came is = absurd (told-status text all (subst (λ (s : Status). WasTold text s all) is came))
asks-by-status laws outers (asks_command command) status all came is = absurd (called-usage laws (invocation command outers) all status came is)

usage-status : (status : Status) (all : CallDevices) → WasUsage status all → status ≢ OutOfMemory → status ≡ Usage
usage-status status all was some = by was.noted
  where
    by : ((status ≡ Usage) × TookNotes all.notes usage_note) ⊎ ((status ≡ OutOfMemory) × TookNotes all.notes memory_note) → status ≡ Usage
    by (inl noted) = noted.0
    by (inr short) = absurd (some short.0)

pub came-note : (laws : Laws) (outers : List OuterShape) (request : Request) (status : Status) (all : CallDevices) → CallEnded laws outers request status all → request ≡ asks_usage → WasUsage status all
came-note laws outers request status all came is = subst (λ (a : Request). CallEnded laws outers a status all) is came

pub came-usage : (laws : Laws) (outers : List OuterShape) (request : Request) (status : Status) (all : CallDevices) → CallEnded laws outers request status all → status ≢ OutOfMemory → (status ≡ Usage) ↔ (request ≡ asks_usage)
came-usage laws outers request status all came some = (asks-by-status laws outers request status all came, λ is. usage-status status all (came-note laws outers request status all came is) some)

pub came-told : (laws : Laws) (outers : List OuterShape) (request : Request) (status : Status) (all : CallDevices) → CallEnded laws outers request status all → (text : List ℕ) → request ≡ asks_text text → WasTold text status all
came-told laws outers request status all came text is = subst (λ (a : Request). CallEnded laws outers a status all) is came

-- A command --

pub came-called : (laws : Laws) (outers : List OuterShape) (request : Request) (status : Status) (all : CallDevices) → CallEnded laws outers request status all → IfSome (command_by request) (λ command. Called laws (invocation command outers) all status)
came-called laws outers asks_usage status all came = tt
came-called laws outers (asks_text text) status all came = tt
came-called laws outers (asks_command command) status all came = came

pub came-unloaded : (laws : Laws) (outers : List OuterShape) (request : Request) (status : Status) (all : CallDevices) → CallEnded laws outers request status all
    → IfSome (command_by request) (λ command. status ≡ StoreFault → WasUnloaded (invocation command outers).files all)
came-unloaded laws outers asks_usage status all came = tt
came-unloaded laws outers (asks_text text) status all came = tt
came-unloaded laws outers (asks_command command) status all came = called-unloaded laws (invocation command outers) all status came

pub came-answered : (laws : Laws) (outers : List OuterShape) (request : Request) (status : Status) (all : CallDevices) → CallEnded laws outers request status all
    → IfSome (command_by request) (λ command. NoneFailed all → status ≢ OutOfMemory → IsAnswered laws status (invocation command outers) all)
came-answered laws outers asks_usage status all came = tt
came-answered laws outers (asks_text text) status all came = tt
came-answered laws outers (asks_command command) status all came = answered-from laws status (invocation command outers) all came

pub came-unread : (laws : Laws) (outers : List OuterShape) (request : Request) (status : Status) (all : CallDevices) → CallEnded laws outers request status all
    → IfSome (command_by request) (λ command. reads_input command.instruction.verb ≡ false → Untouched all.input)
came-unread laws outers asks_usage status all came = tt
came-unread laws outers (asks_text text) status all came = tt
came-unread laws outers (asks_command command) status all came = λ is. called-unread laws status (invocation command outers) all is came

-- The input's end --

pub came-ended : (laws : Laws) (outers : List OuterShape) (request : Request) (status : Status) (all : CallDevices) → CallEnded laws outers request status all
    → IfSome (command_by request) (λ command. reads_input command.instruction.verb ≡ true → IsOneOf status ended_statuses → InputHasEnded all.input)
came-ended laws outers asks_usage status all came = tt
came-ended laws outers (asks_text text) status all came = tt
came-ended laws outers (asks_command command) status all came = called-ended laws status (invocation command outers) all came

-- Faults --

pub came-store : (laws : Laws) (outers : List OuterShape) (request : Request) (status : Status) (all : CallDevices) → CallEnded laws outers request status all → HasRisen all.store.before.faults all.store.now.faults → IsOneOf status (StoreFault ∷ OutOfMemory ∷ [])
came-store laws outers asks_usage status all came risen = absurd (risen-steady _ _ risen (ap (λ s. s.faults) came.unloaded))
came-store laws outers (asks_text text) status all came risen = absurd (risen-steady _ _ risen (ap (λ s. s.faults) came.unloaded))
came-store laws outers (asks_command command) status all came risen = store-risen laws status (invocation command outers) all came risen

pub came-read : (laws : Laws) (outers : List OuterShape) (request : Request) (status : Status) (all : CallDevices) → CallEnded laws outers request status all → HasRisen all.input.before.faults all.input.now.faults
    → IsOneOf status (ReadFault ∷ WriteFault ∷ OutOfMemory ∷ [])
came-read laws outers asks_usage status all came risen = absurd (risen-steady _ _ risen (ap (λ s. s.faults) came.nothing.unread))
came-read laws outers (asks_text text) status all came risen = absurd (risen-steady _ _ risen (ap (λ s. s.faults) came.unread))
came-read laws outers (asks_command command) status all came risen = read-risen laws status (invocation command outers) all came risen

abbrev EitherRisen : CallDevices → Type 0
EitherRisen all = HasRisen all.output.before.faults all.output.now.faults ⊎ HasRisen all.notes.before.faults all.notes.now.faults

abbrev write_statuses : List Status
write_statuses = Usage ∷ StoreFault ∷ GraphRefused ∷ WriteFault ∷ OutOfMemory ∷ []

usage-write : (status : Status) (all : CallDevices) → WasUsage status all → IsOneOf status write_statuses
usage-write status all was = by was.noted
  where
    by : ((status ≡ Usage) × TookNotes all.notes usage_note) ⊎ ((status ≡ OutOfMemory) × TookNotes all.notes memory_note) → IsOneOf status write_statuses
    by (inl noted) = inl noted.0
    by (inr short) = inr (inr (inr (inr (inl short.0))))

told-write : (text : List ℕ) (status : Status) (all : CallDevices) → WasTold text status all → EitherRisen all → IsOneOf status write_statuses
told-write text status all told risen = by told.written risen
  where
    by : Written text status all ⊎ ((status ≡ OutOfMemory) × Untouched all.output × TookNotes all.notes memory_note) → EitherRisen all → IsOneOf status write_statuses
    by (inl (inr failed)) risen = inr (inr (inr (inl failed.0)))
    by (inr short) risen = inr (inr (inr (inr (inl short.0))))
    by (inl (inl good)) (inl risen) = absurd (risen-steady _ _ risen good.1.steady)
    by (inl (inl good)) (inr risen) = absurd (risen-steady _ _ risen (ap (λ s. s.faults) good.2))

pub came-write : (laws : Laws) (outers : List OuterShape) (request : Request) (status : Status) (all : CallDevices) → CallEnded laws outers request status all → EitherRisen all → IsOneOf status write_statuses
came-write laws outers asks_usage status all came risen = usage-write status all came
came-write laws outers (asks_text text) status all came risen = told-write text status all came risen
came-write laws outers (asks_command command) status all came risen = inr (write-risen laws status (invocation command outers) all came risen)

-- Out of memory --

usage-noted : (all : CallDevices) → WasUsage OutOfMemory all → TookNotes all.notes memory_note
usage-noted all was = by was.noted
  where
    by : ((OutOfMemory ≡ Usage) × TookNotes all.notes usage_note) ⊎ ((OutOfMemory ≡ OutOfMemory) × TookNotes all.notes memory_note) → TookNotes all.notes memory_note
    by (inl noted) = let e = noted.0 in cc
    by (inr short) = short.1

told-noted : (text : List ℕ) (all : CallDevices) → WasTold text OutOfMemory all → TookNotes all.notes memory_note
told-noted text all told = by told.written
  where
    by : Written text OutOfMemory all ⊎ ((OutOfMemory ≡ OutOfMemory) × Untouched all.output × TookNotes all.notes memory_note) → TookNotes all.notes memory_note
    by (inl (inl good)) = let e = good.0 in cc
    by (inl (inr failed)) = let e = failed.0 in cc
    by (inr short) = short.2

noted-by : (laws : Laws) (outers : List OuterShape) (request : Request) (all : CallDevices) → CallEnded laws outers request OutOfMemory all → TookNotes all.notes memory_note
noted-by laws outers asks_usage all came = usage-noted all came
noted-by laws outers (asks_text text) all came = told-noted text all came
noted-by laws outers (asks_command command) all came = called-noted laws (invocation command outers) all OutOfMemory came refl

pub came-noted : (laws : Laws) (outers : List OuterShape) (request : Request) (status : Status) (all : CallDevices) → CallEnded laws outers request status all → status ≡ OutOfMemory → TookNotes all.notes memory_note
came-noted laws outers request status all came is = noted-by laws outers request all (subst (λ (s : Status). CallEnded laws outers request s all) is came)

-- The calculators --

did-boxes : (laws : Laws) (action : Action) (status : Status) (all : CallDevices) → UsedGraph laws action status all → length all.boxes.now ≡ length all.boxes.before
did-boxes laws (refuse note) status all did = absurd did
did-boxes laws (show text) status all did = absurd did
did-boxes laws (run_plan report plan) status all did = lines-boxes laws report plan status (run_devices_of all) all.boxes did
did-boxes laws (run_live report early plan) status all did = live-boxes laws report early plan status (run_devices_of all) all.boxes did
did-boxes laws (solve report plan) status all did = ap length did.1
did-boxes laws (generate report number plan) status all did = packets-boxes laws report plan number status all.output all.notes all.boxes did.0
did-boxes laws (generate_live report number plan) status all did = live-made-boxes laws report plan number status all.output all.notes all.boxes did.0
did-boxes laws (trace report plan) status all did = did.1.back.count
did-boxes laws (replay report plan) status all did = did.1.count

called-boxes : (laws : Laws) (status : Status) (invocation : Invocation) (all : CallDevices) → Called laws invocation all status → length all.boxes.now ≡ length all.boxes.before
called-boxes laws status invocation all (file_unloaded file failed noted nothing) = ap length nothing.uncalled
called-boxes laws status invocation all (graph_refused note due noted nothing) = ap length nothing.uncalled
called-boxes laws status invocation all (text_shown text due took unnoted unread uncalled) = ap length uncalled
called-boxes laws status invocation all (text_failed text due took noted unread uncalled) = ap length uncalled
called-boxes laws status invocation all (graph_used action due graph) = did-boxes laws action status all graph
called-boxes laws status invocation all (memory_out loaded noted nothing) = ap length nothing.uncalled

pub came-boxes : (laws : Laws) (outers : List OuterShape) (request : Request) (status : Status) (all : CallDevices) → CallEnded laws outers request status all → length all.boxes.now ≡ length all.boxes.before
came-boxes laws outers asks_usage status all came = ap length came.nothing.uncalled
came-boxes laws outers (asks_text text) status all came = ap length came.uncalled
came-boxes laws outers (asks_command command) status all came = called-boxes laws status (invocation command outers) all came

-- as many things have as many images
pub count-of : {X Y : Type 0} (f : X → Y) (xs ys : List X) → length (map f xs) ≡ length (map f ys) → length xs ≡ length ys
count-of f xs ys same = sym (length-map f xs) ∙ (same ∙ length-map f ys)

-- An action that is due of an invocation with another verb runs no graph.
abbrev IsRun : Action → Type 0
IsRun (refuse note) = ⊥
IsRun (show text) = ⊥
IsRun (run_plan report plan) = Unit {0}
IsRun (run_live report early plan) = Unit {0}
IsRun (solve report plan) = ⊥
IsRun (generate report number plan) = Unit {0}
IsRun (generate_live report number plan) = Unit {0}
IsRun (trace report plan) = Unit {0}
IsRun (replay report plan) = Unit {0}

check-no-run : (checked : Result Plan CheckFault) → IsRun (check_action checked) → ⊥
check-no-run (Ok plan) runs = runs
check-no-run (Err fault) runs = runs

solve-no-run : (first : Option ℕ) (report : Reporting) (plan : Plan) → IsRun (solve_action first report plan) → ⊥
solve-no-run None report plan runs = runs
solve-no-run (Some first) report plan runs = runs

way-no-run : (way : Way) (instruction : Instruction) (plan : Plan) → calls_boxes (Use way) ≡ false → IsRun (way_action way instruction plan) → ⊥
way-no-run Run instruction plan is runs = false≢true (sym is)
way-no-run Solve instruction plan is runs = solve-no-run (first_stated plan) (reporting instruction) plan runs
way-no-run Generate instruction plan is runs = false≢true (sym is)
way-no-run Trace instruction plan is runs = false≢true (sym is)
way-no-run Replay instruction plan is runs = false≢true (sym is)

live-no-run : (way : Way) (instruction : Instruction) (first : ℕ) (plan : Plan) → calls_boxes (Use way) ≡ false → IsRun (live_action way instruction first plan) → ⊥
live-no-run Run instruction first plan is runs = false≢true (sym is)
live-no-run Solve instruction first plan is runs = runs
live-no-run Generate instruction first plan is runs = false≢true (sym is)
live-no-run Trace instruction first plan is runs = runs
live-no-run Replay instruction first plan is runs = runs

verb-no-run : (verb : Verb) (instruction : Instruction) (outers : List OuterShape) (g : GraphView) → calls_boxes verb ≡ false → IsRun (verb_action verb instruction outers g) → ⊥
verb-no-run Check instruction outers g is runs = check-no-run (check_of outers g) runs
verb-no-run Expand instruction outers g is runs = runs
verb-no-run (Use way) instruction outers g is runs =
    planned (λ action. IsRun action → ⊥) way instruction (check_of outers g) (λ note calls. calls) (λ plan calls. way-no-run way instruction plan is calls) (λ first plan calls. live-no-run way instruction first plan is calls) runs

expanded-no-run : (instruction : Instruction) (outers : List OuterShape) (expanded : Result GraphView ExpandFault) → calls_boxes instruction.verb ≡ false → IsRun (expanded_action instruction outers expanded) → ⊥
expanded-no-run instruction outers (Ok g) is runs = verb-no-run instruction.verb instruction outers g is runs
expanded-no-run instruction outers (Err fault) is runs = runs

files-no-run : (instruction : Instruction) (outers : List OuterShape) (files : Files) → calls_boxes instruction.verb ≡ false → IsRun (files_action instruction outers files) → ⊥
files-no-run instruction outers (graphs []) is runs = runs
files-no-run instruction outers (graphs (main ∷ library)) is runs = expanded-no-run instruction outers (expansion_of main library) is runs
files-no-run instruction outers (no_graphs note) is runs = runs

due-no-run : (invocation : Invocation) (contents : List (List ℕ)) (action : Action) → calls_boxes invocation.instruction.verb ≡ false → IsActionOf invocation contents action → IsRun action → ⊥
due-no-run invocation contents action is (files, are, same) runs = files-no-run invocation.instruction invocation.outers files is (subst IsRun same runs)

did-uncalled : (laws : Laws) (action : Action) (status : Status) (all : CallDevices) → (IsRun action → ⊥) → UsedGraph laws action status all → Untouched all.boxes
did-uncalled laws (refuse note) status all none did = absurd did
did-uncalled laws (show text) status all none did = absurd did
did-uncalled laws (run_plan report plan) status all none did = absurd (none tt)
did-uncalled laws (run_live report early plan) status all none did = absurd (none tt)
did-uncalled laws (solve report plan) status all none did = did.1
did-uncalled laws (generate report number plan) status all none did = absurd (none tt)
did-uncalled laws (generate_live report number plan) status all none did = absurd (none tt)
did-uncalled laws (trace report plan) status all none did = absurd (none tt)
did-uncalled laws (replay report plan) status all none did = absurd (none tt)

called-uncalled : (laws : Laws) (status : Status) (invocation : Invocation) (all : CallDevices) → calls_boxes invocation.instruction.verb ≡ false → Called laws invocation all status → Untouched all.boxes
called-uncalled laws status invocation all is (file_unloaded file failed noted nothing) = nothing.uncalled
called-uncalled laws status invocation all is (graph_refused note due noted nothing) = nothing.uncalled
called-uncalled laws status invocation all is (text_shown text due took unnoted unread uncalled) = uncalled
called-uncalled laws status invocation all is (text_failed text due took noted unread uncalled) = uncalled
called-uncalled laws status invocation all is (graph_used action due graph) = did-uncalled laws action status all (due-no-run invocation due.contents action is due.due) graph
called-uncalled laws status invocation all is (memory_out loaded noted nothing) = nothing.uncalled

pub came-uncalled : (laws : Laws) (outers : List OuterShape) (request : Request) (status : Status) (all : CallDevices) → CallEnded laws outers request status all
    → IfSome (command_by request) (λ command. calls_boxes command.instruction.verb ≡ false → Untouched all.boxes)
came-uncalled laws outers asks_usage status all came = tt
came-uncalled laws outers (asks_text text) status all came = tt
came-uncalled laws outers (asks_command command) status all came = λ is. called-uncalled laws status (invocation command outers) all is came

-- Devices that are held apart tell what the devices told that were held together.
pub came_apart : (laws : Laws) (outers : List OuterShape) (request : Request) (status : Status) (store : Device StoreTold) (ib ia : SourceTold) (ob oa nb na : SinkTold) (boxes : Device (List BoxTold)) (i : SourceTold) (o n : SinkTold) → i ≡ ia → o ≡ oa → n ≡ na
    → CallEnded laws outers request status (devices store (device ib ia) (device ob oa) (device nb na) boxes) → CallEnded laws outers request status (devices store (device ib i) (device ob o) (device nb n) boxes)
came_apart laws outers request status store ib ia ob oa nb na boxes i o n same_i same_o same_n came =
    subst (λ (s : SourceTold). CallEnded laws outers request status (devices store (device ib s) (device ob o) (device nb n) boxes)) (sym same_i)
    (subst (λ (k : SinkTold). CallEnded laws outers request status (devices store (device ib ia) (device ob k) (device nb n) boxes)) (sym same_o)
    (subst (λ (e : SinkTold). CallEnded laws outers request status (devices store (device ib ia) (device ob oa) (device nb e) boxes)) (sym same_n) came))
