-- Which statuses a call may have if its devices failed.
use Rattle.std.proofs.Common.{◌≡◌, ℕ, List, [], ◌∷◌, ◌⊎◌, inl, inr, refl, ap}
use Rattle.mg_edge.specs.Edge.{SourceTold, SinkTold}
use Rattle.mg_calc.specs.Rules.{Laws}
use Rattle.mg_run.specs.Invocation.{Invocation}
use Rattle.mg_answer.proofs.Answering.{read-risen as run-read-risen, write-risen as run-write-risen}
use Rattle.mg_run.proofs.Readings.{lines-read-risen, lines-write-risen, packets-write-risen}
use Rattle.mg_run.proofs.LiveReadings.{live-read-risen, live-write-risen, live-made-write-risen}
use Rattle.mg_drive.proofs.TracesRan.{traced_read_risen, traced_write_risen}
use Rattle.mg_replay.proofs.Answered.{replayed_read_risen, replayed_write_risen}
use Rattle.mg_run.specs.Answer.{Action, refuse, show, run_plan, run_live, solve, generate, generate_live, trace, replay}
use Rattle.mg_run.specs.Devices.{Device, CallDevices, run_devices_of, Untouched, HasRisen, TookText}
use Rattle.mg_run.specs.Call.{UsedGraph, Called, file_unloaded, graph_refused, text_shown, text_failed, graph_used, memory_out, IsOneOf}
use Rattle.mg_answer.specs.declared.status.Status.{Status}
use Rattle.mg_answer.specs.declared.status.Status.TheVariants.{StoreFault, GraphRefused, ReadFault, WriteFault, OutOfMemory}

pub risen-steady : (a b : ℕ) → HasRisen a b → b ≡ a → ⊥
risen-steady a b risen steady = risen steady

risen-unread : (input : Device SourceTold) → HasRisen input.before.faults input.now.faults → Untouched input → ⊥
risen-unread input risen untouched = risen-steady _ _ risen (ap (λ s. s.faults) untouched)

risen-unwritten : (sink : Device SinkTold) → HasRisen sink.before.faults sink.now.faults → Untouched sink → ⊥
risen-unwritten sink risen untouched = risen-steady _ _ risen (ap (λ s. s.faults) untouched)

-- The store's count rose.
pub store-risen : (laws : Laws) (status : Status) (invocation : Invocation) (all : CallDevices) → Called laws invocation all status → HasRisen all.store.before.faults all.store.now.faults → IsOneOf status (StoreFault ∷ OutOfMemory ∷ [])
store-risen laws status invocation all (file_unloaded file failed noted nothing) risen = inl refl
store-risen laws status invocation all (graph_refused note due noted nothing) risen = absurd (risen-steady _ _ risen due.loaded.steady)
store-risen laws status invocation all (text_shown text due took unnoted unread uncalled) risen = absurd (risen-steady _ _ risen due.loaded.steady)
store-risen laws status invocation all (text_failed text due took noted unread uncalled) risen = absurd (risen-steady _ _ risen due.loaded.steady)
store-risen laws status invocation all (graph_used action due graph) risen = absurd (risen-steady _ _ risen due.loaded.steady)
store-risen laws status invocation all (memory_out loaded noted nothing) risen = inr (inl refl)

-- The input's count rose.
abbrev read_statuses : List Status
read_statuses = ReadFault ∷ WriteFault ∷ OutOfMemory ∷ []

read-did : (laws : Laws) (action : Action) (status : Status) (all : CallDevices) → UsedGraph laws action status all → HasRisen all.input.before.faults all.input.now.faults → IsOneOf status read_statuses
read-did laws (refuse note) status all did risen = absurd did
read-did laws (show text) status all did risen = absurd did
read-did laws (run_plan report plan) status all did risen = lines-read-risen laws report plan status (run_devices_of all) all.boxes did risen
read-did laws (run_live report early plan) status all did risen = live-read-risen laws report early plan status (run_devices_of all) all.boxes did risen
read-did laws (solve report plan) status all did risen = run-read-risen laws report plan status (run_devices_of all) did.0 risen
read-did laws (generate report number plan) status all did risen = absurd (risen-unread all.input risen did.1)
read-did laws (generate_live report number plan) status all did risen = absurd (risen-unread all.input risen did.1)
read-did laws (trace report plan) status all did risen = traced_read_risen laws report plan all.boxes.before status (run_devices_of all) did.0 risen
read-did laws (replay report plan) status all did risen = replayed_read_risen laws report plan status (run_devices_of all) all.boxes did.0 risen

pub read-risen : (laws : Laws) (status : Status) (invocation : Invocation) (all : CallDevices) → Called laws invocation all status → HasRisen all.input.before.faults all.input.now.faults → IsOneOf status read_statuses
read-risen laws status invocation all (file_unloaded file failed noted nothing) risen = absurd (risen-unread all.input risen nothing.unread)
read-risen laws status invocation all (graph_refused note due noted nothing) risen = absurd (risen-unread all.input risen nothing.unread)
read-risen laws status invocation all (text_shown text due took unnoted unread uncalled) risen = absurd (risen-unread all.input risen unread)
read-risen laws status invocation all (text_failed text due took noted unread uncalled) risen = absurd (risen-unread all.input risen unread)
read-risen laws status invocation all (graph_used action due graph) risen = read-did laws action status all graph risen
read-risen laws status invocation all (memory_out loaded noted nothing) risen = absurd (risen-unread all.input risen nothing.unread)

-- The output's count or the notes' rose.
abbrev write_statuses : List Status
write_statuses = StoreFault ∷ GraphRefused ∷ WriteFault ∷ OutOfMemory ∷ []

abbrev EitherRisen : CallDevices → Type 0
EitherRisen all = HasRisen all.output.before.faults all.output.now.faults ⊎ HasRisen all.notes.before.faults all.notes.now.faults

write-status : (status : Status) → IsOneOf status (WriteFault ∷ OutOfMemory ∷ []) → IsOneOf status write_statuses
write-status status one = inr (inr one)

write-did : (laws : Laws) (action : Action) (status : Status) (all : CallDevices) → UsedGraph laws action status all → EitherRisen all → IsOneOf status write_statuses
write-did laws (refuse note) status all did risen = absurd did
write-did laws (show text) status all did risen = absurd did
write-did laws (run_plan report plan) status all did risen = write-status status (lines-write-risen laws report plan status (run_devices_of all) all.boxes did risen)
write-did laws (run_live report early plan) status all did risen = write-status status (live-write-risen laws report early plan status (run_devices_of all) all.boxes did risen)
write-did laws (solve report plan) status all did risen = write-status status (run-write-risen laws report plan status (run_devices_of all) did.0 risen)
write-did laws (generate report number plan) status all did risen =
    write-status status (packets-write-risen laws report plan number status (run_devices_of all) all.boxes did.0 risen)
write-did laws (generate_live report number plan) status all did risen =
    write-status status (live-made-write-risen laws report plan number status (run_devices_of all) all.boxes did.0 risen)
write-did laws (trace report plan) status all did risen = write-status status (traced_write_risen laws report plan all.boxes.before status (run_devices_of all) did.0 risen)
write-did laws (replay report plan) status all did risen = write-status status (replayed_write_risen laws report plan status (run_devices_of all) all.boxes did.0 risen)

write-shown : (text : List ℕ) (all : CallDevices) → TookText all.output text → Untouched all.notes → EitherRisen all → ⊥
write-shown text all took unnoted (inl risen) = risen-steady _ _ risen took.steady
write-shown text all took unnoted (inr risen) = risen-unwritten all.notes risen unnoted

pub write-risen : (laws : Laws) (status : Status) (invocation : Invocation) (all : CallDevices) → Called laws invocation all status → EitherRisen all → IsOneOf status write_statuses
write-risen laws status invocation all (file_unloaded file failed noted nothing) risen = inl refl
write-risen laws status invocation all (graph_refused note due noted nothing) risen = inr (inl refl)
write-risen laws status invocation all (text_shown text due took unnoted unread uncalled) risen = absurd (write-shown text all took unnoted risen)
write-risen laws status invocation all (text_failed text due took noted unread uncalled) risen = inr (inr (inl refl))
write-risen laws status invocation all (graph_used action due graph) risen = write-did laws action status all graph risen
write-risen laws status invocation all (memory_out loaded noted nothing) risen = inr (inr (inr (inl refl)))
