-- Who reads the input, and that it met its end.
use Rattle.std.proofs.Common.{◌≡◌, ℕ, List, [], ◌∷◌, true, false, Option, None, Some, Result, Ok, Err, ◌⊎◌, inl, inr, refl, sym, subst}
use Rattle.std.proofs.lemmas.Bool.{false≢true}
use Rattle.mg_edge.specs.Edge.{SourceTold}
use Rattle.mg_feed.specs.Ran.{EndCame}
use Rattle.mg_config.specs.Config.{GraphView}
use Rattle.mg_edge.proofs.Counts.{rises-after}
use Rattle.mg_calc.specs.Rules.{Laws}
use Rattle.mg_calc.specs.declared.plan.Plan.{Plan}
use Rattle.mg_calc.specs.declared.shape.OuterShape.{OuterShape}
use Rattle.mg_check.specs.Check.{check_of}
use Rattle.mg_check.specs.declared.fault.CheckFault.{CheckFault}
use Rattle.mg_subgraph.specs.Expansion.{expansion_of}
use Rattle.mg_subgraph.specs.declared.fault.ExpandFault.{ExpandFault}
use Rattle.mg_answer.proofs.Answering.{ran-ended}
use Rattle.mg_run.proofs.Readings.{lines-ended}
use Rattle.mg_run.proofs.LiveReadings.{live-ended}
use Rattle.mg_drive.proofs.TracesRan.{traced_ended}
use Rattle.mg_replay.proofs.Answered.{replayed_ended}
use Rattle.mg_words.specs.Command.{reads_input}
use Rattle.mg_run.specs.Invocation.{Invocation}
use Rattle.mg_files.specs.Files.{Files, graphs, no_graphs}
use Rattle.mg_run.specs.Answer.{reporting, Action, refuse, show, run_plan, run_live, solve, generate, generate_live, trace, replay, check_action, solve_action, first_stated, way_action, live_action, verb_action, expanded_action, files_action}
use Rattle.mg_run.specs.Devices.{Device, CallDevices, run_devices_of, Untouched, InputHasEnded}
use Rattle.mg_run.specs.Call.{UsedGraph, IsActionOf, Called, file_unloaded, graph_refused, text_shown, text_failed, graph_used, memory_out, IsOneOf}
use Rattle.mg_run.proofs.Planned.{planned}
use Rattle.mg_words.specs.declared.words.Instruction.{Instruction}
use Rattle.mg_words.specs.declared.words.Verb.{Verb}
use Rattle.mg_words.specs.declared.words.Verb.TheVariants.{Check, Expand, Use}
use Rattle.mg_words.specs.declared.words.Way.{Way}
use Rattle.mg_words.specs.declared.words.Way.TheVariants.{Run, Solve, Generate, Trace, Replay}
use Rattle.mg_answer.specs.declared.status.Status.{Status}
use Rattle.mg_answer.specs.declared.status.Status.TheVariants.{Good, StoreFault, GraphRefused, NodeFault, Stalled, WriteFault, OutOfMemory}
use Rattle.mg_answer.specs.declared.run.Reporting.{Reporting}

-- the input may be read if this action is done
abbrev MayRead : Action → Type 0
MayRead (refuse note) = ⊥
MayRead (show text) = ⊥
MayRead (run_plan report plan) = Unit {0}
MayRead (run_live report early plan) = Unit {0}
MayRead (solve report plan) = Unit {0}
MayRead (generate report number plan) = ⊥
MayRead (generate_live report number plan) = ⊥
MayRead (trace report plan) = Unit {0}
MayRead (replay report plan) = Unit {0}

-- A check, an expansion and a run over packets that are made don't read the input.
check-unread : (checked : Result Plan CheckFault) → MayRead (check_action checked) → ⊥
check-unread (Ok plan) may = may
check-unread (Err fault) may = may

way-unread : (way : Way) (instruction : Instruction) (plan : Plan) → reads_input (Use way) ≡ false → MayRead (way_action way instruction plan) → ⊥
way-unread Run instruction plan is may = false≢true (sym is)
way-unread Solve instruction plan is may = false≢true (sym is)
way-unread Generate instruction plan is may = may
way-unread Trace instruction plan is may = false≢true (sym is)
way-unread Replay instruction plan is may = false≢true (sym is)

live-unread : (way : Way) (instruction : Instruction) (first : ℕ) (plan : Plan) → reads_input (Use way) ≡ false → MayRead (live_action way instruction first plan) → ⊥
live-unread Run instruction first plan is may = false≢true (sym is)
live-unread Solve instruction first plan is may = may
live-unread Generate instruction first plan is may = may
live-unread Trace instruction first plan is may = may
live-unread Replay instruction first plan is may = may

graph-unread : (verb : Verb) (instruction : Instruction) (outers : List OuterShape) (g : GraphView) → reads_input verb ≡ false → MayRead (verb_action verb instruction outers g) → ⊥
graph-unread Check instruction outers g is may = check-unread (check_of outers g) may
graph-unread Expand instruction outers g is may = may
graph-unread (Use way) instruction outers g is may =
    planned (λ action. MayRead action → ⊥) way instruction (check_of outers g) (λ note reads. reads) (λ plan reads. way-unread way instruction plan is reads) (λ first plan reads. live-unread way instruction first plan is reads) may

expanded-unread : (instruction : Instruction) (outers : List OuterShape) (expanded : Result GraphView ExpandFault) → reads_input instruction.verb ≡ false → MayRead (expanded_action instruction outers expanded) → ⊥
expanded-unread instruction outers (Ok g) is may = graph-unread instruction.verb instruction outers g is may
expanded-unread instruction outers (Err fault) is may = may

files-unread : (instruction : Instruction) (outers : List OuterShape) (files : Files) → reads_input instruction.verb ≡ false → MayRead (files_action instruction outers files) → ⊥
files-unread instruction outers (graphs []) is may = may
files-unread instruction outers (graphs (main ∷ library)) is may = expanded-unread instruction outers (expansion_of main library) is may
files-unread instruction outers (no_graphs note) is may = may

due-unread : (invocation : Invocation) (contents : List (List ℕ)) (action : Action) → IsActionOf invocation contents action → reads_input invocation.instruction.verb ≡ false → MayRead action → ⊥
due-unread invocation contents action (files, are, same) is may = files-unread invocation.instruction invocation.outers files is (subst MayRead same may)

did-unread : (laws : Laws) (action : Action) (status : Status) (all : CallDevices) → (MayRead action → ⊥) → UsedGraph laws action status all → Untouched all.input
did-unread laws (refuse note) status all none did = absurd did
did-unread laws (show text) status all none did = absurd did
did-unread laws (run_plan report plan) status all none did = absurd (none tt)
did-unread laws (run_live report early plan) status all none did = absurd (none tt)
did-unread laws (solve report plan) status all none did = absurd (none tt)
did-unread laws (generate report number plan) status all none did = did.1
did-unread laws (generate_live report number plan) status all none did = did.1
did-unread laws (trace report plan) status all none did = absurd (none tt)
did-unread laws (replay report plan) status all none did = absurd (none tt)

pub called-unread : (laws : Laws) (status : Status) (invocation : Invocation) (all : CallDevices) → reads_input invocation.instruction.verb ≡ false → Called laws invocation all status → Untouched all.input
called-unread laws status invocation all is (file_unloaded file failed noted nothing) = nothing.unread
called-unread laws status invocation all is (graph_refused note due noted nothing) = nothing.unread
called-unread laws status invocation all is (text_shown text due took unnoted unread uncalled) = unread
called-unread laws status invocation all is (text_failed text due took noted unread uncalled) = unread
called-unread laws status invocation all is (graph_used action due graph) = did-unread laws action status all (due-unread invocation due.contents action due.due is) graph
called-unread laws status invocation all is (memory_out loaded noted nothing) = nothing.unread

-- An action needs no input if it shows a text or makes packets. A command that reads the input has no such action.
abbrev NeedsNone : Action → Type 0
NeedsNone (refuse note) = ⊥
NeedsNone (show text) = Unit {0}
NeedsNone (run_plan report plan) = ⊥
NeedsNone (run_live report early plan) = ⊥
NeedsNone (solve report plan) = ⊥
NeedsNone (generate report number plan) = Unit {0}
NeedsNone (generate_live report number plan) = Unit {0}
NeedsNone (trace report plan) = ⊥
NeedsNone (replay report plan) = ⊥

solve-reads : (first : Option ℕ) (report : Reporting) (plan : Plan) → NeedsNone (solve_action first report plan) → ⊥
solve-reads None report plan none = none
solve-reads (Some first) report plan none = none

way-reads : (way : Way) (instruction : Instruction) (plan : Plan) → reads_input (Use way) ≡ true → NeedsNone (way_action way instruction plan) → ⊥
way-reads Run instruction plan is none = none
way-reads Solve instruction plan is none = solve-reads (first_stated plan) (reporting instruction) plan none
way-reads Generate instruction plan is none = false≢true is
way-reads Trace instruction plan is none = none
way-reads Replay instruction plan is none = none

live-reads : (way : Way) (instruction : Instruction) (first : ℕ) (plan : Plan) → reads_input (Use way) ≡ true → NeedsNone (live_action way instruction first plan) → ⊥
live-reads Run instruction first plan is none = none
live-reads Solve instruction first plan is none = none
live-reads Generate instruction first plan is none = false≢true is
live-reads Trace instruction first plan is none = none
live-reads Replay instruction first plan is none = none

graph-reads : (verb : Verb) (instruction : Instruction) (outers : List OuterShape) (g : GraphView) → reads_input verb ≡ true → NeedsNone (verb_action verb instruction outers g) → ⊥
graph-reads Check instruction outers g is none = false≢true is
graph-reads Expand instruction outers g is none = false≢true is
graph-reads (Use way) instruction outers g is none =
    planned (λ action. NeedsNone action → ⊥) way instruction (check_of outers g) (λ note needs. needs) (λ plan needs. way-reads way instruction plan is needs) (λ first plan needs. live-reads way instruction first plan is needs) none

expanded-reads : (instruction : Instruction) (outers : List OuterShape) (expanded : Result GraphView ExpandFault) → reads_input instruction.verb ≡ true → NeedsNone (expanded_action instruction outers expanded) → ⊥
expanded-reads instruction outers (Ok g) is none = graph-reads instruction.verb instruction outers g is none
expanded-reads instruction outers (Err fault) is none = none

files-read : (instruction : Instruction) (outers : List OuterShape) (files : Files) → reads_input instruction.verb ≡ true → NeedsNone (files_action instruction outers files) → ⊥
files-read instruction outers (graphs []) is none = none
files-read instruction outers (graphs (main ∷ library)) is none = expanded-reads instruction outers (expansion_of main library) is none
files-read instruction outers (no_graphs note) is none = none

due-reads : (invocation : Invocation) (contents : List (List ℕ)) (action : Action) → IsActionOf invocation contents action → reads_input invocation.instruction.verb ≡ true → NeedsNone action → ⊥
due-reads invocation contents action (files, are, same) reads none = files-read invocation.instruction invocation.outers files reads (subst NeedsNone same none)

-- The input's end --

abbrev pub ended_statuses : List Status
ended_statuses = Good ∷ NodeFault ∷ Stalled ∷ []

short-ended : (status : Status) → status ≡ OutOfMemory → IsOneOf status ended_statuses → ⊥
short-ended status is (inl e) = cc
short-ended status is (inr (inl e)) = cc
short-ended status is (inr (inr (inl e))) = cc
short-ended status is (inr (inr (inr e))) = e

end-came : (input : Device SourceTold) → EndCame input.before input.now → InputHasEnded input
end-came input came = record { rose = rises-after input.before.ends input.before.ends input.now.ends refl came.rose; none = came.none }

did-ended : (laws : Laws) (invocation : Invocation) (contents : List (List ℕ)) (action : Action) (status : Status) (all : CallDevices) → IsActionOf invocation contents action → UsedGraph laws action status all → reads_input invocation.instruction.verb ≡ true
    → IsOneOf status ended_statuses → InputHasEnded all.input
did-ended laws invocation contents (refuse note) status all due did reads one = absurd did
did-ended laws invocation contents (show text) status all due did reads one = absurd did
did-ended laws invocation contents (run_plan report plan) status all due did reads one =
    end-came all.input (lines-ended laws report plan status (run_devices_of all) all.boxes did (short-ended status) one)
did-ended laws invocation contents (run_live report early plan) status all due did reads one =
    end-came all.input (live-ended laws report early plan status (run_devices_of all) all.boxes did (short-ended status) one)
did-ended laws invocation contents (solve report plan) status all due did reads one =
    end-came all.input (ran-ended laws report plan status (run_devices_of all) did.0 one)
did-ended laws invocation contents (generate report number plan) status all due did reads one = absurd (due-reads invocation contents (generate report number plan) due reads tt)
did-ended laws invocation contents (generate_live report number plan) status all due did reads one = absurd (due-reads invocation contents (generate_live report number plan) due reads tt)
did-ended laws invocation contents (trace report plan) status all due did reads one =
    end-came all.input (traced_ended laws report plan all.boxes.before status (run_devices_of all) did.0 one)
did-ended laws invocation contents (replay report plan) status all due did reads one =
    end-came all.input (replayed_ended laws report plan status (run_devices_of all) all.boxes did.0 one)

-- no such status is one of these
not-ended : (status : Status) → (status ≡ StoreFault) ⊎ ((status ≡ GraphRefused) ⊎ (status ≡ WriteFault)) → IsOneOf status ended_statuses → ⊥
not-ended status (inl is) (inl e) = cc
not-ended status (inl is) (inr (inl e)) = cc
not-ended status (inl is) (inr (inr (inl e))) = cc
not-ended status (inl is) (inr (inr (inr e))) = e
not-ended status (inr (inl is)) (inl e) = cc
not-ended status (inr (inl is)) (inr (inl e)) = cc
not-ended status (inr (inl is)) (inr (inr (inl e))) = cc
not-ended status (inr (inl is)) (inr (inr (inr e))) = e
not-ended status (inr (inr is)) (inl e) = cc
not-ended status (inr (inr is)) (inr (inl e)) = cc
not-ended status (inr (inr is)) (inr (inr (inl e))) = cc
not-ended status (inr (inr is)) (inr (inr (inr e))) = e

pub called-ended : (laws : Laws) (status : Status) (invocation : Invocation) (all : CallDevices) → Called laws invocation all status → reads_input invocation.instruction.verb ≡ true → IsOneOf status ended_statuses → InputHasEnded all.input
called-ended laws status invocation all (file_unloaded file failed noted nothing) reads one = absurd (not-ended StoreFault (inl refl) one)
called-ended laws status invocation all (graph_refused note due noted nothing) reads one = absurd (not-ended GraphRefused (inr (inl refl)) one)
called-ended laws status invocation all (text_shown text due took unnoted unread uncalled) reads one = absurd (due-reads invocation due.contents (show text) due.due reads tt)
called-ended laws status invocation all (text_failed text due took noted unread uncalled) reads one = absurd (not-ended WriteFault (inr (inr refl)) one)
called-ended laws status invocation all (graph_used action due graph) reads one = did-ended laws invocation due.contents action status all due.due graph reads one
called-ended laws status invocation all (memory_out loaded noted nothing) reads one = absurd (short-ended OutOfMemory refl one)
