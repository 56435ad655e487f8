-- What an `Action` of the code stands for, and whether it can be done.
use Rattle.std.specs.Prelude.{◌≡◌, List, All}
use Rattle.mg_edge.specs.Edge.{SinkTold}
use Rattle.mg_calc.specs.declared.plan.Plan.{Plan}
use Rattle.mg_calc.specs.declared.shape.OuterShape.{OuterShape}
use Rattle.mg_calc.specs.Shape.{IsStated}
use Rattle.mg_calc.specs.Plan.{IsValid, IsValidWithFree, OutersFit}
use Rattle.mg_run.specs.Answer.{Action, refuse, show, run_plan, run_live, solve, generate, generate_live, trace, replay}
use Rattle.mg_run.specs.declared.action.Action as code
use Rattle.mg_run.specs.declared.action.Action.TheVariants.{Refuse, Show, Graph}
use Rattle.mg_run.specs.declared.action.Use.{Use}
use Rattle.mg_run.specs.declared.action.Use.TheVariants.{Run, RunLive, Solve, Generate, GenerateLive, Trace, Replay}
use Rattle.mg_answer.specs.Notes.{memory_note}
use Rattle.mg_answer.specs.declared.run.Reporting.{Reporting}
use Rattle.mg_answer.specs.declared.status.Status.{Status}
use Rattle.mg_answer.specs.declared.status.Status.TheVariants.{StoreFault, OutOfMemory}
use Rattle.mg_files.specs.declared.fault.Fault.{Fault}
use Rattle.mg_files.specs.declared.fault.Fault.TheVariants.{Noted, OutOfMemory as no_memory}
use Rattle.mg_run.specs.Devices.{Device, TookNotes}

-- The status and the note of a call that ended before it was known what there is to do.
abbrev pub FailedWith : Fault → Status → Device SinkTold → Type 0
FailedWith (Noted note) status notes = (status ≡ StoreFault) × TookNotes notes note.items
FailedWith no_memory status notes = (status ≡ OutOfMemory) × TookNotes notes memory_note

-- the action of using a plan in a way of the code, with a report or without
abbrev pub use_action : Use → Reporting → Plan → Action
use_action Run report plan = run_plan report plan
use_action (RunLive early) report plan = run_live report early plan
use_action Solve report plan = solve report plan
use_action (Generate number) report plan = generate report number plan
use_action (GenerateLive number) report plan = generate_live report number plan
use_action Trace report plan = trace report plan
use_action Replay report plan = replay report plan

-- the action that an `Action` of the code stands for
abbrev pub action_view : code.Action → Action
action_view (Refuse note) = refuse note.items
action_view (Show text) = show text.items
action_view (Graph used report plan) = use_action used report plan

-- An action can be done. A plan that is used is valid, with free nodes if a graph with free nodes is run. The user-supplied calculators fit
-- a plan that is run. No node of a plan that is solved has a stated law.
abbrev pub CanBeDone : List OuterShape → Action → Type 0
CanBeDone outers (refuse note) = Unit {0}
CanBeDone outers (show text) = Unit {0}
CanBeDone outers (run_plan report plan) = IsValid plan × OutersFit plan outers
CanBeDone outers (run_live report early plan) = IsValidWithFree plan × OutersFit plan outers
CanBeDone outers (solve report plan) = IsValid plan × All (λ node. IsStated node.law → ⊥) plan.nodes
CanBeDone outers (generate report number plan) = IsValid plan × OutersFit plan outers
CanBeDone outers (generate_live report number plan) = IsValidWithFree plan × OutersFit plan outers
CanBeDone outers (trace report plan) = IsValid plan × OutersFit plan outers
CanBeDone outers (replay report plan) = IsValid plan × OutersFit plan outers
