-- How far a call has got before a graph is used.
use Rattle.std.specs.Prelude.{◌≡◌, List, All}
use Rattle.mg_calc.specs.Rules.{Laws}
use Rattle.mg_calc.specs.Told.{BoxTold}
use Rattle.mg_calc.specs.declared.plan.Plan.{Plan}
use Rattle.mg_calc.specs.declared.shape.OuterShape.{OuterShape}
use Rattle.mg_edge.specs.Edge.{StoreTold}
use Rattle.mg_answer.specs.declared.run.Reporting.{Reporting}
use Rattle.mg_answer.specs.declared.status.Status.{Status}
use Rattle.mg_run.specs.Boxes.{MayBeHandedIn}
use Rattle.mg_run.specs.Devices.{Device, device, RunDevices, CallDevices, with_run}
use Rattle.mg_run.specs.Call.{UsedGraph}
use Rattle.mg_run.specs.Code.Action.{use_action, CanBeDone}
use Rattle.mg_run.specs.declared.action.Use.{Use}
use Rattle.mg_run.specs.declared.beginning.Begun.{Begun}
use Rattle.mg_run.specs.declared.beginning.Begun.TheVariants.{Ended, Left}

-- The graph of a plan is left to be used, and that use can be done. Nothing was done to the devices of a run. Whatever comes of that use,
-- this is known of the call.
pub record IsLeft (laws : Laws) (outers : List OuterShape) (known : Status → CallDevices → Type 0) (used : Use) (report : Reporting) (plan : Plan) (store : Device StoreTold) (run : RunDevices) : Type 0 where
  pub can : CanBeDone outers (use_action used report plan)
  pub lawful : All MayBeHandedIn outers
  pub unread : run.input.now ≡ run.input.before
  pub unwritten : run.output.now ≡ run.output.before
  pub unnoted : run.notes.now ≡ run.notes.before
  pub comes : (status : Status) (later : RunDevices) (boxes : Device (List BoxTold)) → UsedGraph laws (use_action used report plan) status (with_run store later boxes) → known status (with_run store later boxes)

-- the call has ended, and this is known of it; or a graph is left to be used
abbrev pub IsBegun : Laws → List OuterShape → (Status → CallDevices → Type 0) → Begun → Device StoreTold → RunDevices → List BoxTold → Type 0
IsBegun laws outers known (Ended status) store run boxes = known status (with_run store run (device boxes boxes))
IsBegun laws outers known (Left used report plan) store run boxes = IsLeft laws outers known used report plan store run
