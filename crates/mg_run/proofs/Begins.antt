-- What is known of a call that has begun.
use Rattle.std.proofs.Common.{◌≡◌, ◌∙◌, List, subst}
use Rattle.mg_edge.specs.Edge.{StoreTold, SourceTold, SinkTold}
use Rattle.mg_calc.specs.Rules.{Laws}
use Rattle.mg_calc.specs.Told.{BoxTold}
use Rattle.mg_calc.specs.declared.plan.Plan.{Plan}
use Rattle.mg_calc.specs.declared.shape.OuterShape.{OuterShape}
use Rattle.mg_answer.specs.declared.run.Reporting.{Reporting}
use Rattle.mg_answer.specs.declared.status.Status.{Status}
use Rattle.mg_answer.specs.declared.devices.Devices.{Devices as Held}
use Rattle.mg_run.specs.Devices.{Device, device, RunDevices, CallDevices, devices, with_run, SameDevices}
use Rattle.mg_run.specs.Call.{UsedGraph}
use Rattle.mg_run.specs.Code.Action.{use_action}
use Rattle.mg_run.specs.Code.Begun.{IsLeft, IsBegun}
use Rattle.mg_run.specs.declared.action.Use.{Use}
use Rattle.mg_run.specs.declared.beginning.Begun.{Begun}
use Rattle.mg_run.specs.declared.beginning.Begun.TheVariants.{Ended, Left}

-- if something follows from what is known of a call, it is known, too
pub begun_then : (laws : Laws) (outers : List OuterShape) (known further : Status → CallDevices → Type 0) (begun : Begun) (store : Device StoreTold) (run : RunDevices) (boxes : List BoxTold)
    → ((status : Status) (later : RunDevices) (now : Device (List BoxTold)) → known status (with_run store later now) → further status (with_run store later now))
    → IsBegun laws outers known begun store run boxes → IsBegun laws outers further begun store run boxes
begun_then laws outers known further (Ended status) store run boxes follows is = follows status run (device boxes boxes) is
begun_then laws outers known further (Left used report plan) store run boxes follows is = record {
  can = is.can;
  lawful = is.lawful;
  unread = is.unread;
  unwritten = is.unwritten;
  unnoted = is.unnoted;
  comes = λ status later now did. follows status later now (is.comes status later now did);
}

pub begun_ended : (laws : Laws) (outers : List OuterShape) (known : Status → CallDevices → Type 0) (begun : Begun) (status : Status) (store : Device StoreTold) (run : RunDevices) (boxes : List BoxTold) → begun ≡ Ended status
    → IsBegun laws outers known begun store run boxes → known status (with_run store run (device boxes boxes))
begun_ended laws outers known begun status store run boxes is begins = subst (λ (b : Begun). IsBegun laws outers known b store run boxes) is begins

pub begun_left : (laws : Laws) (outers : List OuterShape) (known : Status → CallDevices → Type 0) (begun : Begun) (used : Use) (report : Reporting) (plan : Plan) (store : Device StoreTold) (run : RunDevices) (boxes : List BoxTold) → begun ≡ Left used report plan
    → IsBegun laws outers known begun store run boxes → IsLeft laws outers known used report plan store run
begun_left laws outers known begun used report plan store run boxes is begins = subst (λ (b : Begun). IsBegun laws outers known b store run boxes) is begins

-- what comes of a use is what comes of the call; the call's devices were the same when the use began
pub left_came : (laws : Laws) (outers : List OuterShape) (known : Status → CallDevices → Type 0) (used : Use) (report : Reporting) (plan : Plan) (store : Device StoreTold) (i0 i1 i2 : SourceTold) (o0 o1 o2 n0 n1 n2 : SinkTold) (status : Status) (boxes : Device (List BoxTold))
    → IsLeft laws outers known used report plan store (record { input = device i0 i1; output = device o0 o1; notes = device n0 n1 })
    → UsedGraph laws (use_action used report plan) status (devices store (device i1 i2) (device o1 o2) (device n1 n2) boxes) → known status (devices store (device i0 i2) (device o0 o2) (device n0 n2) boxes)
left_came laws outers known used report plan store i0 i1 i2 o0 o1 o2 n0 n1 n2 status boxes left did =
    subst (λ (i : SourceTold). known status (devices store (device i i2) (device o0 o2) (device n0 n2) boxes)) left.unread
    (subst (λ (o : SinkTold). known status (devices store (device i1 i2) (device o o2) (device n0 n2) boxes)) left.unwritten
    (subst (λ (n : SinkTold). known status (devices store (device i1 i2) (device o1 o2) (device n n2) boxes)) left.unnoted
    (left.comes status (record { input = device i1 i2; output = device o1 o2; notes = device n1 n2 }) boxes did)))

pub same_on : {S K E : Type 0} (a b c : Held S K E) → SameDevices a b → SameDevices b c → SameDevices a c
same_on {S} {K} {E} a b c one two = record { same_input = two.same_input ∙ one.same_input; same_output = two.same_output ∙ one.same_output; same_notes = two.same_notes ∙ one.same_notes }
