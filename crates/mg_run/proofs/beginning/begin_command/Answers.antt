use Rattle.std.proofs.Common.{List, All, ap, map, subst}
use Rattle.mg_calc.specs.Told.{BoxTold}
use Rattle.mg_words.specs.Command.{command}
use Rattle.mg_run.specs.Boxes.{outers_told, MayBeHandedIn}
use Rattle.mg_run.specs.Call.{IsDue}
use Rattle.mg_run.specs.Invocation.{invocation}
use Rattle.mg_run.specs.Code.Action.{action_view, CanBeDone}
use Rattle.mg_run.specs.Devices.{device}
use Rattle.mg_run.proofs.Calling.{called-failed}
use Rattle.mg_run.proofs.Duty.{due_among}
use Rattle.mg_run.proofs.beginning.begin_command.Goals as goal

pub returns-in-Ok-clause-begun : goal.returns-in-Ok-clause-begun
returns-in-Ok-clause-begun g c =
    let done = command c.args.ordered.now.instruction c.args.ordered.now.files.now in
    let boxes = map g.C.NodeCalculator.told c.args.boxes.now.items in
    let store = device (g.T.Store.told c.args.store.now) (g.T.Store.told c.due_action.new.store) in
    let due : IsDue (invocation done (outers_told boxes)) store (action_view c.in-Ok.action) =
    due_among done (map g.C.NodeCalculator.told c.as_slice.result.now) boxes store (action_view c.in-Ok.action) (ap (map g.C.NodeCalculator.told) c.as_slice.ensures.value) c.in-Ok.ensures.due in
    let can = subst (λ (boxes : List BoxTold). CanBeDone (outers_told boxes) (action_view c.in-Ok.action)) (ap (map g.C.NodeCalculator.told) c.as_slice.ensures.value) c.in-Ok.ensures.can in
    let lawful = subst (λ (boxes : List BoxTold). All MayBeHandedIn (outers_told boxes)) (ap (map g.C.NodeCalculator.told) c.as_slice.ensures.value) c.in-Ok.ensures.lawful in
    c.begin_action.ensures.begun g.C.NodeCalculator.laws (invocation done (outers_told boxes)) store boxes due can lawful

pub returns-in-Err-clause-begun : goal.returns-in-Err-clause-begun
returns-in-Err-clause-begun g c =
    called-failed g.C.NodeCalculator.laws (invocation (command c.args.ordered.now.instruction c.args.ordered.now.files.now) (outers_told (map g.C.NodeCalculator.told c.args.boxes.now.items))) c.in-Err.fault c.failed.result
    (device (g.T.Store.told c.args.store.now) (g.T.Store.told c.due_action.new.store)) (g.S.Source.told c.args.devices.now.input.now) (g.K.Sink.told c.args.devices.now.output.now)
    (device (g.E.Sink.told c.args.devices.now.notes.now) (g.E.Sink.told c.failed.new.notes)) (map g.C.NodeCalculator.told c.args.boxes.now.items) c.in-Err.ensures.failed c.failed.ensures.ended
