use Rattle.std.proofs.Common.{map, refl, sym, subst}
use Rattle.mg_run.specs.Boxes.{outers_told}
use Rattle.mg_run.specs.Code.Action.{use_action, CanBeDone}
use Rattle.mg_run.specs.declared.action.Use.{Use}
use Rattle.mg_run.specs.Call.{UsedGraph}
use Rattle.mg_run.specs.Devices.{device, with_run, told_by}
use Rattle.mg_run.proofs.Handing.{boxes_fit, boxes_fit_core}
use Rattle.mg_run.proofs.call.use_plan.Goals as goal

pub run_lines-requires-clause-boxes : goal.run_lines-requires-clause-boxes
run_lines-requires-clause-boxes g c κs within =
    let can = subst (λ (used : Use). CanBeDone (outers_told (map g.C.NodeCalculator.told c.args.boxes.now.items)) (use_action used c.args.run.now.report c.args.run.now.plan.now)) c.in-Run.is c.requires.can in
    boxes_fit c.args.run.now.plan.now (map g.C.NodeCalculator.told c.args.boxes.now.items) can.1 c.requires.lawful

pub run_live_lines-requires-clause-boxes : goal.run_live_lines-requires-clause-boxes
run_live_lines-requires-clause-boxes g c κs within =
    let can = subst (λ (used : Use). CanBeDone (outers_told (map g.C.NodeCalculator.told c.args.boxes.now.items)) (use_action used c.args.run.now.report c.args.run.now.plan.now)) c.in-RunLive.is c.requires.can in
    boxes_fit_core c.args.run.now.plan.now (map g.C.NodeCalculator.told c.args.boxes.now.items) can.1 c.requires.lawful

pub run_made-requires-clause-boxes : goal.run_made-requires-clause-boxes
run_made-requires-clause-boxes g c κs within =
    let can = subst (λ (used : Use). CanBeDone (outers_told (map g.C.NodeCalculator.told c.args.boxes.now.items)) (use_action used c.args.run.now.report c.args.run.now.plan.now)) c.in-Generate.is c.requires.can in
    boxes_fit c.args.run.now.plan.now (map g.C.NodeCalculator.told c.args.boxes.now.items) can.1 c.requires.lawful

pub run_live_made-requires-clause-boxes : goal.run_live_made-requires-clause-boxes
run_live_made-requires-clause-boxes g c κs within =
    let can = subst (λ (used : Use). CanBeDone (outers_told (map g.C.NodeCalculator.told c.args.boxes.now.items)) (use_action used c.args.run.now.report c.args.run.now.plan.now)) c.in-GenerateLive.is c.requires.can in
    boxes_fit_core c.args.run.now.plan.now (map g.C.NodeCalculator.told c.args.boxes.now.items) can.1 c.requires.lawful

pub trace_lines-requires-clause-boxes : goal.trace_lines-requires-clause-boxes
trace_lines-requires-clause-boxes g c =
    let can = subst (λ (used : Use). CanBeDone (outers_told (map g.C.NodeCalculator.told c.args.boxes.now.items)) (use_action used c.args.run.now.report c.args.run.now.plan.now)) c.in-Trace.is c.requires.can in
    boxes_fit c.args.run.now.plan.now (map g.C.NodeCalculator.told c.args.boxes.now.items) can.1 c.requires.lawful

pub replay_lines-requires-clause-boxes : goal.replay_lines-requires-clause-boxes
replay_lines-requires-clause-boxes g c =
    let can = subst (λ (used : Use). CanBeDone (outers_told (map g.C.NodeCalculator.told c.args.boxes.now.items)) (use_action used c.args.run.now.report c.args.run.now.plan.now)) c.in-Replay.is c.requires.can in
    boxes_fit c.args.run.now.plan.now (map g.C.NodeCalculator.told c.args.boxes.now.items) can.1 c.requires.lawful

pub solve_input-requires-clause-unstated : goal.solve_input-requires-clause-unstated
solve_input-requires-clause-unstated g c =
    let can = subst (λ (used : Use). CanBeDone (outers_told (map g.C.NodeCalculator.told c.args.boxes.now.items)) (use_action used c.args.run.now.report c.args.run.now.plan.now)) c.in-Solve.is c.requires.can in
    can.1

pub returns-in-Run-clause-did : goal.returns-in-Run-clause-did
returns-in-Run-clause-did g c = λ store.
    subst (λ (used : Use). UsedGraph g.C.NodeCalculator.laws (use_action used c.args.run.now.report c.args.run.now.plan.now) c.run_lines.result (with_run store (told_by g.S.Source.told g.K.Sink.told g.E.Sink.told c.args.devices.now c.run_lines.new.devices) (device (map g.C.NodeCalculator.told c.args.boxes.now.items) (map g.C.NodeCalculator.told c.run_lines.new.boxes.items)))) (sym c.in-Run.is)
    c.run_lines.ensures.ran

pub returns-in-RunLive-clause-did : goal.returns-in-RunLive-clause-did
returns-in-RunLive-clause-did g c = λ store.
    subst (λ (used : Use). UsedGraph g.C.NodeCalculator.laws (use_action used c.args.run.now.report c.args.run.now.plan.now) c.run_live_lines.result (with_run store (told_by g.S.Source.told g.K.Sink.told g.E.Sink.told c.args.devices.now c.run_live_lines.new.devices) (device (map g.C.NodeCalculator.told c.args.boxes.now.items) (map g.C.NodeCalculator.told c.run_live_lines.new.boxes.items)))) (sym c.in-RunLive.is)
    c.run_live_lines.ensures.ran

pub returns-in-Solve-clause-did : goal.returns-in-Solve-clause-did
returns-in-Solve-clause-did g c = λ store.
    subst (λ (used : Use). UsedGraph g.C.NodeCalculator.laws (use_action used c.args.run.now.report c.args.run.now.plan.now) c.solve_input.result (with_run store (told_by g.S.Source.told g.K.Sink.told g.E.Sink.told c.args.devices.now c.solve_input.new.devices) (device (map g.C.NodeCalculator.told c.args.boxes.now.items) (map g.C.NodeCalculator.told c.args.boxes.now.items)))) (sym c.in-Solve.is)
    (c.solve_input.ensures.ran g.C.NodeCalculator.laws, refl)
