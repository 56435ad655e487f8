use Rattle.std.proofs.Common.{length, map, refl, inl, inr, sym, ap, ◌∙◌}
use Rattle.std.proofs.lemmas.Result.{err_from_is_err_and, IfOk-weaker, on_err_weaker}
use Rattle.mg_calc.specs.declared.plan.Plan.{Plan}
use Rattle.mg_drive.specs.Code.Running.{start_of}
use Rattle.mg_drive.proofs.RunsEnd.{some_rested}
use Rattle.mg_drive.proofs.BoxesBack.{made_plan, made_still, same_back}
use Rattle.mg_drive.proofs.running.run_batches_alone.Goals as goal

pub returns-in_err-begun-clause-short : goal.returns-in_err-begun-clause-short
returns-in_err-begun-clause-short g c =
    let is = err_from_is_err_and c.from_residual.result c.from_residual.ensures.1 in
    rw is.1 (inl (c.in_err-begun.ensures.short, record { unwritten = refl; uncalled = c.in_err-begun.ensures.same }))

pub returns-in_err-begun-clause-unnoted : goal.returns-in_err-begun-clause-unnoted
returns-in_err-begun-clause-unnoted g c =
    let is = err_from_is_err_and c.from_residual.result c.from_residual.ensures.1 in
    rw is.1 refl

pub returns-in_err-begun-clause-back : goal.returns-in_err-begun-clause-back
returns-in_err-begun-clause-back g c = same_back c.args.run.now.plan.now (map g.C.NodeCalculator.told c.args.boxes.now.items) _ c.in_err-begun.ensures.same

pub drive_alone-end-requires-clause-under_way : goal.drive_alone-end-requires-clause-under_way
drive_alone-end-requires-clause-under_way g c = (c.args.run.now.plan.now, record { start = (start_of c.args.run.now.plan.now (map g.C.NodeCalculator.told c.args.boxes.now.items) (g.S.Source.told c.args.devices.now.input.now) (g.K.Sink.told c.args.devices.now.output.now) c.args.batches); plan_is = refl; under_way = (c.in_ok-begun.ensures.begun (g.K.Sink.told c.args.devices.now.output.now)) })

pub drive_alone-end-requires-clause-places : goal.drive_alone-end-requires-clause-places
drive_alone-end-requires-clause-places g c = c.in_ok-begun.ensures.set ∙ ap (λ (p : Plan). length p.outputs) (sym (made_plan c.args.run.now.plan.now (map g.C.NodeCalculator.told c.args.boxes.now.items) c.in_ok-begun.begun.net c.in_ok-begun.ensures.made))

pub end_run-requires : goal.end_run-requires
end_run-requires g c = record {
  rested = IfOk-weaker c.drive_alone-end.result _ _ (λ end f. some_rested (g.B.Batches.gives g.C.NodeCalculator.laws) g.T.Telling.has_told c.args.run.now.plan.now (start_of c.args.run.now.plan.now (map g.C.NodeCalculator.told c.args.boxes.now.items) (g.S.Source.told c.args.devices.now.input.now) (g.K.Sink.told c.args.devices.now.output.now) c.args.batches) end (g.S.Source.told c.drive_alone-end.new.input) (g.K.Sink.told c.drive_alone-end.new.output) c.drive_alone-end.new.ends.batches c.drive_alone-end.new.ends.telling c.drive_alone-end.new.net.net refl (f (start_of c.args.run.now.plan.now (map g.C.NodeCalculator.told c.args.boxes.now.items) (g.S.Source.told c.args.devices.now.input.now) (g.K.Sink.told c.args.devices.now.output.now) c.args.batches) (c.in_ok-begun.ensures.begun (g.K.Sink.told c.args.devices.now.output.now)))) c.drive_alone-end.ensures.over;
}

pub returns-clause-ran : goal.returns-clause-ran
returns-clause-ran g c = IfOk-weaker c.end_run.result _ _ (λ status f. f (map g.C.NodeCalculator.told c.args.boxes.now.items) (g.S.Source.told c.args.devices.now.input.now) (g.K.Sink.told c.args.devices.now.output.now) c.args.batches c.requires.boxes (record { over = IfOk-weaker c.drive_alone-end.result _ _ (λ end f. f (start_of c.args.run.now.plan.now (map g.C.NodeCalculator.told c.args.boxes.now.items) (g.S.Source.told c.args.devices.now.input.now) (g.K.Sink.told c.args.devices.now.output.now) c.args.batches) (c.in_ok-begun.ensures.begun (g.K.Sink.told c.args.devices.now.output.now))) c.drive_alone-end.ensures.over; short = on_err_weaker c.drive_alone-end.result (λ f. f (start_of c.args.run.now.plan.now (map g.C.NodeCalculator.told c.args.boxes.now.items) (g.S.Source.told c.args.devices.now.input.now) (g.K.Sink.told c.args.devices.now.output.now) c.args.batches) (c.in_ok-begun.ensures.begun (g.K.Sink.told c.args.devices.now.output.now))) c.drive_alone-end.ensures.short })) c.end_run.ensures.ran

pub returns-clause-short : goal.returns-clause-short
returns-clause-short g c = on_err_weaker c.end_run.result (λ f. inr (f (map g.C.NodeCalculator.told c.args.boxes.now.items) (g.S.Source.told c.args.devices.now.input.now) (g.K.Sink.told c.args.devices.now.output.now) c.args.batches (record { over = IfOk-weaker c.drive_alone-end.result _ _ (λ end f. f (start_of c.args.run.now.plan.now (map g.C.NodeCalculator.told c.args.boxes.now.items) (g.S.Source.told c.args.devices.now.input.now) (g.K.Sink.told c.args.devices.now.output.now) c.args.batches) (c.in_ok-begun.ensures.begun (g.K.Sink.told c.args.devices.now.output.now))) c.drive_alone-end.ensures.over; short = on_err_weaker c.drive_alone-end.result (λ f. f (start_of c.args.run.now.plan.now (map g.C.NodeCalculator.told c.args.boxes.now.items) (g.S.Source.told c.args.devices.now.input.now) (g.K.Sink.told c.args.devices.now.output.now) c.args.batches) (c.in_ok-begun.ensures.begun (g.K.Sink.told c.args.devices.now.output.now))) c.drive_alone-end.ensures.short }))) c.end_run.ensures.short

pub returns-clause-back : goal.returns-clause-back
returns-clause-back g c = c.end_run.ensures.back (map g.C.NodeCalculator.told c.args.boxes.now.items) (g.S.Source.told c.args.devices.now.input.now) (g.K.Sink.told c.args.devices.now.output.now) c.args.batches (made_still c.args.run.now.plan.now (map g.C.NodeCalculator.told c.args.boxes.now.items) c.in_ok-begun.begun.net c.drive_alone-end.new.net.net c.drive_alone-end.ensures.keeps c.in_ok-begun.ensures.made) (record { over = IfOk-weaker c.drive_alone-end.result _ _ (λ end f. f (start_of c.args.run.now.plan.now (map g.C.NodeCalculator.told c.args.boxes.now.items) (g.S.Source.told c.args.devices.now.input.now) (g.K.Sink.told c.args.devices.now.output.now) c.args.batches) (c.in_ok-begun.ensures.begun (g.K.Sink.told c.args.devices.now.output.now))) c.drive_alone-end.ensures.over; short = on_err_weaker c.drive_alone-end.result (λ f. f (start_of c.args.run.now.plan.now (map g.C.NodeCalculator.told c.args.boxes.now.items) (g.S.Source.told c.args.devices.now.input.now) (g.K.Sink.told c.args.devices.now.output.now) c.args.batches) (c.in_ok-begun.ensures.begun (g.K.Sink.told c.args.devices.now.output.now))) c.drive_alone-end.ensures.short })

pub returns-clause-unread : goal.returns-clause-unread
returns-clause-unread g c = λ none. c.end_run.ensures.unread ∙ (c.drive_alone-end.ensures.unread none ∙ c.in_ok-begun.ensures.unread none)
