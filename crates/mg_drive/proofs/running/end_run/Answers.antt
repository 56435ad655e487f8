use Rattle.std.proofs.Common.{map, refl}
use Rattle.std.proofs.lemmas.Result.{IfOk-weaker, on_err_weaker}
use Rattle.mg_answer.specs.Devices.{device}
use Rattle.mg_drive.specs.Code.Running.{start_of}
use Rattle.mg_drive.proofs.BoxesBack.{either, stood_ended, stood_short, run_ended, run_short, made_back}
use Rattle.mg_drive.proofs.running.end_run.Goals as goal

pub returns-clause-ran : goal.returns-clause-ran
returns-clause-ran g c = IfOk-weaker c.finish_driven-ran.result _ _ (λ status f handed source sink began fit driven.
    run_ended (g.B.Batches.gives g.C.NodeCalculator.laws) g.B.Batches.wrote g.T.Telling.form c.args.run.now.report c.args.run.now.plan.now handed (map g.C.NodeCalculator.told c.give_back.result.items) began source (g.S.Source.told c.finish_driven-ran.new.devices.input.now) sink (g.K.Sink.told c.finish_driven-ran.new.devices.output.now) (device (g.E.Sink.told c.args.devices.now.notes.now) (g.E.Sink.told c.finish_driven-ran.new.devices.notes.now)) status c.finish_driven-ran.new.net.net fit c.give_back.ensures.told (f (start_of c.args.run.now.plan.now handed source sink began) refl driven)) c.finish_driven-ran.ensures.ended

pub returns-clause-short : goal.returns-clause-short
returns-clause-short g c = on_err_weaker c.finish_driven-ran.result (λ f handed source sink began driven.
    run_short (g.B.Batches.gives g.C.NodeCalculator.laws) g.B.Batches.reads_on g.T.Telling.has_told g.T.Telling.form c.args.run.now.plan.now handed (map g.C.NodeCalculator.told c.give_back.result.items) began source (g.S.Source.told c.finish_driven-ran.new.devices.input.now) sink (g.K.Sink.told c.finish_driven-ran.new.devices.output.now) (device (g.E.Sink.told c.args.devices.now.notes.now) (g.E.Sink.told c.finish_driven-ran.new.devices.notes.now)) c.finish_driven-ran.new.net.net c.give_back.ensures.told (f (start_of c.args.run.now.plan.now handed source sink began) refl driven)) c.finish_driven-ran.ensures.short

pub returns-clause-back : goal.returns-clause-back
returns-clause-back g c = λ handed source sink began made driven.
    made_back c.args.run.now.plan.now handed (map g.C.NodeCalculator.told c.give_back.result.items) c.args.net c.finish_driven-ran.new.net.net made c.finish_driven-ran.ensures.keeps
    (either c.finish_driven-ran.result
    (IfOk-weaker c.finish_driven-ran.result _ _ (λ status f. stood_ended (g.B.Batches.gives g.C.NodeCalculator.laws) g.B.Batches.wrote g.T.Telling.form c.args.run.now.report (start_of c.args.run.now.plan.now handed source sink began) status (g.S.Source.told c.finish_driven-ran.new.devices.input.now) (g.K.Sink.told c.finish_driven-ran.new.devices.output.now) (device (g.E.Sink.told c.args.devices.now.notes.now) (g.E.Sink.told c.finish_driven-ran.new.devices.notes.now)) c.finish_driven-ran.new.net.net (f (start_of c.args.run.now.plan.now handed source sink began) refl driven)) c.finish_driven-ran.ensures.ended)
    (on_err_weaker c.finish_driven-ran.result (λ f. stood_short (g.B.Batches.gives g.C.NodeCalculator.laws) g.B.Batches.reads_on g.T.Telling.has_told g.T.Telling.form (start_of c.args.run.now.plan.now handed source sink began) (g.S.Source.told c.finish_driven-ran.new.devices.input.now) (g.K.Sink.told c.finish_driven-ran.new.devices.output.now) c.finish_driven-ran.new.net.net (f (start_of c.args.run.now.plan.now handed source sink began) refl driven)) c.finish_driven-ran.ensures.short)) c.give_back.ensures.told
