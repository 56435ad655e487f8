use Rattle.std.proofs.lemmas.Result.{IfOk-weaker, on_err_weaker}
use Rattle.mg_drive.specs.Code.Running.{SomeRestedOf, RunIsOver, IsShort}
use Rattle.mg_drive.proofs.BoxesBack.{if_ok_at, on_err_at}
use Rattle.mg_drive.proofs.Looping.{keeps_itself}
use Rattle.mg_drive.proofs.running.finish_driven.Goals as goal

pub finish_net-requires : goal.finish_net-requires
finish_net-requires g c = record { rested = if_ok_at c.args.end c.in-Ok.end (λ e. SomeRestedOf g.N.Driven.laws (g.B.Batches.gives g.N.Driven.laws) c.args.run.now.plan.now e (g.N.Driven.net c.args.net.now) c.args.ends.batches) c.in-Ok.is c.requires.rested }

pub returns-in-Ok-clause-ended : goal.returns-in-Ok-clause-ended
returns-in-Ok-clause-ended g c = IfOk-weaker c.finish_net.result _ _ (λ status f start plan driven.
    f start plan (if_ok_at c.args.end c.in-Ok.end (λ e. RunIsOver g.N.Driven.laws (g.B.Batches.gives g.N.Driven.laws) g.T.Telling.has_told start e (g.S.Source.told c.args.devices.now.input.now) (g.K.Sink.told c.args.devices.now.output.now) c.args.ends.batches c.args.ends.telling (g.N.Driven.net c.args.net.now)) c.in-Ok.is driven.over)) c.finish_net.ensures.ended

pub returns-in-Ok-clause-short : goal.returns-in-Ok-clause-short
returns-in-Ok-clause-short g c = on_err_weaker c.finish_net.result (λ f start plan driven.
    f start plan (if_ok_at c.args.end c.in-Ok.end (λ e. RunIsOver g.N.Driven.laws (g.B.Batches.gives g.N.Driven.laws) g.T.Telling.has_told start e (g.S.Source.told c.args.devices.now.input.now) (g.K.Sink.told c.args.devices.now.output.now) c.args.ends.batches c.args.ends.telling (g.N.Driven.net c.args.net.now)) c.in-Ok.is driven.over)) c.finish_net.ensures.short

pub returns-in-Err-clause-short : goal.returns-in-Err-clause-short
returns-in-Err-clause-short g c = λ start plan driven. on_err_at c.args.end _ (IsShort g.N.Driven.laws (g.B.Batches.gives g.N.Driven.laws) g.B.Batches.reads_on g.T.Telling.has_told g.T.Telling.form start (g.S.Source.told c.args.devices.now.input.now) (g.K.Sink.told c.args.devices.now.output.now) (g.N.Driven.net c.args.net.now)) c.in-Err.is driven.short

pub returns-in-Err-clause-keeps : goal.returns-in-Err-clause-keeps
returns-in-Err-clause-keeps g c = keeps_itself (g.N.Driven.net c.args.net.now)
