use Rattle.std.proofs.Common.{refl}
use Rattle.std.proofs.lemmas.Result.{err_from_is_err_and}
use Rattle.mg_answer.specs.Devices.{device}
use Rattle.mg_drive.proofs.Looping.{keeps_itself}
use Rattle.mg_drive.proofs.RunsEnd.{ended_over, short_over, short_end, winds_keep}
use Rattle.mg_drive.proofs.running.finish_net.Goals as goal

pub returns-in_err-text-clause-short : goal.returns-in_err-text-clause-short
returns-in_err-text-clause-short g c =
    let is = err_from_is_err_and c.from_residual.result c.from_residual.ensures.1 in
    rw is.1 (λ start plan over. short_over (g.B.Batches.gives g.N.Driven.laws) g.B.Batches.reads_on g.T.Telling.has_told g.T.Telling.form start c.args.end (g.S.Source.told c.args.devices.now.input.now) (g.K.Sink.told c.args.devices.now.output.now) c.args.ends.batches c.args.ends.telling (g.N.Driven.net c.args.net.now) over)

pub finish_batches-requires : goal.finish_batches-requires
finish_batches-requires g c = record { rested = c.requires.rested }

pub returns-in_err-status-clause-short : goal.returns-in_err-status-clause-short
returns-in_err-status-clause-short g c =
    let is = err_from_is_err_and c.from_residual-in_err-status.result c.from_residual-in_err-status.ensures.1 in
    rw is.1 (λ start plan over.
    short_end (g.B.Batches.gives g.N.Driven.laws) g.B.Batches.reads_on g.T.Telling.has_told g.T.Telling.form start c.args.end (g.S.Source.told c.args.devices.now.input.now) (g.K.Sink.told c.args.devices.now.output.now) (g.K.Sink.told c.finish_batches.new.output) c.args.ends.batches c.args.ends.telling (g.N.Driven.net c.args.net.now) (g.N.Driven.net c.finish_batches.new.net) c.in_ok-text.text c.in_ok-text.ensures c.in_err-status.ensures.front c.in_err-status.ensures.since over)

pub returns-in_err-status-clause-keeps : goal.returns-in_err-status-clause-keeps
returns-in_err-status-clause-keeps g c = winds_keep (g.N.Driven.net c.args.net.now) (g.N.Driven.net c.finish_batches.new.net) c.in_err-status.ensures.since

pub returns-clause-ended : goal.returns-clause-ended
returns-clause-ended g c = λ start plan over.
    ended_over (g.B.Batches.gives g.N.Driven.laws) g.B.Batches.wrote g.T.Telling.has_told g.T.Telling.form c.args.run.now.report c.args.run.now.plan.now start c.args.end (g.S.Source.told c.args.devices.now.input.now) (g.K.Sink.told c.args.devices.now.output.now) (g.K.Sink.told c.finish_batches.new.output) c.args.ends.batches c.args.ends.telling (g.N.Driven.net c.args.net.now) (g.N.Driven.net c.finish_batches.new.net) c.in_ok-text.text c.in_ok-status.status
    (device (g.E.Sink.told c.args.devices.now.notes.now) (g.E.Sink.told c.finish_batches.new.notes)) plan c.in_ok-text.ensures c.in_ok-status.ensures.wrote c.in_ok-status.ensures.wound.0 c.in_ok-status.ensures.wound.1 over

pub returns-clause-keeps : goal.returns-clause-keeps
returns-clause-keeps g c = winds_keep (g.N.Driven.net c.args.net.now) (g.N.Driven.net c.finish_batches.new.net) c.in_ok-status.ensures.since

pub returns-in_err-text-clause-keeps : goal.returns-in_err-text-clause-keeps
returns-in_err-text-clause-keeps g c = keeps_itself (g.N.Driven.net c.args.net.now)

pub returns-in_err-text-clause-unnoted : goal.returns-in_err-text-clause-unnoted
returns-in_err-text-clause-unnoted g c =
    let is = err_from_is_err_and c.from_residual.result c.from_residual.ensures.1 in
    rw is.1 refl

pub returns-in_err-status-clause-unnoted : goal.returns-in_err-status-clause-unnoted
returns-in_err-status-clause-unnoted g c =
    let is = err_from_is_err_and c.from_residual-in_err-status.result c.from_residual-in_err-status.ensures.1 in
    rw is.1 c.in_err-status.ensures.unnoted
