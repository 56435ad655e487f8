use Rattle.std.proofs.Common.{codes}
use Rattle.std.proofs.lemmas.Result.{err_from_is_err_and}
use Rattle.mg_drive.proofs.RecordedRuns.{recorded_front, recorded_end}
use Rattle.mg_drive.proofs.recording.record_run.Goals as goal

pub returns-in_err-record_events-clause-short : goal.returns-in_err-record_events-clause-short
returns-in_err-record_events-clause-short g c =
    let is = err_from_is_err_and c.from_residual.result c.from_residual.ensures.1 in
    rw is.1 c.in_err-record_events.ensures.short

pub returns-in_err-put-clause-short : goal.returns-in_err-put-clause-short
returns-in_err-put-clause-short g c =
    let is = err_from_is_err_and c.from_residual-in_err-put.result c.from_residual-in_err-put.ensures.1 in
    rw is.1 (λ first lines put.
    recorded_front first (g.K.Sink.told c.record_events.new.output) (g.K.Sink.told c.put.new.output) c.record_events.new.blocks lines c.args.net.now.net c.record_events.new.net.net
    (c.in_ok-record_events.ensures.recorded first lines put) c.in_err-put.ensures.unwritten)

pub returns-clause-recorded : goal.returns-clause-recorded
returns-clause-recorded g c = λ first lines put.
    recorded_end first (g.K.Sink.told c.record_events.new.output) (g.K.Sink.told c.put.new.output) c.record_events.new.blocks c.put.new.self c.of_blocks.result lines (codes "end\n") c.args.net.now.net c.record_events.new.net.net
    (c.in_ok-record_events.ensures.recorded first lines put) c.in_ok-put.ensures.put c.of_blocks.ensures
