use Rattle.std.proofs.Common.{[], ap, sym, subst}
use Rattle.std.proofs.lemmas.Result.{on_ok_weaker, on_err_weaker}
use Rattle.mg_edge.specs.Edge.{SinkTold}
use Rattle.mg_answer.specs.Put.{BlockView}
use Rattle.mg_drive.specs.Code.Tracing.{HasRecorded, HasRecordedSome}
use Rattle.mg_drive.proofs.recording.record_events.Goals as goal

pub returns-clause-recorded : goal.returns-clause-recorded
returns-clause-recorded g c = on_ok_weaker c.hear_run.result (λ recorded first lines put.
    subst (λ (b : BlockView). HasRecorded g.C.NodeCalculator.laws first (g.K.Sink.told c.output-1.given.0) b lines [] c.args.net.now.net c.hear_run.new.net.net) (sym (c.blocks-1.given.1 (sym c.hear_run.ensures.same.0)))
    (subst (λ (s : SinkTold). HasRecorded g.C.NodeCalculator.laws first s c.hear_run.new.events.blocks.now lines [] c.args.net.now.net c.hear_run.new.net.net) (sym (ap g.K.Sink.told (c.output-1.given.1 (sym c.hear_run.ensures.same.1))))
    (recorded first lines put))) c.hear_run.ensures.recorded

pub returns-clause-short : goal.returns-clause-short
returns-clause-short g c = on_err_weaker c.hear_run.result (λ recorded first lines put.
    subst (λ (s : SinkTold). HasRecordedSome g.C.NodeCalculator.laws first s lines c.args.net.now.net) (sym (ap g.K.Sink.told (c.output-1.given.1 (sym c.hear_run.ensures.same.1))))
    (recorded first lines put)) c.hear_run.ensures.short
