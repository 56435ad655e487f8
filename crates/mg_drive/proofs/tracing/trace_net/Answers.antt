use Rattle.std.proofs.Common.{refl}
use Rattle.std.proofs.lemmas.Result.{err_from_is_err_and}
use Rattle.mg_answer.specs.Devices.{device}
use Rattle.mg_sched.specs.Made.{job_of}
use Rattle.mg_drive.proofs.Looping.{keeps_on, begins_keep}
use Rattle.mg_drive.proofs.RunsEnd.{winds_keep}
use Rattle.mg_drive.proofs.RecordedRuns.{begun_at, some_rested_now, net_traced, short_begun, short_run, short_end}
use Rattle.mg_drive.proofs.tracing.trace_net.Goals as goal

pub begin-requires : goal.begin-requires
begin-requires g c = record { stands = record { job = job_of g.C.NodeCalculator.laws c.args.run.now.plan.now c.requires.made.inputs c.requires.made.boxes; stands = c.requires.made.made.stands } }

pub returns-in_err-begin-clause-short : goal.returns-in_err-begin-clause-short
returns-in_err-begin-clause-short g c =
    let is = err_from_is_err_and c.from_residual.result c.from_residual.ensures.1 in
    rw is.1 (λ inputs boxes first made put. short_begun c.args.run.now.plan.now inputs boxes first (g.K.Sink.told c.args.output.now) c.args.net.now.net c.begin.new.self made c.in_err-begin.ensures.stands)

pub returns-in_err-begin-clause-keeps : goal.returns-in_err-begin-clause-keeps
returns-in_err-begin-clause-keeps g c = begins_keep c.args.net.now.net c.begin.new.self c.in_err-begin.ensures.begins

pub record_run-requires-clause-stands : goal.record_run-requires-clause-stands
record_run-requires-clause-stands g c = record { job = job_of g.C.NodeCalculator.laws c.args.run.now.plan.now c.requires.made.inputs c.requires.made.boxes; stands = c.in_ok-begin.ensures.stands (job_of g.C.NodeCalculator.laws c.args.run.now.plan.now c.requires.made.inputs c.requires.made.boxes) c.requires.made.made.stands }

pub returns-in_err-text-clause-short : goal.returns-in_err-text-clause-short
returns-in_err-text-clause-short g c =
    let is = err_from_is_err_and c.from_residual-in_err-text.result c.from_residual-in_err-text.ensures.1 in
    rw is.1 (λ inputs boxes first made put.
    short_run c.args.run.now.plan.now inputs boxes first (g.K.Sink.told c.args.output.now) (g.K.Sink.told c.record_run.new.output) c.begin.new.self c.record_run.new.net.net
    (begun_at c.args.run.now.plan.now inputs boxes c.args.net.now.net c.begin.new.self made c.in_ok-begin.ensures.begins c.in_ok-begin.ensures.stands c.in_ok-begin.ensures.running)
    c.in_err-text.ensures.stands (c.in_err-text.ensures.short first _ put))

pub returns-in_err-text-clause-keeps : goal.returns-in_err-text-clause-keeps
returns-in_err-text-clause-keeps g c = keeps_on c.args.net.now.net c.begin.new.self c.record_run.new.net.net (begins_keep c.args.net.now.net c.begin.new.self c.in_ok-begin.ensures.begins) c.in_err-text.ensures.keeps

pub finish-requires : goal.finish-requires
finish-requires g c =
    let m = c.requires.made in
    record {
      rested = some_rested_now c.args.run.now.plan.now m.inputs m.boxes c.begin.new.self c.record_run.new.net.net
          (begun_at c.args.run.now.plan.now m.inputs m.boxes c.args.net.now.net c.begin.new.self m.made c.in_ok-begin.ensures.begins c.in_ok-begin.ensures.stands c.in_ok-begin.ensures.running)
          c.in_ok-text.ensures.stands c.in_ok-text.ensures.running c.in_ok-text.ensures.rest;
    }

pub returns-in_err-status-clause-short : goal.returns-in_err-status-clause-short
returns-in_err-status-clause-short g c =
    let is = err_from_is_err_and c.from_residual-in_err-status.result c.from_residual-in_err-status.ensures.1 in
    rw is.1 (λ inputs boxes first made put.
    short_end c.args.run.now.plan.now inputs boxes first (g.K.Sink.told c.args.output.now) (g.K.Sink.told c.record_run.new.output) (g.K.Sink.told c.finish.new.output) c.in_ok-text.text c.begin.new.self c.record_run.new.net.net c.finish.new.net.net
    (begun_at c.args.run.now.plan.now inputs boxes c.args.net.now.net c.begin.new.self made c.in_ok-begin.ensures.begins c.in_ok-begin.ensures.stands c.in_ok-begin.ensures.running)
    c.in_ok-text.ensures.stands c.in_ok-text.ensures.rest (c.in_ok-text.ensures.recorded first _ put) c.in_err-status.ensures.front c.in_err-status.ensures.since)

pub returns-in_err-status-clause-keeps : goal.returns-in_err-status-clause-keeps
returns-in_err-status-clause-keeps g c =
    keeps_on c.args.net.now.net c.record_run.new.net.net c.finish.new.net.net
    (keeps_on c.args.net.now.net c.begin.new.self c.record_run.new.net.net (begins_keep c.args.net.now.net c.begin.new.self c.in_ok-begin.ensures.begins) c.in_ok-text.ensures.keeps)
    (winds_keep c.record_run.new.net.net c.finish.new.net.net c.in_err-status.ensures.since)

pub returns-clause-traced : goal.returns-clause-traced
returns-clause-traced g c = λ inputs boxes first made put.
    net_traced c.args.run.now.report c.args.run.now.plan.now inputs boxes c.args.end c.in_ok-status.status first (g.K.Sink.told c.record_run.new.output) (g.K.Sink.told c.finish.new.output) (device (g.E.Sink.told c.args.notes.now) (g.E.Sink.told c.finish.new.notes)) c.in_ok-text.text c.begin.new.self c.record_run.new.net.net c.finish.new.net.net
    (begun_at c.args.run.now.plan.now inputs boxes c.args.net.now.net c.begin.new.self made c.in_ok-begin.ensures.begins c.in_ok-begin.ensures.stands c.in_ok-begin.ensures.running)
    c.in_ok-text.ensures.stands c.in_ok-text.ensures.running c.in_ok-text.ensures.rest (c.in_ok-text.ensures.recorded first _ put) c.in_ok-status.ensures.wrote c.in_ok-status.ensures.wound.0 c.in_ok-status.ensures.wound.1

pub returns-clause-keeps : goal.returns-clause-keeps
returns-clause-keeps g c =
    keeps_on c.args.net.now.net c.record_run.new.net.net c.finish.new.net.net
    (keeps_on c.args.net.now.net c.begin.new.self c.record_run.new.net.net (begins_keep c.args.net.now.net c.begin.new.self c.in_ok-begin.ensures.begins) c.in_ok-text.ensures.keeps)
    (winds_keep c.record_run.new.net.net c.finish.new.net.net c.in_ok-status.ensures.since)

pub returns-in_err-begin-clause-unnoted : goal.returns-in_err-begin-clause-unnoted
returns-in_err-begin-clause-unnoted g c =
    let is = err_from_is_err_and c.from_residual.result c.from_residual.ensures.1 in
    rw is.1 refl

pub returns-in_err-text-clause-unnoted : goal.returns-in_err-text-clause-unnoted
returns-in_err-text-clause-unnoted g c =
    let is = err_from_is_err_and c.from_residual-in_err-text.result c.from_residual-in_err-text.ensures.1 in
    rw is.1 refl
