use Rattle.std.proofs.Common.{map, inl, inr, refl}
use Rattle.std.proofs.lemmas.Result.{err_from_is_err_and}
use Rattle.mg_answer.specs.Devices.{device}
use Rattle.mg_drive.proofs.BoxesBack.{same_back}
use Rattle.mg_drive.proofs.RecordedRuns.{traced_read, had_read, read_through, short_read, some_read}
use Rattle.mg_drive.proofs.tracing.trace_whole.Goals as goal

pub returns-in_err-whole-clause-short : goal.returns-in_err-whole-clause-short
returns-in_err-whole-clause-short g c =
    let is = err_from_is_err_and c.from_residual.result c.from_residual.ensures.1 in
    rw is.1 (inl refl)

pub returns-in_err-whole-clause-fronts : goal.returns-in_err-whole-clause-fronts
returns-in_err-whole-clause-fronts g c =
    let is = err_from_is_err_and c.from_residual.result c.from_residual.ensures.1 in
    rw is.1 (inl refl)

pub returns-in_err-whole-clause-back : goal.returns-in_err-whole-clause-back
returns-in_err-whole-clause-back g c = same_back c.args.run.now.plan.now (map g.C.NodeCalculator.told c.args.boxes.now.items) (map g.C.NodeCalculator.told c.args.boxes.now.items) refl

pub returns-in_err-lines-clause-short : goal.returns-in_err-lines-clause-short
returns-in_err-lines-clause-short g c =
    let is = err_from_is_err_and c.from_residual-in_err-lines.result c.from_residual-in_err-lines.ensures.1 in
    rw is.1 (inl refl)

pub returns-in_err-lines-clause-fronts : goal.returns-in_err-lines-clause-fronts
returns-in_err-lines-clause-fronts g c =
    let is = err_from_is_err_and c.from_residual-in_err-lines.result c.from_residual-in_err-lines.ensures.1 in
    rw is.1 (inl refl)

pub returns-in_err-lines-clause-back : goal.returns-in_err-lines-clause-back
returns-in_err-lines-clause-back g c = same_back c.args.run.now.plan.now (map g.C.NodeCalculator.told c.args.boxes.now.items) (map g.C.NodeCalculator.told c.args.boxes.now.items) refl

pub trace_job-requires-clause-job : goal.trace_job-requires-clause-job
trace_job-requires-clause-job g c = record { plan = c.requires.valid; inputs = c.in_ok-whole.ensures.fits }

pub returns-in_err-status-clause-short : goal.returns-in_err-status-clause-short
returns-in_err-status-clause-short g c =
    let is = err_from_is_err_and c.from_residual-in_err-status.result c.from_residual-in_err-status.ensures.1 in
    rw is.1 (elim c.in_err-status.ensures.short [
      | inl nothing ↦ inl nothing.0
      | inr short ↦ short_read c.args.run.now.plan.now c.in_ok-whole.whole.inputs (device (g.S.Source.told c.args.devices.now.input.now) (g.S.Source.told c.read_whole.new.input)) c.in_ok-whole.whole.end (device (g.K.Sink.told c.args.devices.now.output.now) (g.K.Sink.told c.trace_job.new.output)) (device (g.E.Sink.told c.args.devices.now.notes.now) (g.E.Sink.told c.trace_job.new.notes)) (device (map g.C.NodeCalculator.told c.args.boxes.now.items) (map g.C.NodeCalculator.told c.trace_job.new.boxes.items)) c.in_ok-whole.ensures.gathered short
    ])

pub returns-in_err-status-clause-fronts : goal.returns-in_err-status-clause-fronts
returns-in_err-status-clause-fronts g c =
    let is = err_from_is_err_and c.from_residual-in_err-status.result c.from_residual-in_err-status.ensures.1 in
    let input = device (g.S.Source.told c.args.devices.now.input.now) (g.S.Source.told c.read_whole.new.input) in
    rw is.1 (elim c.in_err-status.ensures.short [
      | inl nothing ↦ inl nothing.1
      | inr short ↦ some_read c.args.run.now.plan.now c.in_ok-whole.whole.inputs input c.in_ok-whole.whole.end _ (map g.C.NodeCalculator.told c.args.boxes.now.items) (map g.C.NodeCalculator.told c.trace_job.new.boxes.items) c.requires.boxes
          (record { plan = c.requires.valid; inputs = c.in_ok-whole.ensures.fits }) c.in_ok-whole.ensures.gathered short
    ])

pub returns-clause-traced : goal.returns-clause-traced
returns-clause-traced g c =
    traced_read c.args.run.now.report c.args.run.now.plan.now c.in_ok-whole.whole.inputs (device (g.S.Source.told c.args.devices.now.input.now) (g.S.Source.told c.read_whole.new.input)) c.in_ok-whole.whole.end c.in_ok-status.status _ _ _
    c.in_ok-whole.ensures.gathered c.in_ok-status.ensures.traced

pub returns-clause-used : goal.returns-clause-used
returns-clause-used g c =
    had_read c.args.run.now.report c.args.run.now.plan.now c.in_ok-whole.whole.inputs (device (g.S.Source.told c.args.devices.now.input.now) (g.S.Source.told c.read_whole.new.input)) c.in_ok-whole.whole.end c.in_ok-status.status _ _ _
    c.in_ok-whole.ensures.gathered c.in_ok-status.ensures.traced

pub returns-in_err-whole-clause-unnoted : goal.returns-in_err-whole-clause-unnoted
returns-in_err-whole-clause-unnoted g c =
    let is = err_from_is_err_and c.from_residual.result c.from_residual.ensures.1 in
    rw is.1 refl

pub returns-in_err-lines-clause-unnoted : goal.returns-in_err-lines-clause-unnoted
returns-in_err-lines-clause-unnoted g c =
    let is = err_from_is_err_and c.from_residual-in_err-lines.result c.from_residual-in_err-lines.ensures.1 in
    rw is.1 refl

pub returns-in_err-status-clause-unnoted : goal.returns-in_err-status-clause-unnoted
returns-in_err-status-clause-unnoted g c =
    let is = err_from_is_err_and c.from_residual-in_err-status.result c.from_residual-in_err-status.ensures.1 in
    rw is.1 c.in_err-status.ensures.unnoted

pub returns-in_err-whole-clause-read : goal.returns-in_err-whole-clause-read
returns-in_err-whole-clause-read g c =
    let is = err_from_is_err_and c.from_residual.result c.from_residual.ensures.1 in
    rw is.1 c.in_err-whole.ensures.short

pub returns-in_err-lines-clause-read : goal.returns-in_err-lines-clause-read
returns-in_err-lines-clause-read g c =
    let is = err_from_is_err_and c.from_residual-in_err-lines.result c.from_residual-in_err-lines.ensures.1 in
    rw is.1 (read_through c.args.run.now.plan.now c.in_ok-whole.whole.inputs (device (g.S.Source.told c.args.devices.now.input.now) (g.S.Source.told c.read_whole.new.input)) c.in_ok-whole.whole.end c.in_ok-whole.ensures.gathered)

pub returns-in_err-status-clause-read : goal.returns-in_err-status-clause-read
returns-in_err-status-clause-read g c =
    let is = err_from_is_err_and c.from_residual-in_err-status.result c.from_residual-in_err-status.ensures.1 in
    rw is.1 (read_through c.args.run.now.plan.now c.in_ok-whole.whole.inputs (device (g.S.Source.told c.args.devices.now.input.now) (g.S.Source.told c.read_whole.new.input)) c.in_ok-whole.whole.end c.in_ok-whole.ensures.gathered)
