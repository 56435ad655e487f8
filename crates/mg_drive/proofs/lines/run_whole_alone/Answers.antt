use Rattle.std.proofs.Common.{map, inl, inr, refl}
use Rattle.std.proofs.lemmas.Result.{err_from_is_err_and}
use Rattle.mg_feed.specs.FeedSeen.{fed}
use Rattle.mg_answer.specs.Held.{told_by}
use Rattle.mg_answer.specs.Devices.{device}
use Rattle.mg_feed.specs.Graph.{inputs_of}
use Rattle.mg_answer.proofs.Gathering.{read-none}
use Rattle.mg_drive.specs.Batches.{logged}
use Rattle.mg_drive.proofs.LinesRan.{none_told, front_lines, unread_yet, first_call, first_given, lines_ran, lines_short, stood_is_job}
use Rattle.mg_drive.proofs.lines.run_whole_alone.Goals as goal

pub returns-in_err-ends-clause-short : goal.returns-in_err-ends-clause-short
returns-in_err-ends-clause-short g c =
    let is = err_from_is_err_and c.from_residual.result c.from_residual.ensures.1 in
    rw is.1 (inl (read-none (inputs_of c.args.run.now.plan.now) (g.S.Source.told c.args.devices.now.input.now), record { unwritten = refl; uncalled = refl }))

pub run_batches_alone-requires-clause-nothing : goal.run_batches_alone-requires-clause-nothing
run_batches_alone-requires-clause-nothing g c = λ sink. none_told c.args.run.now.plan.now c.in_ok-ends.ends.1 sink c.in_ok-ends.ensures.text

pub returns-in_err-status-clause-short : goal.returns-in_err-status-clause-short
returns-in_err-status-clause-short g c =
    let is = err_from_is_err_and c.from_residual-in_err-status.result c.from_residual-in_err-status.ensures.1 in
    rw is.1 (elim c.in_err-status.ensures.short [
      | inl nothing ↦ inl (
        elim nothing.0 [
          | inl same ↦ unread_yet c.args.run.now.plan.now (told_by g.S.Source.told g.K.Sink.told g.E.Sink.told c.args.devices.now c.run_batches_alone.new.devices).input same
          | inr read ↦ elim read [
            | inl further ↦ first_call c.args.run.now.plan.now (told_by g.S.Source.told g.K.Sink.told g.E.Sink.told c.args.devices.now c.run_batches_alone.new.devices).input (fed c.in_ok-ends.ends.0.feed) c.in_ok-ends.ensures.feed further
            | inr given ↦ first_given c.args.run.now.plan.now (told_by g.S.Source.told g.K.Sink.told g.E.Sink.told c.args.devices.now c.run_batches_alone.new.devices).input (fed given.batches.feed) given.end given.inputs given.given
          ]
        ],
        nothing.1,
      )
      | inr was ↦ inr (lines_short c.args.run.now.plan.now (told_by g.S.Source.told g.K.Sink.told g.E.Sink.told c.args.devices.now c.run_batches_alone.new.devices).input (told_by g.S.Source.told g.K.Sink.told g.E.Sink.told c.args.devices.now c.run_batches_alone.new.devices).output (map g.C.NodeCalculator.told c.args.boxes.now.items) (map g.C.NodeCalculator.told c.run_batches_alone.new.boxes.items) was.net (fed was.batches.feed) was.end was.at was.inputs c.requires.boxes was.given was.last (stood_is_job (logged g.C.NodeCalculator.laws c.args.run.now.plan.now was.inputs (map g.C.NodeCalculator.told c.args.boxes.now.items)) was.net was.stood)
          (front_lines (logged g.C.NodeCalculator.laws c.args.run.now.plan.now was.inputs (map g.C.NodeCalculator.told c.args.boxes.now.items)) (told_by g.S.Source.told g.K.Sink.told g.E.Sink.told c.args.devices.now c.run_batches_alone.new.devices).output.before (told_by g.S.Source.told g.K.Sink.told g.E.Sink.told c.args.devices.now c.run_batches_alone.new.devices).output.now (stood_is_job (logged g.C.NodeCalculator.laws c.args.run.now.plan.now was.inputs (map g.C.NodeCalculator.told c.args.boxes.now.items)) was.net was.stood) was.front) was.stood was.back c.in_err-status.ensures.back)
    ])

pub returns-clause-ran : goal.returns-clause-ran
returns-clause-ran g c =
    let h = c.in_ok-status.ensures.ran in
    lines_ran c.args.run.now.report c.args.run.now.plan.now (told_by g.S.Source.told g.K.Sink.told g.E.Sink.told c.args.devices.now c.run_batches_alone.new.devices) (device (map g.C.NodeCalculator.told c.args.boxes.now.items) (map g.C.NodeCalculator.told c.run_batches_alone.new.boxes.items)) c.in_ok-status.status (fed h.batches.feed) h.end h.inputs h.given c.in_ok-status.ensures.back h.wrote h.had

pub returns-in_err-ends-clause-unnoted : goal.returns-in_err-ends-clause-unnoted
returns-in_err-ends-clause-unnoted g c =
    let is = err_from_is_err_and c.from_residual.result c.from_residual.ensures.1 in
    rw is.1 refl

pub returns-in_err-status-clause-unnoted : goal.returns-in_err-status-clause-unnoted
returns-in_err-status-clause-unnoted g c =
    let is = err_from_is_err_and c.from_residual-in_err-status.result c.from_residual-in_err-status.ensures.1 in
    rw is.1 c.in_err-status.ensures.unnoted
