use Rattle.std.proofs.Common.{map, inl, inr, refl}
use Rattle.std.proofs.lemmas.Result.{err_from_is_err_and}
use Rattle.mg_feed.specs.GeneratorSeen.{making}
use Rattle.mg_feed.specs.declared.feed_end.BatchEnd.TheVariants.{End}
use Rattle.mg_answer.specs.Held.{told_by}
use Rattle.mg_answer.specs.Devices.{device}
use Rattle.mg_drive.specs.Batches.{logged}
use Rattle.mg_drive.proofs.LinesRan.{stood_is_job}
use Rattle.mg_drive.proofs.PacketsRan.{none_summed}
use Rattle.mg_drive.proofs.PiecesGoOn.{are_to_come, of_number}
use Rattle.mg_drive.proofs.PiecesRan.{pieces_ran, pieces_short}
use Rattle.mg_drive.proofs.made.run_whole_alone.Goals as goal

pub returns-in_err-ends-clause-short : goal.returns-in_err-ends-clause-short
returns-in_err-ends-clause-short g c =
    let is = err_from_is_err_and c.from_residual.result c.from_residual.ensures.1 in
    rw is.1 (inl (record { unwritten = refl; uncalled = refl }))

pub run_batches_alone-requires-clause-fresh : goal.run_batches_alone-requires-clause-fresh
run_batches_alone-requires-clause-fresh g c = are_to_come c.args.run.now.plan.now c.args.number (making c.in_ok-ends.ends.0.generator) c.in_ok-ends.ensures.packets

pub run_batches_alone-requires-clause-nothing : goal.run_batches_alone-requires-clause-nothing
run_batches_alone-requires-clause-nothing g c = λ sink. none_summed c.args.run.now.plan.now c.in_ok-ends.ends.1 sink c.in_ok-ends.ensures.names c.in_ok-ends.ensures.nothing

pub returns-in_err-status-clause-short : goal.returns-in_err-status-clause-short
returns-in_err-status-clause-short g c =
    let is = err_from_is_err_and c.from_residual-in_err-status.result c.from_residual-in_err-status.ensures.1 in
    rw is.1 (elim c.in_err-status.ensures.short [
      | inl nothing ↦ inl nothing.1
      | inr was ↦ inr (pieces_short c.args.run.now.plan.now c.args.number (making was.batches.generator) (told_by g.S.Source.told g.K.Sink.told g.E.Sink.told c.args.devices.now c.run_batches_alone.new.devices).output (map g.C.NodeCalculator.told c.args.boxes.now.items) (map g.C.NodeCalculator.told c.run_batches_alone.new.boxes.items) was.net was.end was.inputs c.requires.boxes
          (of_number c.args.run.now.plan.now c.args.number (making c.in_ok-ends.ends.0.generator) (making was.batches.generator) was.end was.inputs c.in_ok-ends.ensures.packets was.given)
          (stood_is_job (logged g.C.NodeCalculator.laws c.args.run.now.plan.now was.inputs (map g.C.NodeCalculator.told c.args.boxes.now.items)) was.net was.stood) was.front was.unended was.stood was.back c.in_err-status.ensures.back)
    ])

pub returns-in_err-status-clause-unread : goal.returns-in_err-status-clause-unread
returns-in_err-status-clause-unread g c = c.in_err-status.ensures.unread refl

pub returns-clause-ran : goal.returns-clause-ran
returns-clause-ran g c =
    let h = c.in_ok-status.ensures.ran in
    pieces_ran g.C.NodeCalculator.laws c.args.run.now.report c.args.run.now.plan.now c.args.number (making h.batches.generator) (told_by g.S.Source.told g.K.Sink.told g.E.Sink.told c.args.devices.now c.run_batches_alone.new.devices).output (told_by g.S.Source.told g.K.Sink.told g.E.Sink.told c.args.devices.now c.run_batches_alone.new.devices).notes (device (map g.C.NodeCalculator.told c.args.boxes.now.items) (map g.C.NodeCalculator.told c.run_batches_alone.new.boxes.items)) c.in_ok-status.status h.end h.inputs
    (of_number c.args.run.now.plan.now c.args.number (making c.in_ok-ends.ends.0.generator) (making h.batches.generator) (End h.end) h.inputs c.in_ok-ends.ensures.packets h.given) c.in_ok-status.ensures.back h.wrote h.had

pub returns-clause-unread : goal.returns-clause-unread
returns-clause-unread g c = c.in_ok-status.ensures.unread refl

pub returns-in_err-ends-clause-unnoted : goal.returns-in_err-ends-clause-unnoted
returns-in_err-ends-clause-unnoted g c =
    let is = err_from_is_err_and c.from_residual.result c.from_residual.ensures.1 in
    rw is.1 refl

pub returns-in_err-status-clause-unnoted : goal.returns-in_err-status-clause-unnoted
returns-in_err-status-clause-unnoted g c =
    let is = err_from_is_err_and c.from_residual-in_err-status.result c.from_residual-in_err-status.ensures.1 in
    rw is.1 c.in_err-status.ensures.unnoted
