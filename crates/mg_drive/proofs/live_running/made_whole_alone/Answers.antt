use Rattle.std.proofs.Common.{map, ◌∷◌, inl, inr}
use Rattle.std.proofs.lemmas.Result.{err_from_is_err_and}
use Rattle.mg_answer.specs.Devices.{device}
use Rattle.mg_answer.specs.Held.{told_by}
use Rattle.mg_feed.specs.GeneratorSeen.{making}
use Rattle.mg_feed.specs.declared.feed_end.BatchEnd.TheVariants.{End}
use Rattle.mg_drive.specs.Code.Live.{end_by}
use Rattle.mg_drive.proofs.PiecesGoOn.{are_to_come, of_number_came}
use Rattle.mg_drive.proofs.LiveMade.{live_made, short_made}
use Rattle.mg_drive.proofs.live_running.made_whole_alone.Goals as goal

pub run_live_alone-requires-clause-fresh : goal.run_live_alone-requires-clause-fresh
run_live_alone-requires-clause-fresh g c = are_to_come c.args.run.now.plan.now c.args.number (making c.in_ok-pieces.pieces.generator) c.in_ok-pieces.ensures.packets

pub returns-in_err-status-clause-short : goal.returns-in_err-status-clause-short
returns-in_err-status-clause-short g c =
    let is = err_from_is_err_and c.from_residual-in_err-status.result c.from_residual-in_err-status.ensures.1 in
    rw is.1 (elim c.in_err-status.ensures.short [
      | inl nothing ↦ inl nothing.1
      | inr was ↦ inr (short_made c.args.run.now.plan.now c.args.number c.in_ok-pieces.pieces.most was.batches.most (making was.batches.generator) (told_by g.S.Source.told g.K.Sink.told g.E.Sink.told c.args.devices.now c.run_live_alone.new.devices).output (device (map g.C.NodeCalculator.told c.args.boxes.now.items) (map g.C.NodeCalculator.told c.run_live_alone.new.boxes.items))
          was.ended was.base was.earlier was.takens was.streams c.in_ok-pieces.ensures.most
          (of_number_came c.args.run.now.plan.now c.args.number c.in_ok-pieces.pieces.most was.batches.most (making c.in_ok-pieces.pieces.generator) (making was.batches.generator) (end_by was.ended) (was.base ∷ was.earlier) c.in_ok-pieces.ensures.packets was.in_turn) was.so_far was.is_job was.solution was.front was.had)
    ])

pub returns-clause-ran : goal.returns-clause-ran
returns-clause-ran g c =
    let h = c.in_ok-status.ensures.ran in
    live_made c.args.run.now.report c.args.run.now.plan.now c.args.number c.in_ok-pieces.pieces.most h.batches.most (making h.batches.generator) (told_by g.S.Source.told g.K.Sink.told g.E.Sink.told c.args.devices.now c.run_live_alone.new.devices).output (told_by g.S.Source.told g.K.Sink.told g.E.Sink.told c.args.devices.now c.run_live_alone.new.devices).notes (device (map g.C.NodeCalculator.told c.args.boxes.now.items) (map g.C.NodeCalculator.told c.run_live_alone.new.boxes.items)) c.in_ok-status.status h.end h.base h.earlier h.first h.later c.in_ok-pieces.ensures.most
    (of_number_came c.args.run.now.plan.now c.args.number c.in_ok-pieces.pieces.most h.batches.most (making c.in_ok-pieces.pieces.generator) (making h.batches.generator) (End h.end) (h.base ∷ h.earlier) c.in_ok-pieces.ensures.packets h.in_turn) h.in_order h.run
