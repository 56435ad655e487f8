use Rattle.std.proofs.Common.{◌⊎◌, map, inl, inr, refl}
use Rattle.std.proofs.lemmas.Result.{err_from_is_err_and}
use Rattle.mg_calc.specs.declared.inputs.Inputs.{Inputs}
use Rattle.mg_feed.specs.Graph.{inputs_of}
use Rattle.mg_feed.specs.FeedSeen.{fed}
use Rattle.mg_answer.specs.Devices.{device}
use Rattle.mg_answer.specs.Held.{told_by}
use Rattle.mg_answer.proofs.Gathering.{read-none}
use Rattle.mg_drive.specs.Code.Lines.{IsNew}
use Rattle.mg_drive.proofs.LinesRan.{unread_yet, first_call, first_given}
use Rattle.mg_drive.proofs.LiveLines.{live_lines, live_lines_short, may_read}
use Rattle.mg_drive.proofs.live_running.lines_whole.Goals as goal

pub returns-in_err-parts-clause-short : goal.returns-in_err-parts-clause-short
returns-in_err-parts-clause-short g c =
    let is = err_from_is_err_and c.from_residual.result c.from_residual.ensures.1 in
    rw is.1 (inl (read-none (inputs_of c.args.run.now.plan.now) (g.S.Source.told c.args.devices.now.input.now), record { unwritten = refl; uncalled = refl }))

pub returns-in_err-feed-clause-short : goal.returns-in_err-feed-clause-short
returns-in_err-feed-clause-short g c =
    let is = err_from_is_err_and c.from_residual-in_err-feed.result c.from_residual-in_err-feed.ensures.1 in
    rw is.1 (inl (read-none (inputs_of c.args.run.now.plan.now) (g.S.Source.told c.args.devices.now.input.now), record { unwritten = refl; uncalled = refl }))

pub returns-in_err-text-clause-short : goal.returns-in_err-text-clause-short
returns-in_err-text-clause-short g c =
    let is = err_from_is_err_and c.from_residual-in_err-text.result c.from_residual-in_err-text.ensures.1 in
    rw is.1 (inl (read-none (inputs_of c.args.run.now.plan.now) (g.S.Source.told c.args.devices.now.input.now), record { unwritten = refl; uncalled = refl }))

pub returns-in_err-status-clause-short : goal.returns-in_err-status-clause-short
returns-in_err-status-clause-short g c =
    let is = err_from_is_err_and c.from_residual-in_err-status.result c.from_residual-in_err-status.ensures.1 in
    let whole = c.args.run.now.plan.now in
    let devices = told_by g.S.Source.told g.K.Sink.told g.E.Sink.told c.args.devices.now c.run_live.new.devices in
    let boxes = device (map g.C.NodeCalculator.told c.args.boxes.now.items) (map g.C.NodeCalculator.told c.run_live.new.boxes.items) in
    let new : IsNew (fed c.in_ok-feed.feed) whole = record { graph = c.in_ok-feed.ensures.graph; stands = c.in_ok-feed.ensures.stands; unread = c.in_ok-feed.ensures.unread } in
    rw is.1 (elim c.in_err-status.ensures.short [
      | inl nothing ↦ inl (
        elim nothing.0 [
          | inl same ↦ unread_yet whole devices.input same
          | inr read ↦ elim read [
            | inl further ↦ first_call whole devices.input (fed c.in_ok-feed.feed) new (further (inl new))
            | inr given ↦ first_given whole devices.input (fed given.batches.feed) given.end given.inputs given.given
          ]
        ],
        nothing.1,
      )
      | inr was ↦ inr (live_lines_short c.args.early whole devices.input devices.output boxes (fed was.batches.feed) was.ended was.at was.base was.earlier was.takens was.streams was.in_turn.1
          (may_read whole devices.input (fed was.batches.feed) was.ended was.at (IsNew (fed was.batches.feed) whole ⊎ (Inputs × Unit {0})) (inr (was.base, tt)) was.last) was.so_far was.is_job was.solution was.front was.had)
    ])

pub returns-clause-ran : goal.returns-clause-ran
returns-clause-ran g c =
    let h = c.in_ok-status.ensures.ran in
    live_lines c.args.run.now.report c.args.early c.args.run.now.plan.now c.in_ok-status.status (told_by g.S.Source.told g.K.Sink.told g.E.Sink.told c.args.devices.now c.run_live.new.devices) (device (map g.C.NodeCalculator.told c.args.boxes.now.items) (map g.C.NodeCalculator.told c.run_live.new.boxes.items)) (fed h.batches.feed) h.end h.base h.earlier h.first h.later h.in_turn.1 h.in_order h.run
