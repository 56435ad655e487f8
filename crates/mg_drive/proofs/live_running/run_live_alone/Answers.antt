use Rattle.std.proofs.Common.{map, inl, inr, refl, sym, subst}
use Rattle.std.proofs.lemmas.Result.{err_from_is_err_and}
use Rattle.mg_calc.specs.declared.plan.Plan.{Plan}
use Rattle.mg_calc.specs.Plan.{IsValid}
use Rattle.mg_free.specs.declared.plan.FreePlan.{FreePlan}
use Rattle.mg_free.proofs.CoreValid.{core_is_valid}
use Rattle.mg_answer.specs.Devices.{device}
use Rattle.mg_answer.specs.Held.{told_by}
use Rattle.mg_sched.specs.Made.{BoxesFit}
use Rattle.mg_drive.specs.Code.LiveRunning.{HasRunLive, CoreShort, ReadsWhere}
use Rattle.mg_drive.proofs.LiveRan.{live_ran, live_short, live_given}
use Rattle.mg_drive.proofs.live_running.run_live_alone.Goals as goal

pub returns-in_err-readers-clause-short : goal.returns-in_err-readers-clause-short
returns-in_err-readers-clause-short g c =
    let is = err_from_is_err_and c.from_residual.result c.from_residual.ensures.1 in
    rw is.1 (inl (inl refl, record { unwritten = refl; uncalled = refl }))

pub returns-in_err-nodes-clause-short : goal.returns-in_err-nodes-clause-short
returns-in_err-nodes-clause-short g c =
    let is = err_from_is_err_and c.from_residual-in_err-nodes.result c.from_residual-in_err-nodes.ensures.1 in
    rw is.1 (inl (inl refl, record { unwritten = refl; uncalled = refl }))

pub run_batches_alone-requires-clause-valid : goal.run_batches_alone-requires-clause-valid
run_batches_alone-requires-clause-valid g c = subst (λ (p : FreePlan). IsValid p.core) (sym c.requires.parts) (core_is_valid c.args.run.now.plan.now c.requires.valid)

pub returns-in_err-status-clause-short : goal.returns-in_err-status-clause-short
returns-in_err-status-clause-short g c =
    let is = err_from_is_err_and c.from_residual-in_err-status.result c.from_residual-in_err-status.ensures.1 in
    let devices = told_by g.S.Source.told g.K.Sink.told g.E.Sink.told c.args.devices.now c.run_batches_alone.new.devices in
    let boxes = map g.C.NodeCalculator.told c.args.boxes.now.items in
    let now = map g.C.NodeCalculator.told c.run_batches_alone.new.boxes.items in
    let reads = ReadsWhere g.B.Batches.is_fresh g.B.Batches.is_due g.B.Batches.reads_on in
    rw is.1 (elim c.in_err-status.ensures.short [
      | inl nothing ↦ inl (
        elim nothing.0 [
          | inl same ↦ inl same
          | inr read ↦ elim read [
            | inl further ↦ inr (inl further.1)
            | inr given ↦ inr (inr (live_given (g.B.Batches.gives g.C.NodeCalculator.laws) (g.B.Batches.came g.C.NodeCalculator.laws) g.B.Batches.is_due c.args.ends.0
                (record { batches = given.batches.batches; plan = c.args.run.now.plan.now; whole = given.batches.whole.plan.now; nodes = given.batches.whole.nodes.now; streams = given.batches.whole.streams.now; ended = given.batches.end; rested = given.batches.rested; frees = given.batches.nodes.free; takers = given.batches.nodes.takers.items })
                c.args.parts.core devices.input given.end given.inputs given.given))
          ]
        ],
        nothing.1,
      )
      | inr was ↦ inr (subst (λ (p : Plan). CoreShort g.C.NodeCalculator.laws (g.B.Batches.came g.C.NodeCalculator.laws) reads g.T.Telling.has_told g.T.Telling.form c.args.ends.0 p devices (device boxes now)) was.given.of.whole_is
          (live_short (g.B.Batches.gives g.C.NodeCalculator.laws) (g.B.Batches.came g.C.NodeCalculator.laws) g.B.Batches.is_due reads g.T.Telling.has_told g.T.Telling.form c.args.ends.0
          (record { batches = was.batches.batches; plan = c.args.run.now.plan.now; whole = was.batches.whole.plan.now; nodes = was.batches.whole.nodes.now; streams = was.batches.whole.streams.now; ended = was.batches.end; rested = was.batches.rested; frees = was.batches.nodes.free; takers = was.batches.nodes.takers.items })
          c.args.parts.core devices boxes now was.net was.at was.end was.inputs (subst (λ (p : FreePlan). BoxesFit p.core boxes) (sym c.requires.parts) c.requires.boxes) was.given was.last was.stood was.back c.in_err-status.ensures.back was.front))
    ])

pub returns-clause-ran : goal.returns-clause-ran
returns-clause-ran g c =
    let h = c.in_ok-status.ensures.ran in
    let devices = told_by g.S.Source.told g.K.Sink.told g.E.Sink.told c.args.devices.now c.run_batches_alone.new.devices in
    let boxes = device (map g.C.NodeCalculator.told c.args.boxes.now.items) (map g.C.NodeCalculator.told c.run_batches_alone.new.boxes.items) in
    subst (λ (p : Plan). HasRunLive g.C.NodeCalculator.laws (g.B.Batches.gives g.C.NodeCalculator.laws) (g.B.Batches.came g.C.NodeCalculator.laws) g.T.Telling.form c.args.run.now.report c.args.ends.0 p c.in_ok-status.status devices boxes) h.given.of.whole_is
    (live_ran (g.B.Batches.gives g.C.NodeCalculator.laws) (g.B.Batches.came g.C.NodeCalculator.laws) g.B.Batches.is_due g.T.Telling.form c.args.run.now.report c.args.ends.0
    (record { batches = h.batches.batches; plan = c.args.run.now.plan.now; whole = h.batches.whole.plan.now; nodes = h.batches.whole.nodes.now; streams = h.batches.whole.streams.now; ended = h.batches.end; rested = h.batches.rested; frees = h.batches.nodes.free; takers = h.batches.nodes.takers.items })
    c.args.parts.core c.in_ok-status.status devices boxes h.end h.inputs h.given h.wrote h.had c.in_ok-status.ensures.back)
