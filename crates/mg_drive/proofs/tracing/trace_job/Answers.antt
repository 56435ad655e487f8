use Rattle.std.proofs.Common.{map, refl, inl, inr, ap, ◌∙◌}
use Rattle.std.proofs.lemmas.Result.{IfOk-weaker, on_err_weaker}
use Rattle.mg_drive.proofs.BoxesBack.{either, came_back_then, same_back}
use Rattle.mg_drive.proofs.RecordedRuns.{opened, job_traced, job_short, stood_traced, stood_untraced}
use Rattle.mg_drive.proofs.tracing.trace_job.Goals as goal

pub trace_net-traced-requires : goal.trace_net-traced-requires
trace_net-traced-requires g c = record { made = record { inputs = c.args.opening.whole.inputs; boxes = map g.C.NodeCalculator.told c.replace-handed.result.items; made = c.in-Ok.ensures.made } }

pub returns-in-Ok-clause-traced : goal.returns-in-Ok-clause-traced
returns-in-Ok-clause-traced g c = IfOk-weaker c.trace_net-traced.result _ _ (λ status f.
    job_traced c.args.run.now.report c.args.run.now.plan.now c.args.opening.whole.inputs (map g.C.NodeCalculator.told c.args.boxes.now.items) (map g.C.NodeCalculator.told c.replace-handed.result.items) (map g.C.NodeCalculator.told c.give_back.result.items) c.args.opening.whole.end status _ _ c.in-Ok.net c.trace_net-traced.new.net.net c.requires.boxes
    (ap (λ v. map g.C.NodeCalculator.told v.items) c.replace-handed.ensures.value) c.give_back.ensures.told
    (f c.args.opening.whole.inputs (map g.C.NodeCalculator.told c.replace-handed.result.items) (g.K.Sink.told c.args.output.now) c.in-Ok.ensures.made (opened (g.K.Sink.told c.args.output.now) c.args.opening.blocks _ c.requires.opened))) c.trace_net-traced.ensures.traced

pub returns-in-Ok-clause-short : goal.returns-in-Ok-clause-short
returns-in-Ok-clause-short g c = on_err_weaker c.trace_net-traced.result (λ f.
    inr (job_short c.args.run.now.plan.now c.args.opening.whole.inputs (map g.C.NodeCalculator.told c.args.boxes.now.items) (map g.C.NodeCalculator.told c.replace-handed.result.items) (map g.C.NodeCalculator.told c.give_back.result.items) (g.K.Sink.told c.args.output.now) (g.K.Sink.told c.trace_net-traced.new.output) c.trace_net-traced.new.net.net
    (ap (λ v. map g.C.NodeCalculator.told v.items) c.replace-handed.ensures.value) c.give_back.ensures.told
    (f c.args.opening.whole.inputs (map g.C.NodeCalculator.told c.replace-handed.result.items) (g.K.Sink.told c.args.output.now) c.in-Ok.ensures.made (opened (g.K.Sink.told c.args.output.now) c.args.opening.blocks _ c.requires.opened)))) c.trace_net-traced.ensures.short

pub returns-in-Ok-clause-back : goal.returns-in-Ok-clause-back
returns-in-Ok-clause-back g c =
    let same = ap (λ v. map g.C.NodeCalculator.told v.items) c.replace-handed.ensures.value in
    let open_ = opened (g.K.Sink.told c.args.output.now) c.args.opening.blocks _ c.requires.opened in
    came_back_then c.args.run.now.plan.now c.args.opening.whole.inputs (map g.C.NodeCalculator.told c.args.boxes.now.items) (map g.C.NodeCalculator.told c.replace-handed.result.items) (map g.C.NodeCalculator.told c.give_back.result.items) c.in-Ok.net c.trace_net-traced.new.net.net same c.in-Ok.ensures.made c.trace_net-traced.ensures.keeps
    (either c.trace_net-traced.result
    (IfOk-weaker c.trace_net-traced.result _ _ (λ status f. stood_traced c.args.run.now.report c.args.run.now.plan.now c.args.opening.whole.inputs (map g.C.NodeCalculator.told c.args.boxes.now.items) (map g.C.NodeCalculator.told c.replace-handed.result.items) c.args.opening.whole.end status _ _ c.trace_net-traced.new.net.net same
    (f c.args.opening.whole.inputs (map g.C.NodeCalculator.told c.replace-handed.result.items) (g.K.Sink.told c.args.output.now) c.in-Ok.ensures.made open_)) c.trace_net-traced.ensures.traced)
    (on_err_weaker c.trace_net-traced.result (λ f. stood_untraced c.args.run.now.plan.now c.args.opening.whole.inputs (map g.C.NodeCalculator.told c.args.boxes.now.items) (map g.C.NodeCalculator.told c.replace-handed.result.items) (g.K.Sink.told c.args.output.now) _ c.trace_net-traced.new.net.net same
    (f c.args.opening.whole.inputs (map g.C.NodeCalculator.told c.replace-handed.result.items) (g.K.Sink.told c.args.output.now) c.in-Ok.ensures.made open_)) c.trace_net-traced.ensures.short)) c.give_back.ensures.told

pub returns-clause-short : goal.returns-clause-short
returns-clause-short g c = inl (refl, ap (λ v. map g.C.NodeCalculator.told v.items) (c.in-Err.ensures.returned ∙ c.replace-handed.ensures.value))

pub returns-clause-back : goal.returns-clause-back
returns-clause-back g c =
    same_back c.args.run.now.plan.now (map g.C.NodeCalculator.told c.args.boxes.now.items) _ (ap (λ v. map g.C.NodeCalculator.told v.items) (c.in-Err.ensures.returned ∙ c.replace-handed.ensures.value))
