use Rattle.std.proofs.Common.{◌∙◌, ◌++◌, ap, ap₂}
use Rattle.mg_trace.specs.Job.{side_lines, all_stream_lines}
use Rattle.mg_trace.specs.Code.{data_text}
use Rattle.mg_trace.proofs.Texts.{job_pieces}
use Rattle.mg_trace.proofs.job_text.write_job.Goals as goal

pub returns : goal.returns
returns c =
    job_pieces c.args.plan.now c.args.inputs.now c.push_sides.new.text.items c.push_streams.new.text.items c.push_end.new.text.items
    (c.in_ok-push_sides.ensures ∙ ap (λ l. l ++ data_text (side_lines c.args.inputs.now.sides c.args.plan.now.sides)) c.new-text.ensures.items)
    (c.in_ok-push_streams.ensures
    ∙ ap₂ (λ names streams. c.push_sides.new.text.items ++ data_text (all_stream_lines c.args.inputs.now.ended names streams))
    (c.deref.ensures.value ∙ c.in_ok-names.ensures) c.as_slice.ensures)
    c.in_ok-push_end.ensures
