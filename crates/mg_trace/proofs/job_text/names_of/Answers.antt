use Rattle.std.proofs.Common.{◌∙◌, ◌++◌, ◌+◌, None, Some, List, map, drop, slice_get, ap, sym, arith}
use Rattle.std.specs.List.{filter_map}
use Rattle.mg_calc.specs.declared.plan_stream.PlanStream.{PlanStream}
use Rattle.mg_feed.proofs.Graphs.{inputs-more, mapped-some}
use Rattle.mg_trace.proofs.job_text.names_of.Goals as goal
use Rattle.mg_trace.proofs.job_text.names_of.Goals.{in-Some+in_ok-name+in_ok-push, in_default}

pub loop-input-preserved : goal.loop-input-preserved
loop-input-preserved c =
    let streams = c.args.plan.now.streams in
    let inputs = c.args.plan.now.inputs in
    let i = c.loop-input.input in
    let test = c.loop-input-test.true in
    let end = c.len-input-end.ensures in
    elim c.match-stream_of.branch [
      | in-Some+in_ok-name+in_ok-push w ↦
          mapped-some (λ (s : PlanStream). s.name) _ c.loop-input.names.items c.match-stream_of.names.items w.in-Some.stream.now
          (filter_map (slice_get streams) (drop i inputs)) (filter_map (slice_get streams) (drop (i + 1) inputs)) w.in_ok-name.name
          c.loop-input.invariant (inputs-more streams inputs i (Some w.in-Some.stream.now) (omega (arith, test, end)) w.in-Some.ensures) w.in_ok-name.ensures
          (ap (λ v. v.items) w.names-is ∙ w.in_ok-push.ensures.items)
      | in_default w ↦
          c.loop-input.invariant
          ∙ ap (λ (l : List PlanStream). c.loop-input.names.items ++ map (λ s. s.name) l) (inputs-more streams inputs i None (omega (arith, test, end)) (w.in_default.ensures {u = tt}))
          ∙ ap (λ v. v.items ++ map (λ s. s.name) (filter_map (slice_get streams) (drop (i + 1) inputs))) (sym w.names-is)
    ]
