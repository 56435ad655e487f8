use Rattle.std.proofs.Common.{◌∙◌, ◌++◌, ◌+◌, None, Some, List, map, drop, slice_get, vec_len, ap, sym, arith}
use Rattle.std.specs.List.{filter_map}
use Rattle.mg_calc.specs.declared.plan_stream.PlanStream.{PlanStream}
use Rattle.mg_feed.specs.Graph.{numbered}
use Rattle.mg_feed.proofs.Graphs.{inputs-more, names-next}
use Rattle.mg_feed.proofs.graph.placed_streams.Goals as goal
use Rattle.mg_feed.proofs.graph.placed_streams.Goals.{in-Some+in_ok-name+in_ok-push, in_default}

pub loop-input-preserved : goal.loop-input-preserved
loop-input-preserved c =
    let streams = c.args.plan.now.streams in
    let inputs = c.args.plan.now.inputs in
    let i = c.loop-input.input in
    let test = c.loop-input-test.true in
    let end = c.len-input-end.ensures in
    let few = c.loop-input.invariant.few in
    elim c.match-stream_of.branch [
      | in-Some+in_ok-name+in_ok-push w ↦ record {
        names = names-next _ c.loop-input.placed.items c.match-stream_of.placed.items (vec_len c.loop-input.placed) (vec_len c.match-stream_of.placed) w.in-Some.stream.now
            (filter_map (slice_get streams) (drop i inputs)) (filter_map (slice_get streams) (drop (i + 1) inputs)) (record { name = w.in_ok-name.name; place = w.len-place.result })
            c.loop-input.invariant.names (inputs-more streams inputs i (Some w.in-Some.stream.now) (omega (arith, test, end)) w.in-Some.ensures)
            w.in_ok-name.ensures w.len-place.ensures
            (ap (λ v. v.items) w.placed-is ∙ w.in_ok-push.ensures.items) (ap vec_len w.placed-is ∙ w.in_ok-push.ensures.len);
        few = let a = ap vec_len w.placed-is in let b = w.in_ok-push.ensures.len in omega (arith, a, b, few);
      }
      | in_default w ↦ record {
        names = c.loop-input.invariant.names
            ∙ ap (λ (l : List PlanStream). c.loop-input.placed.items ++ numbered (vec_len c.loop-input.placed) (map (λ s. s.name) l))
            (inputs-more streams inputs i None (omega (arith, test, end)) (w.in_default.ensures {u = tt}))
            ∙ ap (λ v. v.items ++ numbered (vec_len v) (map (λ s. s.name) (filter_map (slice_get streams) (drop (i + 1) inputs)))) (sym w.placed-is);
        few = let a = ap vec_len w.placed-is in omega (arith, a, few);
      }
    ]
